-- The log as a run begins with it.
use Rattle.std.proofs.Common.{◌≡◌, ◌≢◌, ℕ, List, [], ◌∷◌, length, refl, sym, ◌∙◌, ap, subst, arith, inl, inr}
use Rattle.campaign_law.specs.declared.entry.Entry.{Entry}
use Rattle.crash_log.specs.Disk.{Stays, Elapses, LeavesOnly}
use Rattle.crash_log.specs.Log.{IsLog, IsBadAt, HoldsLog}
use Rattle.crash_log.specs.Reading.{OnlyRead}
use Rattle.crash_log.proofs.Moments.{started, goes_on, leaves_then}
use Rattle.tabletop.specs.declared.log_end.LogEnded.{LogEnded}
use Rattle.tabletop.specs.declared.log_end.LogEnded.TheVariants.{Plain, Usage, DiskFault, BadLog, OtherCampaign, Full}
use Rattle.tabletop.specs.Logged.{Begins, HasNoLog, IsOtherLog}

none_of_length : (file : List ℕ) → length file ≡ 0 → file ≡ []
none_of_length [] h = refl
none_of_length (byte ∷ file) h = absurd (omega (arith, h))

pub none_there : (file : List ℕ) (n : ℕ) → n ≡ length file → n ≡ 0 → file ≡ []
none_there file n is none = none_of_length file (sym is ∙ none)

pub some_there : (file : List ℕ) (n : ℕ) → n ≡ length file → (n ≡ 0 → ⊥) → file ≡ [] → ⊥
some_there file n is some none = some (is ∙ ap length none)

-- the same file
pub no_log_same : (Tells : Type 0) (ended : LogEnded) (text file other : List ℕ) → (Tells → file ≡ other) → HasNoLog Tells ended text file → HasNoLog Tells ended text other
no_log_same Tells (Plain e) text file other same h = h
no_log_same Tells Usage text file other same h = h
no_log_same Tells DiskFault text file other same h = h
no_log_same Tells (BadLog at) text file other same h = λ told. subst (λ (f : List ℕ). (f ≢ []) × IsBadAt f at) (same told) (h told)
no_log_same Tells OtherCampaign text file other same h = λ told. subst (IsOtherLog text) (same told) (h told)
no_log_same Tells Full text file other same h = h

module _ {D : Type 0} (seen : D → List ℕ) (may_leave : D → List ℕ → Type 0) (moment : D → ℕ) (left_since : D → ℕ → List ℕ → Type 0) where
  pub read_once : (old new : D) → Stays seen may_leave old new → Elapses moment left_since may_leave old new → ((c : List ℕ) → left_since old (moment old) c → may_leave old c)
      → OnlyRead seen may_leave moment left_since old new
  read_once old new stays time only_now = record {
    stays = stays;
    time = goes_on moment left_since may_leave old old new (may_leave old) (started moment left_since may_leave old (may_leave old) only_now) time stays.no_more;
  }

  pub read_again : (old middle new : D) → OnlyRead seen may_leave moment left_since old middle → Stays seen may_leave middle new → Elapses moment left_since may_leave middle new
      → OnlyRead seen may_leave moment left_since old new
  read_again old middle new r stays time = record {
    stays = record {
      seen_same = stays.seen_same ∙ r.stays.seen_same;
      no_more = λ c left. r.stays.no_more c (stays.no_more c left);
      no_fewer = λ c left. stays.no_fewer c (r.stays.no_fewer c left);
    };
    time = goes_on moment left_since may_leave old middle new (may_leave old) r.time time (λ c left. r.stays.no_more c (stays.no_more c left));
  }

  -- a log was made
  pub begins_made : (text : List ℕ) (kept : List Entry) (old new : D) (end : ℕ) → seen old ≡ [] → kept ≡ [] → HoldsLog seen may_leave new end text []
      → Begins seen may_leave moment left_since text kept old new end
  begins_made text kept old new end none empty holds = record {
    found = inl (none, empty);
    holds = subst (HoldsLog seen may_leave new end text) (sym empty) holds;
    until = λ there. absurd (there none);
  }

  -- or recovered
  pub begins_found : (text : List ℕ) (kept : List Entry) (old middle new : D) (end : ℕ) → OnlyRead seen may_leave moment left_since old middle
      → HoldsLog seen may_leave new end text kept → seen new ≡ seen middle → LeavesOnly moment left_since middle new (may_leave middle)
      → Begins seen may_leave moment left_since text kept old new end
  begins_found text kept old middle new end read holds same run = record {
    found = inr (subst (IsLog text kept) (same ∙ read.stays.seen_same) holds.log);
    holds = holds;
    until = λ there. leaves_then moment left_since may_leave old middle new (may_leave old) (may_leave middle) read.time run read.stays.no_more;
  }
