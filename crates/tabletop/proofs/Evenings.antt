-- How an evening with a log ends, from what its parts did.
use Rattle.std.proofs.Common.{◌≡◌, ◌≤◌, ◌⊎◌, inl, inr, ℕ, List, ◌++◌, length, take, sym, ◌∙◌, ap, subst, arith, length-append}
use Rattle.std.specs.Prelude.{Option, Some, None}
use Rattle.std.specs.Io.KnownBytes.{append_known}
use Rattle.std.proofs.lemmas.List.{take-append-le}
use Rattle.std.proofs.Common.{take_all}
use Rattle.line_io.specs.Counts.{CountRose}
use Rattle.script_play.specs.Sending.{WroteFront}
use Rattle.session.specs.declared.service.Sat.{Sat}
use Rattle.serving.specs.declared.sittings.Sitting.{Sitting}
use Rattle.log_serving.specs.declared.answers.LogServed.{LogServed}
use Rattle.command_words.specs.LoggedServe.{LoggedService}
use Rattle.tabletop.specs.declared.endings.Ended.{Ended}
use Rattle.tabletop.specs.declared.endings.Ended.TheVariants as plain
use Rattle.tabletop.specs.Ends.{NotFetched}
use Rattle.tabletop.specs.declared.log_end.LogEnded.{LogEnded}
use Rattle.tabletop.specs.declared.log_end.LogEnded.TheVariants.{Plain, Usage, DiskFault, BadLog, OtherCampaign, Full}
use Rattle.campaign_core.specs.declared.campaign.OpenFault.{OpenFault}
use Rattle.campaign_core.specs.declared.campaign.OpenFault.TheVariants as faults
use Rattle.tabletop.specs.LogEndings.{log_status, IsToldInLog, unopened}
use Rattle.tabletop.specs.Logged.{HasNoLog, leaves}
use Rattle.campaign_law.specs.declared.entry.Entry.{Entry}
use Rattle.campaign_law.specs.World.{World, replay}
use Rattle.log_serving.specs.Evening.{ServesEvening, ServesNobody}
use Rattle.tabletop.specs.ServesLogged.{HasEndedServingLogged, HasEvening, JobServesLogged, evening_line, served_as}
use Rattle.tabletop.proofs.EndsLemmas.{count_after}

-- ---- the log's entries and what stands behind them

-- the first of a list and another are the list
pub first_part : {A : Type 0} (xs ys : List A) → take (length xs) (xs ++ ys) ≡ xs
first_part xs ys = take-append-le (length xs) xs ys (omega arith) ∙ take_all (length xs) xs (omega arith)

pub first_within : {A : Type 0} (xs ys : List A) → length xs ≤ length (xs ++ ys)
first_within xs ys = let size = length-append xs ys in omega (arith, size)

-- ---- the status of words that aren't the form

pub no_log_not_two : (Tells : Type 0) (ended : LogEnded) (text file : List ℕ) → HasNoLog Tells ended text file → log_status ended ≡ 2 → ⊥
no_log_not_two Tells (Plain e) text file h two = let z = sym (ap (λ x. log_status (Plain x)) h) ∙ two in absurd (omega (arith, z))
no_log_not_two Tells Usage text file h two = absurd h
no_log_not_two Tells DiskFault text file h two = absurd (omega (arith, two))
no_log_not_two Tells (BadLog at) text file h two = absurd (omega (arith, two))
no_log_not_two Tells OtherCampaign text file h two = absurd (omega (arith, two))
no_log_not_two Tells Full text file h two = absurd h

pub unopened_not_two : (fault : OpenFault) → log_status (unopened fault) ≡ 2 → ⊥
unopened_not_two (faults.Bad breach) two = absurd (omega (arith, two))
unopened_not_two faults.Memory two = absurd (omega (arith, two))

-- and these faults aren't among the reasons why no log is there
pub no_log_reads : (Tells : Type 0) (ended : LogEnded) (text file : List ℕ) → HasNoLog Tells ended text file → ended ≡ Plain plain.ReadFault → ⊥
no_log_reads Tells ended text file h is = let z : plain.ReadFault ≡ plain.Memory = subst (λ (e : LogEnded). HasNoLog Tells e text file) is h in cc

pub no_log_writes : (Tells : Type 0) (ended : LogEnded) (text file : List ℕ) → HasNoLog Tells ended text file → ended ≡ Plain plain.WriteFault → ⊥
no_log_writes Tells ended text file h is = let z : plain.WriteFault ≡ plain.Memory = subst (λ (e : LogEnded). HasNoLog Tells e text file) is h in cc

pub unopened_reads : (fault : OpenFault) → unopened fault ≡ Plain plain.ReadFault → ⊥
unopened_reads (faults.Bad breach) e = cc
unopened_reads faults.Memory e = cc

pub unopened_writes : (fault : OpenFault) → unopened fault ≡ Plain plain.WriteFault → ⊥
unopened_writes (faults.Bad breach) e = cc
unopened_writes faults.Memory e = cc

pub two_told : (status : ℕ) (ended told : LogEnded) → status ≡ log_status told → IsToldInLog ended told → status ≡ 2 → log_status ended ≡ 2
two_told status ended told s (inl same) two = sym (ap log_status same) ∙ (sym s ∙ two)
two_told status ended told s (inr less) two = let z = sym (ap log_status less.1) ∙ (sym s ∙ two) in absurd (omega (arith, z))

pub usage_two : (status : ℕ) (ended told : LogEnded) → status ≡ log_status told → IsToldInLog ended told → ended ≡ Usage → status ≡ 2
usage_two status ended told s t is = by (subst (λ (e : LogEnded). IsToldInLog e told) is t)
  where
    by : IsToldInLog Usage told → status ≡ 2
    by (inl same) = s ∙ ap log_status same
    by (inr less) = absurd less.0

-- ---- the whole run

module _ {R In Out D : Type 0} (Does : Sitting R In Out → (In × Out) × Sat → Type 0) (written : Out → Option (List ℕ)) (Tells : Type 0)
    (seen : D → List ℕ) (may_leave : D → List ℕ → Type 0) (moment : D → ℕ) (left_since : D → ℕ → List ℕ → Type 0) where
  pub usage_ended : (DeskFailed : Type 0) (ended : LogEnded) (asked : Option LoggedService) (texts : List ℕ → Option (List ℕ)) (out after : Option (List ℕ)) (old new : D) → asked ≡ None
      → JobServesLogged Does written Tells seen may_leave moment left_since DeskFailed ended asked texts out after old new → ended ≡ Usage
  usage_ended DeskFailed ended None texts out after old new is h = h.0
  usage_ended DeskFailed ended (Some service) texts out after old new is h = let z : Some service ≡ None = is in cc

  pub evening_ended : (DeskFailed : Type 0) (status : ℕ) (ended told : LogEnded) (asked : Option LoggedService) (texts : List ℕ → Option (List ℕ)) (out middle after : Option (List ℕ)) (old new : D) (a b c : ℕ)
      → status ≡ log_status told → IsToldInLog ended told → JobServesLogged Does written Tells seen may_leave moment left_since DeskFailed ended asked texts out middle old new
      → a ≤ b → (after ≡ append_known middle (evening_line told)) ⊎ (CountRose b c × WroteFront middle (evening_line told) after)
      → HasEndedServingLogged Does written Tells seen may_leave moment left_since status asked texts out after old new DeskFailed (CountRose a c)
  evening_ended DeskFailed status ended told asked texts out middle after old new a b c s t ends le line = record {
    ended = ended;
    told = told;
    is_told = t;
    status_is = s;
    before_line = middle;
    ends = ends;
    line = elim line [ inl whole ↦ inl whole | inr front ↦ inr (count_after a b c le front.0, front.1) ];
  }

-- ---- a file that wasn't fetched

pub unfetched_not_two : (DeskFailed : Type 0) (want : Ended) (campaign : Option (List ℕ)) → NotFetched DeskFailed want campaign → log_status (Plain want) ≡ 2 → ⊥
unfetched_not_two DeskFailed plain.Done campaign n two = absurd n
unfetched_not_two DeskFailed plain.Usage campaign n two = absurd n
unfetched_not_two DeskFailed (plain.BadCampaign breach) campaign n two = absurd n
unfetched_not_two DeskFailed plain.ReadFault campaign n two = absurd (omega (arith, two))
unfetched_not_two DeskFailed plain.WriteFault campaign n two = absurd n
unfetched_not_two DeskFailed plain.Memory campaign n two = absurd (omega (arith, two))
unfetched_not_two DeskFailed (plain.BadLine number) campaign n two = absurd n
unfetched_not_two DeskFailed plain.TooLarge campaign n two = absurd (omega (arith, two))
unfetched_not_two DeskFailed plain.DoorFault campaign n two = absurd n
unfetched_not_two DeskFailed plain.Differs campaign n two = absurd n

-- ---- an evening behind the log's entries

module _ {R In Out D : Type 0} (Does : Sitting R In Out → (In × Out) × Sat → Type 0) (written : Out → Option (List ℕ)) (Tells : Type 0)
    (may_leave : D → List ℕ → Type 0) (left_since : D → ℕ → List ℕ → Type 0) where
  pub has_evening : (served : LogServed) (ended : LogEnded) (service : LoggedService) (text : List ℕ) (recovered : ℕ) (origin entered : World) (kept history : List Entry)
      (out after : Option (List ℕ)) (start : ℕ) (new : D) → ended ≡ served_as served → recovered ≡ length kept → entered ≡ origin → history ≡ kept ++ leaves (replay origin kept)
      → ServesNobody Tells left_since served text recovered history out after start new
      ⊎ ServesEvening Does written Tells may_leave left_since served text recovered service.count service.end entered history out after start new
      → HasEvening Does written Tells may_leave left_since ended service text origin kept out after start new
  has_evening served ended service text recovered origin entered kept history out after start new told recovered_is origin_is history_is serves = record {
    answer = served;
    told = told;
    serves = subst (λ es. ServesNobody Tells left_since served text (length kept) es out after start new ⊎ ServesEvening Does written Tells may_leave left_since served text (length kept) service.count service.end origin es out after start new) history_is
        (subst (λ w. ServesNobody Tells left_since served text (length kept) history out after start new ⊎ ServesEvening Does written Tells may_leave left_since served text (length kept) service.count service.end w history out after start new) origin_is
        (subst (λ n. ServesNobody Tells left_since served text n history out after start new ⊎ ServesEvening Does written Tells may_leave left_since served text n service.count service.end entered history out after start new) recovered_is serves));
  }
