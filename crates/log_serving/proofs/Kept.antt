-- What a crash leaves of an evening's log, from what its parts did.
use Rattle.std.proofs.Common.{◌≡◌, ◌≤◌, inl, inr, ℕ, List, [], ◌∷◌, ◌++◌, length, take, All, ap, sym, subst, ◌∙◌, arith}
use Rattle.std.specs.Prelude.{Option, Some, unwrap_or}
use Rattle.std.specs.List.{AllByRecursion}
use Rattle.std.proofs.lemmas.List.{append-nil}
use Rattle.std.proofs.lemmas.List.Elements.{All-weaker, All-from_recursion, recursion_from_All}
use Rattle.std.proofs.Math.Logic.{∥∥₁_map}
use mathlib.Core.List.{IsPrefix}
use Rattle.line_io.specs.Connections.{append_told}
use Rattle.campaign_law.specs.declared.entry.Entry.{Entry}
use Rattle.campaign_law.specs.World.{World}
use Rattle.crash_log.specs.Log.{IsLog, HoldsLog}
use Rattle.evening_log.specs.Keeping.{LeavesPart, LogOrigin}
use Rattle.evening_log.specs.Logged.{SinkState, HeardAtMost}
use Rattle.evening_log.proofs.Keeping.{part_less}
use Rattle.serving.specs.Fates.{Fate, busy, sat, ends_of}
use Rattle.serving.specs.Safely.{WroteSafely, IsToldSafely}
use Rattle.log_serving.specs.Evening.{HasStayed, LeavesFirst}

-- a disk on which nothing was put
pub stays : {D : Type 0} (seen : D → List ℕ) (may_leave : D → List ℕ → Type 0) (moment : D → ℕ) (left_since : D → ℕ → List ℕ → Type 0)
    (only_now : (disk : D) (c : List ℕ) → left_since disk (moment disk) c → may_leave disk c) (text : List ℕ) (before : List Entry) (recovered : ℕ) (disk : D) (end : ℕ)
    → recovered ≤ length before → HoldsLog seen may_leave disk end text (take recovered before) → HasStayed left_since text recovered before (moment disk) disk
stays seen may_leave moment left_since only_now text before recovered disk end within held = record {
  history = before;
  longer = ([], append-nil before);
  kept = λ file left. record {
    count = recovered;
    least_is = omega arith;
    within = within;
    is = subst (λ bytes. IsLog text (take recovered before) bytes) (sym (held.durable file (only_now disk file left))) held.log;
  };
}

-- a log that was closed, on which this was begun
pub closes : {D : Type 0} (left_since : D → ℕ → List ℕ → Type 0) (origin : LogOrigin World) (text : List ℕ) (recovered start : ℕ) (before front : List Entry) (disk : D)
    → origin.text ≡ text → origin.recovered ≡ recovered → origin.start ≡ start → IsPrefix before front
    → ((file : List ℕ) → left_since disk origin.start file → LeavesPart origin.text origin.recovered front file) → HasStayed left_since text recovered before start disk
closes left_since origin text recovered start before front disk text_is recovered_is start_is longer since = record {
  history = front;
  longer = longer;
  kept = λ file left. subst (λ (t : List ℕ). LeavesPart t recovered front file) text_is
      (subst (λ (r : ℕ). LeavesPart origin.text r front file) recovered_is (since file (subst (λ (s : ℕ). left_since disk s file) (sym start_is) left)));
}

-- what holds of all that a door told to have been given back holds of what came back meanwhile
pub all_told : {A : Type 0} (P : A → Type 0) (start late ends : List A) → start ≡ [] → Some late ≡ append_told (Some start) ends → All P late → All P ends
all_told P start late ends none is all = subst (All P) (ap (λ told. unwrap_or told []) is ∙ ap (λ first. first ++ ends) none) all

-- who heard of at most so many entries heard of at most more of them
pub heard_less : {In Inner Origin : Type 0} (less most : ℕ) (ended : List (In × SinkState Inner Origin)) → less ≤ most → All (HeardAtMost less) ended → All (HeardAtMost most) ended
heard_less less most ended le all = All-weaker (HeardAtMost less) (HeardAtMost most) (λ ends heard. omega (arith, le, heard)) ended all

-- Each output told of no entry that it hadn't heard to be in the log; and a crash now leaves as many as anybody had heard of
module _ {Inner Origin D : Type 0} (w : World) (G history : List Entry) (base most : ℕ) (written : SinkState Inner Origin → Option (List ℕ))
    (may_leave : D → List ℕ → Type 0) (text : List ℕ) (disk : D) (now : (file : List ℕ) → may_leave disk file → LeavesPart text most history file) where
  abbrev Heard : SinkState Inner Origin → ℕ → Type 0
  Heard output n = n ≤ output.pass.heard

  abbrev Kept : SinkState Inner Origin → ℕ → Type 0
  Kept output n = LeavesFirst may_leave text history disk n

  kept_one : (output : SinkState Inner Origin) (place seat : ℕ) (before after : Option (List ℕ)) → output.pass.heard ≤ most
      → WroteSafely (Heard output) w G place seat before after → WroteSafely (Kept output) w G place seat before after
  kept_one output place seat before after le (inl same) = inl same
  kept_one output place seat before after le (inr wrote) = inr (record {
    n = wrote.n;
    safe = λ file may. part_less text most wrote.n history file (let s = wrote.safe in omega (arith, s, le)) (now file may);
    within = wrote.within;
    output = wrote.output;
    written = wrote.written;
    front = wrote.front;
  })

  kept_each : {R In : Type 0} (fates : List (Fate R In (SinkState Inner Origin))) → AllByRecursion (HeardAtMost most) (ends_of fates)
      → AllByRecursion (IsToldSafely w G base Heard written) fates → AllByRecursion (IsToldSafely w G base Kept written) fates
  kept_each [] heard told = tt
  kept_each (busy ends ∷ fates) heard told = (tt, kept_each fates heard told.1)
  kept_each (sat sitting done ∷ fates) heard told =
      ((λ place seat from accepted. ∥∥₁_map (told.0 place seat from accepted) (λ both. (both.0, kept_one done.0.1 place seat (written sitting.output) (written done.0.1) heard.0 both.1))), kept_each fates heard.1 told.1)

  pub kept_all : {R In : Type 0} (fates : List (Fate R In (SinkState Inner Origin))) → All (HeardAtMost most) (ends_of fates)
      → All (IsToldSafely w G base Heard written) fates → All (IsToldSafely w G base Kept written) fates
  kept_all fates heard told =
      All-from_recursion (IsToldSafely w G base Kept written) fates
      (kept_each fates (recursion_from_All (HeardAtMost most) (ends_of fates) heard) (recursion_from_All (IsToldSafely w G base Heard written) fates told))
