-- What is logged with a line: its entry, and then the Takens that are due.
use Rattle.std.proofs.Common.{◌≡◌, ℕ, ◌≤◌, List, [], ◌∷◌, ◌++◌, length, refl, sym, ◌∙◌, ap, subst}
use Rattle.std.specs.Prelude.{Result, Ok, Err, Some}
use Rattle.campaign_law.specs.declared.entry.Entry.{Entry}
use Rattle.campaign_law.specs.World.{World, step}
use Rattle.campaign_law.specs.Law.{Course, world_of}
use Rattle.script_play.specs.declared.run.Played.TheVariants as P
use Rattle.script_play.specs.Script.{entry_of_line, takens, with_takens, script_from}
use Rattle.script_play.specs.Played.{GoesOn, IsPrefix, entries_since}
use Rattle.script_play.proofs.Fronts.{prefix_all, prefix_part}
use Rattle.script_play.proofs.LineRuns.{since_all, world_entered, line_played}
use Rattle.log_play.specs.declared.logged.Logged.{Logged}
use Rattle.log_play.specs.declared.logged.Logged.TheVariants.{Done}
use Rattle.log_play.specs.Kept.{HasNoRoom, KeepsLog}
use Rattle.log_play.proofs.KeptLemmas.{keeps_then, keeps_same, keeps_log_wider, room_behind, room_wider}

due_then : (old mid : Course) (e : Entry) (due : List Entry) → GoesOn old mid → entries_since old mid ≡ e ∷ [] → due ≡ takens (world_of mid) → e ∷ due ≡ with_takens (world_of old) e
due_then old mid e due a one is = ap (λ ds. e ∷ ds) (is ∙ ap takens (world_entered old mid e a one))

since_then : (old mid new : Course) (e : Entry) → GoesOn old mid → GoesOn mid new → entries_since old mid ≡ e ∷ [] → e ∷ entries_since mid new ≡ entries_since old new
since_then old mid new e a b one = sym (since_all old mid new a b ∙ ap (λ xs. xs ++ entries_since mid new) one)

pub room_with_takens : (end : ℕ) (old mid new : Course) (e : Entry) (due : List Entry) → GoesOn old mid → GoesOn mid new → entries_since old mid ≡ e ∷ [] → due ≡ takens (world_of mid)
    → HasNoRoom end (entries_since mid new) due → HasNoRoom end (entries_since old new) (with_takens (world_of old) e)
room_with_takens end old mid new e due a b one is h =
    subst (HasNoRoom end (entries_since old new)) (due_then old mid e due a one is)
    (subst (λ (es : List Entry). HasNoRoom end es (e ∷ due)) (since_then old mid new e a b one) (room_behind end (e ∷ []) (entries_since mid new) due h))

pub room_before_takens : (end : ℕ) (put : List Entry) (w : World) (e : Entry) → HasNoRoom end put (e ∷ []) → HasNoRoom end put (with_takens w e)
room_before_takens end put w e h = room_wider end put (e ∷ []) (with_takens w e) (prefix_part (e ∷ []) (takens (step w e))) h

-- all of a line's entries are the first of the script's, from that line on
pub line_front : (w : World) (number : ℕ) (line : List ℕ) (e : Entry) → number ≤ 1000000 → length line ≤ 4112 → entry_of_line w line ≡ Some e → IsPrefix (with_takens w e) (script_from w number (line ∷ [])).entries
line_front w number line e few short is = line_played {A = ℕ} (Err P.Memory) w number line e (with_takens w e) few short is tt (prefix_all (with_takens w e)) tt

module _ {D : Type 0} (seen : D → List ℕ) (may_leave : D → List ℕ → Type 0) (moment : D → ℕ) (left_since : D → ℕ → List ℕ → Type 0) where
  pub keeps_with_takens : (answer : Logged) (old mid new : Course) (e : Entry) (due : List Entry) (first middle last : D) (first_end middle_end last_end : ℕ)
      → GoesOn old mid → GoesOn mid new → entries_since old mid ≡ e ∷ [] → due ≡ takens (world_of mid)
      → KeepsLog seen may_leave moment left_since Done (entries_since old mid) (e ∷ []) first middle first_end middle_end
      → KeepsLog seen may_leave moment left_since answer (entries_since mid new) due middle last middle_end last_end
      → KeepsLog seen may_leave moment left_since answer (entries_since old new) (with_takens (world_of old) e) first last first_end last_end
  keeps_with_takens answer old mid new e due first middle last first_end middle_end last_end a b one is k l =
      keeps_same seen may_leave moment left_since answer (e ∷ entries_since mid new) (entries_since old new) (e ∷ due) (with_takens (world_of old) e) first last first_end last_end (since_then old mid new e a b one) (due_then old mid e due a one is)
      (keeps_then seen may_leave moment left_since answer (e ∷ []) (entries_since mid new) due first middle last first_end middle_end last_end
      (keeps_same seen may_leave moment left_since Done (entries_since old mid) (e ∷ []) (e ∷ []) (e ∷ []) first middle first_end middle_end one refl k) l)

  pub keeps_before_takens : (answer : Logged) (put : List Entry) (w : World) (e : Entry) (old new : D) (old_end new_end : ℕ)
      → KeepsLog seen may_leave moment left_since answer put (e ∷ []) old new old_end new_end
      → KeepsLog seen may_leave moment left_since answer put (with_takens w e) old new old_end new_end
  keeps_before_takens answer put w e old new old_end new_end k = keeps_log_wider seen may_leave moment left_since answer put (e ∷ []) (with_takens w e) old new old_end new_end (prefix_part (e ∷ []) (takens (step w e))) k
