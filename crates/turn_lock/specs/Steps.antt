-- What each step tells: of the step, the seat before it, the number that it found, and the seat after it.
use Rattle.std.specs.Prelude.{◌≡◌, ◌≢◌, ◌⊎◌, ℕ, ◌≤◌, List, [], ◌∷◌, length, Some}
use mathlib.Core.List.{IsPrefix}
use Rattle.atomic_table.specs.Table.{Me, Step, rest}
use Rattle.turn_lock.specs.declared.view.SeatView.{SeatView}
use Rattle.turn_lock.specs.SeatView.{with_turn, with_object, grown, without_object, without_turn, informed, settled}

module _ {O Entry Origin : Type 0} where
  -- where the turn was free the seat has it and has seen the whole history, which is as long as all that it had heard of; else nothing changed
  abbrev pub TakesTurn : Step O → Me O (SeatView Entry Origin) → ℕ → Me O (SeatView Entry Origin) → Type 0
  TakesTurn step before found after =
      (found ≡ 0 → (after ≡ (with_turn before.0 after.0.front, before.1)) × IsPrefix before.0.front after.0.front × (before.0.heard ≤ length after.0.front))
      × (found ≢ 0 → after ≡ before)

  abbrev pub GivesObject : Step O → Me O (SeatView Entry Origin) → ℕ → Me O (SeatView Entry Origin) → Type 0
  GivesObject step before found after = after ≡ (without_object before.0, rest before.1)

  abbrev pub PassesTurn : Step O → Me O (SeatView Entry Origin) → ℕ → Me O (SeatView Entry Origin) → Type 0
  PassesTurn step before found after = after ≡ (without_turn before.0, before.1)

  -- the number found is a length of the history, as great as all that the seat had seen and heard of
  abbrev pub LoadsMade : Step O → Me O (SeatView Entry Origin) → ℕ → Me O (SeatView Entry Origin) → Type 0
  LoadsMade step before found after =
      (after ≡ (informed before.0 found, before.1)) × (length before.0.front ≤ found) × (before.0.heard ≤ found)

  -- of the two fronts, one begins with the other, and it is the front from now on
  abbrev pub ComparesFronts : Step O → Me O (SeatView Entry Origin) → ℕ → Me O (SeatView Entry Origin) → Type 0
  ComparesFronts step before found after =
      (after ≡ (settled before.0 after.0.front, before.1)) × IsPrefix before.0.front after.0.front × IsPrefix before.0.told after.0.front
      × ((after.0.front ≡ before.0.front) ⊎ (after.0.front ≡ before.0.told))

module _ {O Entry Origin : Type 0} (origin : O → Origin) (history : O → List Entry) where
  -- the seat has the object, whose history is the front
  abbrev pub TakesObject : Step O → Me O (SeatView Entry Origin) → ℕ → Me O (SeatView Entry Origin) → Type 0
  TakesObject step before found after =
      (object : O) × (after ≡ (with_object before.0, (0, object) ∷ before.1))
      × ((start : Origin) → before.0.origin ≡ Some start → origin object ≡ start) × (history object ≡ before.0.front)

module _ {O Entry Origin : Type 0} (history : O → List Entry) where
  -- the front becomes the history of the object in hand
  abbrev pub AddsEntries : Step O → Me O (SeatView Entry Origin) → ℕ → Me O (SeatView Entry Origin) → Type 0
  AddsEntries step before found after = (object : O) → before.1 ≡ (0, object) ∷ [] → after ≡ (grown before.0 (history object), before.1)
