-- The rule of the table: the log, and what each seat knows of it.
use Rattle.std.specs.Prelude.{◌≡◌, ◌⊎◌, ℕ, ◌≤◌, true, false, List, [], ◌∷◌, length, Some}
use mathlib.Core.List.{IsPrefix}
use mathlib.Core.Option.{some}
use mathlib.Core.Option as maybe
use lib.ListN.{get_elem?}
use Rattle.atomic_table.specs.Table.{State}
use Rattle.turn_lock.specs.declared.view.SeatView.{SeatView}

module _ {Entry Origin : Type 0} where
  -- what a seat knows, while the history is the log
  pub record Knows (start : Origin) (log : List Entry) (view : SeatView Entry Origin) : Type 0 where
    pub origin_is : (origin : Origin) → view.origin ≡ Some origin → origin ≡ start
    pub begins : IsPrefix view.front log
    pub told_begins : IsPrefix view.told log
    pub heard_of : view.heard ≤ length log
    pub turn_has_log : view.turn ≡ true → view.front ≡ log
    pub out_has_turn : view.out ≡ true → view.turn ≡ true

  abbrev pub NoneOut : List (SeatView Entry Origin) → Type 0
  NoneOut views = (seat : ℕ) (view : SeatView Entry Origin) → get_elem? views seat ≡ some view → view.out ≡ false

module _ {O Entry Origin : Type 0} (origin : O → Origin) (history : O → List Entry) where
  -- the object is in its slot, and the log is its history
  pub record IsStored (start : Origin) (log : List Entry) (slots : List (maybe.Option O)) : Type 0 where
    pub object : O
    pub slot : slots ≡ some object ∷ []
    pub origin_is : origin object ≡ start
    pub history_is : history object ≡ log

  -- the hall's origin is `start`
  pub record IsOrderly (start : Origin) (state : State O (SeatView Entry Origin)) : Type 0 where
    pub log : List Entry
    pub busy : ℕ
    pub holder : ℕ
    pub words : state.words ≡ length log ∷ busy ∷ []
    pub each : (seat : ℕ) (view : SeatView Entry Origin) → get_elem? state.views seat ≡ some view → Knows start log view
    -- only the holder has the turn, and the word says so
    pub alone : (seat : ℕ) (view : SeatView Entry Origin) → get_elem? state.views seat ≡ some view → view.turn ≡ true → (busy ≡ 1) × (seat ≡ holder)
    pub free_or_held : (busy ≡ 0) ⊎ ((view : SeatView Entry Origin) × (get_elem? state.views holder ≡ some view) × (view.turn ≡ true))
    pub stored : NoneOut state.views → IsStored start log state.homes
