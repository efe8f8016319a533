-- What a seat knows, and what it knows after each step.
use Rattle.std.specs.Prelude.{ℕ, max, true, false, List, [], ◌++◌, length, drop, Some, None}
use Rattle.turn_lock.specs.declared.view.SeatView.{SeatView}
use Rattle.turn_lock.specs.Pass.{places}

module _ {Entry Origin : Type 0} where
  -- the first seat, which knows the history that the object came with
  abbrev pub first_view : Origin → List Entry → SeatView Entry Origin
  first_view origin history = record { origin = Some origin; front = history; told = []; own = []; heard = 0; turn = false; out = false }

  -- what is left of a seat that another took in
  abbrev pub spent : SeatView Entry Origin
  spent = record { origin = None; front = []; told = []; own = []; heard = 0; turn = false; out = false }

  abbrev pub with_turn : SeatView Entry Origin → List Entry → SeatView Entry Origin
  with_turn view log = record view { front = log; turn = true }

  abbrev pub with_object : SeatView Entry Origin → SeatView Entry Origin
  with_object view = record view { out = true }

  -- the seat appended what the log has behind its front
  abbrev pub grown : SeatView Entry Origin → List Entry → SeatView Entry Origin
  grown view log = record view { front = log; own = view.own ++ places (length view.front) (drop (length view.front) log) }

  abbrev pub without_object : SeatView Entry Origin → SeatView Entry Origin
  without_object view = record view { out = false }

  abbrev pub without_turn : SeatView Entry Origin → SeatView Entry Origin
  without_turn view = record view { turn = false }

  abbrev pub informed : SeatView Entry Origin → ℕ → SeatView Entry Origin
  informed view length = record view { heard = max view.heard length }

  -- a second seat, which has seen and heard as much and has appended nothing
  abbrev pub newcomer : SeatView Entry Origin → SeatView Entry Origin
  newcomer view = record { origin = view.origin; front = view.front; told = []; own = []; heard = view.heard; turn = false; out = false }

  -- the seat took in the other, whose front it is told
  abbrev pub joined : SeatView Entry Origin → SeatView Entry Origin → SeatView Entry Origin
  joined view other = record view { told = other.front; own = view.own ++ other.own; heard = max view.heard other.heard }

  abbrev pub settled : SeatView Entry Origin → List Entry → SeatView Entry Origin
  settled view front = record view { front = front; told = [] }
