-- What the steps of a turn say of the table and of a seat.
use Rattle.std.specs.Prelude.{◌≡◌, ℕ, ◌+◌, ◌^◌, ◌<◌, false, List, [], ◌∷◌, ◌++◌, length, Some}
use Rattle.atomic_table.specs.Table.{Me}
use Rattle.atomic_table.specs.Seated.{TableId}
use Rattle.atomic_table.specs.declared.shared.Seat.{Seat}
use Rattle.turn_lock.specs.declared.view.SeatView.{SeatView}
use Rattle.turn_lock.specs.Pass.{HallState, UsherState, PassState, Known, OwnsWithin}

-- a table of two words and one slot
abbrev pub IsSized : TableId → Type 0
IsSized table = (table.words ≡ 2) × (table.slots ≡ 1)

abbrev pub hall_state : {Origin : Type 0} → TableId → Origin → HallState Origin
hall_state table origin = record { identity = table; origin = origin }

abbrev pub known_of : {Entry Origin : Type 0} → SeatView Entry Origin → Known Entry
known_of view = record { front = view.front; own = view.own; heard = view.heard }

module _ {O Entry Origin : Type 0} where
  abbrev pub pass_state : Seat O (SeatView Entry Origin) → ℕ → PassState Entry Origin
  pass_state seat number = record { hall = seat.table_id; origin = seat.me.0.origin; number = number; front = seat.me.0.front; own = seat.me.0.own; heard = seat.me.0.heard }

  abbrev pub usher_state : Seat O (SeatView Entry Origin) → ℕ → UsherState Origin
  usher_state seat count = record { hall = seat.table_id; origin = seat.me.0.origin; count = count }

  -- the seat is one of the hall's, and knows its origin
  abbrev pub IsSeatOf : HallState Origin → Seat O (SeatView Entry Origin) → Type 0
  IsSeatOf hall seat = (seat.table_id ≡ hall.identity) × (seat.me.0.origin ≡ Some hall.origin)

  -- the seat has no slot and no turn, and was told nothing
  abbrev pub IsIdle : Me O (SeatView Entry Origin) → Type 0
  IsIdle me = (me.1 ≡ []) × (me.0.turn ≡ false) × (me.0.out ≡ false) × (me.0.told ≡ [])

  -- the seat of a pass, between two calls
  abbrev pub IsResting : Me O (SeatView Entry Origin) → Type 0
  IsResting me = IsIdle me × OwnsWithin me.0.front me.0.own

  -- the seat has the object, of which the fact holds
  abbrev pub HasObject : Me O (SeatView Entry Origin) → (O → Type 0) → Type 0
  HasObject me Fact = (object : O) × (me.1 ≡ (0, object) ∷ []) × Fact object

module _ {O Entry Origin : Type 0} (origin : O → Origin) (history : O → List Entry) where
  -- the seat has the object, whose origin is `start` and whose history is the front
  abbrev pub HoldsObject : Origin → Me O (SeatView Entry Origin) → Type 0
  HoldsObject start me = HasObject me (λ object. (origin object ≡ start) × (history object ≡ me.0.front))

  -- the seat has the object, whose origin is `start` and whose history is longer than the front by these entries, `more` in number
  abbrev pub HoldsMore : Origin → List Entry → ℕ → Me O (SeatView Entry Origin) → Type 0
  HoldsMore start entries more me =
      HasObject me (λ object. (origin object ≡ start) × (history object ≡ me.0.front ++ entries) × (length (history object) < 2 ^ 64) × (length me.0.front + more ≡ length (history object)))
