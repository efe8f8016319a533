-- What callers see of a hall, its usher and its passes.
use Rattle.std.specs.Prelude.{◌≡◌, ℕ, suc, ◌<◌, ◌≤◌, max, All, List, [], ◌∷◌, ◌++◌, length, Option, Some}
use mathlib.Core.List.{IsPrefix}
use Rattle.atomic_table.specs.Seated.{TableId}

-- which hall it is, and the origin of its object, which no job changes
pub record HallState (Origin : Type 0) : Type 0 where
  pub identity : TableId
  pub origin : Origin

-- the usher's hall and its origin, and the number that it gives next
pub record UsherState (Origin : Type 0) : Type 0 where
  pub hall : TableId
  pub origin : Option Origin
  pub count : ℕ

-- The front is the prefix of the history that the pass has seen, and its own places are those of the front at which its turns appended.
-- It has heard of a history of the length `heard`
pub record PassState (Entry Origin : Type 0) : Type 0 where
  pub hall : TableId
  pub origin : Option Origin
  pub number : ℕ
  pub front : List Entry
  pub own : List ℕ
  pub heard : ℕ

-- the usher is the hall's, and its origin is the hall's
abbrev pub IsUsherOf : {Origin : Type 0} → HallState Origin → UsherState Origin → Type 0
IsUsherOf hall usher = (usher.hall ≡ hall.identity) × (usher.origin ≡ Some hall.origin)

-- the places of these entries, of which the first stands at the place n
abbrev pub places : {Entry : Type 0} → ℕ → List Entry → List ℕ
places n [] = []
places n (entry ∷ entries) = n ∷ places (suc n) entries

-- what a pass knows of the history
pub record Known (Entry : Type 0) : Type 0 where
  pub front : List Entry
  pub own : List ℕ
  pub heard : ℕ

module _ {Entry : Type 0} where
  -- each own place is a place of the front
  abbrev pub OwnsWithin : List Entry → List ℕ → Type 0
  OwnsWithin front own = All (λ place. place < length front) own

  -- One turn: what is known before it and after it, where the job appended these entries, and `ran` relates the history that it found to the one that it left
  pub record HasTurn (ran : List Entry → List Entry → Type 0) (entries : List Entry) (before after : Known Entry) : Type 0 where
    -- the history that the turn found
    pub found : List Entry
    pub begins : IsPrefix before.front found
    pub as_long : before.heard ≤ length found
    pub front_is : after.front ≡ found ++ entries
    pub has_run : ran found after.front
    pub own_is : after.own ≡ before.own ++ places (length found) entries
    pub heard_is : after.heard ≡ before.heard

module _ {Entry Origin : Type 0} where
  -- the pass is one of the hall's, and its origin is the hall's
  abbrev pub IsPassOf : HallState Origin → PassState Entry Origin → Type 0
  IsPassOf hall pass = (pass.hall ≡ hall.identity) × (pass.origin ≡ Some hall.origin)

  abbrev pub known : PassState Entry Origin → Known Entry
  known pass = record { front = pass.front; own = pass.own; heard = pass.heard }

  -- the pass has heard of this length too
  abbrev pub hears : PassState Entry Origin → ℕ → PassState Entry Origin
  hears pass length = record pass { heard = max pass.heard length }

  -- the first pass of a hall, whose object came with this history
  abbrev pub first_pass : HallState Origin → List Entry → PassState Entry Origin
  first_pass hall history = record { hall = hall.identity; origin = Some hall.origin; number = 0; front = history; own = []; heard = 0 }

  -- the right pass of a split
  abbrev pub right_pass : PassState Entry Origin → ℕ → PassState Entry Origin
  right_pass pass number = record pass { number = number; own = [] }
