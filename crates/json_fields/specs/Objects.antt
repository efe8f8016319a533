-- Whole objects, read field after field: the first field that isn't there or is of another kind is the fault, then
-- the first unknown key. The rules that read an object say what fault a key gives.
use Rattle.std.specs.Prelude.{◌≡◌, ℕ, List, Option, Some, None, Result, Ok, Err}

-- what was read goes on to the next field
infixl 10 ◌>>=◌
abbrev pub ◌>>=◌ : {A B E : Type 0} → Result A E → (A → Result B E) → Result B E
(Ok read) >>= next = next read
(Err fault) >>= next = Err fault

-- what a field stands for, or the fault that its key gives
abbrev pub needed : {A E : Type 0} → (List ℕ → E) → List ℕ → Option A → Result A E
needed fault key None = Err (fault key)
needed fault key (Some read) = Ok read

-- what was read, unless there is an unknown key
abbrev pub unless_unknown : {A E : Type 0} → (List ℕ → E) → Option (List ℕ) → A → Result A E
unless_unknown fault None read = Ok read
unless_unknown fault (Some key) read = Err (fault key)

-- What a function returned is what the rules give: the value, or the fault as `Fails` says. There a want of
-- memory says nothing of the rules.
abbrev pub Gives : {X Y F E : Type 0} → (F → Result Y E → Type 0) → (X → Y) → Result X F → Result Y E → Type 0
Gives Fails view (Ok read) given = given ≡ Ok (view read)
Gives Fails view (Err fault) given = Fails fault given
