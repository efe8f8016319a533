-- How terms are written as dice: every text of the grammar is such a writing, and every writing a text of the grammar.
use Rattle.std.specs.Prelude.{◌≡◌, ℕ, ◌<◌, ◌^◌, ◌&&◌, Bool, false, if◌then◌else◌, List, [], ◌∷◌, ◌++◌, drop, Option, Some, None}
use Rattle.std.specs.Prelude.{nat_eq, codes, decimal}
use Rattle.dice_parse.specs.declared.parts.Tail.{Tail}
use Rattle.dice_parse.specs.declared.parts.Tail.TheVariants.{Keep, Lose, Succeed}
use Rattle.dice_parse.specs.declared.parts.Group.{Group}
use Rattle.dice_parse.specs.declared.parts.Part.{Part}
use Rattle.dice_parse.specs.declared.parts.Part.TheVariants.{Group as AGroup, Number as ANumber}
use Rattle.dice_parse.specs.declared.parts.Term.{Term}

-- ---- numbers have nine digits at most

abbrev pub IsShort : ℕ → Type 0
IsShort n = n < 10 ^ 9

abbrev pub AgainIsShort : Option ℕ → Type 0
AgainIsShort None = Unit {0}
AgainIsShort (Some n) = IsShort n

abbrev pub TailIsShort : Option (Tail × ℕ) → Type 0
TailIsShort None = Unit {0}
TailIsShort (Some x) = IsShort x.1

abbrev pub PartIsShort : Part → Type 0
PartIsShort (AGroup g) = IsShort g.count × IsShort g.sides × AgainIsShort g.again × TailIsShort g.tail
PartIsShort (ANumber n) = IsShort n

abbrev pub AreShort : List Term → Type 0
AreShort [] = Unit {0}
AreShort (t ∷ ts) = PartIsShort t.part × AreShort ts

-- a term at least, the first without a minus
abbrev pub CanBeWritten : List Term → Type 0
CanBeWritten [] = ⊥
CanBeWritten (t ∷ ts) = (t.minus ≡ false) × AreShort (t ∷ ts)

-- ---- the writing

abbrev pub tail_letter : Tail → List ℕ
tail_letter Keep = codes "k"
tail_letter Lose = codes "d"
tail_letter Succeed = codes "s"

abbrev pub tail_text : Option (Tail × ℕ) → List ℕ
tail_text None = []
tail_text (Some x) = tail_letter x.0 ++ decimal x.1

abbrev pub again_text : Option ℕ → List ℕ
again_text None = []
again_text (Some n) = codes "r" ++ decimal n

abbrev pub explode_text : Bool → List ℕ
explode_text explode = if explode then codes "e" else []

-- bare says that a count of 1 is left out
abbrev pub count_text : Bool → ℕ → List ℕ
count_text bare n = if bare && nat_eq n 1 then [] else decimal n

abbrev pub die_text : Group → List ℕ
die_text g = codes "d" ++ (decimal g.sides ++ (explode_text g.explode ++ (again_text g.again ++ tail_text g.tail)))

abbrev pub part_text : Bool → Part → List ℕ
part_text bare (AGroup g) = count_text bare g.count ++ die_text g
part_text bare (ANumber n) = decimal n

abbrev pub sign_text : Bool → List ℕ
sign_text minus = if minus then codes "-" else codes "+"

-- the first of some choices, and false where none is left
abbrev pub first : List Bool → Bool
first [] = false
first (bare ∷ more) = bare

-- the terms behind the first one, each behind its sign
abbrev pub further_text : List Bool → List Term → List ℕ
further_text bare [] = []
further_text bare (t ∷ ts) = sign_text t.minus ++ (part_text (first bare) t.part ++ further_text (drop 1 bare) ts)

abbrev pub dice_text : List Bool → List Term → List ℕ
dice_text bare [] = []
dice_text bare (t ∷ ts) = part_text (first bare) t.part ++ further_text (drop 1 bare) ts

-- the text is a writing of the terms, where it may be chosen for each whether a count of 1 is left out
abbrev pub IsWriting : List ℕ → List Term → Type 0
IsWriting text terms = (bare : List Bool) × (text ≡ dice_text bare terms)
