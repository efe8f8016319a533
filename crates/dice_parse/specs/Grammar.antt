-- The grammar of dice, apart from any reader:
--
--     dice  = term *( ("+" / "-") term )
--     term  = group / num
--     group = [num] "d" num ["e"] ["r" num] [ ("k" / "d" / "s") num ]
--     num   = "0" / nonzero *8DIGIT
use Rattle.std.specs.Prelude.{◌≡◌, ℕ, ◌≤◌, Bool, true, false, cond, List, [], ◌∷◌, ◌++◌, length, All, Option, Some, None}
use Rattle.reading.specs.Number.{IsNumber}
use Rattle.dice_parse.specs.declared.parts.Tail.{Tail}
use Rattle.dice_parse.specs.declared.parts.Tail.TheVariants.{Keep, Lose, Succeed}
use Rattle.dice_parse.specs.declared.parts.Group.{Group}
use Rattle.dice_parse.specs.declared.parts.Part.{Part}
use Rattle.dice_parse.specs.declared.parts.Part.TheVariants.{Group as AGroup, Number as ANumber}
use Rattle.dice_parse.specs.declared.parts.Term.{Term}

-- "0", or a digit from 1 on and at most 8 further digits
abbrev pub IsNum : List ℕ → ℕ → Type 0
IsNum = IsNumber 8

-- nothing stands for 1
abbrev pub IsCount : List ℕ → ℕ → Type 0
IsCount [] n = n ≡ 1
IsCount (b ∷ s) n = IsNum (b ∷ s) n

abbrev pub IsExplode : List ℕ → Bool → Type 0
IsExplode s e = s ≡ cond e (101 ∷ []) []

abbrev pub IsAgain : List ℕ → Option ℕ → Type 0
IsAgain s None = s ≡ []
IsAgain s (Some n) = (t : List ℕ) × (s ≡ 114 ∷ t) × IsNum t n

abbrev pub letter : Tail → ℕ
letter Keep = 107
letter Lose = 100
letter Succeed = 115

abbrev pub IsTail : List ℕ → Option (Tail × ℕ) → Type 0
IsTail s None = s ≡ []
IsTail s (Some x) = (t : List ℕ) × (s ≡ letter x.0 ∷ t) × IsNum t x.1

-- what stands behind the d
pub record IsDie (s : List ℕ) (g : Group) : Type 0 where
  pub sides : List ℕ
  pub explode : List ℕ
  pub again : List ℕ
  pub tail : List ℕ
  pub parts : s ≡ sides ++ (explode ++ (again ++ tail))
  pub sides-is : IsNum sides g.sides
  pub explode-is : IsExplode explode g.explode
  pub again-is : IsAgain again g.again
  pub tail-is : IsTail tail g.tail

pub record IsGroup (s : List ℕ) (g : Group) : Type 0 where
  pub count : List ℕ
  pub die : List ℕ
  pub parts : s ≡ count ++ (100 ∷ die)
  pub count-is : IsCount count g.count
  pub die-is : IsDie die g

abbrev pub IsPart : List ℕ → Part → Type 0
IsPart s (AGroup g) = IsGroup s g
IsPart s (ANumber n) = IsNum s n

abbrev pub sign : Bool → ℕ
sign true = 45
sign false = 43

-- further terms, each behind its sign
abbrev pub AreMore : List ℕ → List Term → Type 0
AreMore s [] = s ≡ []
AreMore s (t ∷ ts) = (a b : List ℕ) × (s ≡ sign t.minus ∷ (a ++ b)) × IsPart a t.part × AreMore b ts

abbrev pub IsDice : List ℕ → List Term → Type 0
IsDice s [] = ⊥
IsDice s (t ∷ ts) = (t.minus ≡ false) × (a b : List ℕ) × (s ≡ a ++ b) × IsPart a t.part × AreMore b ts

-- the limits of a group: 1 to 100 dice of 1 to 1,000 sides
pub record GroupFits (g : Group) : Type 0 where
  pub some : 1 ≤ g.count
  pub count : g.count ≤ 100
  pub side : 1 ≤ g.sides
  pub sides : g.sides ≤ 1000

abbrev pub PartFits : Part → Type 0
PartFits (AGroup g) = GroupFits g
PartFits (ANumber n) = Unit {0}

-- the limits of dice: 1 to 16 terms, each within its own
abbrev pub IsWithin : List Term → Type 0
IsWithin ts = (1 ≤ length ts) × (length ts ≤ 16) × All (λ t. PartFits t.part) ts
