-- The test of the limits holds exactly where they do.
use Rattle.std.proofs.Common.{◌≡◌, ◌≤◌, ◌<◌, ◌&&◌, ◌-◌, ◌↔◌, IsTrue, ℕ, suc, Bool, true, false, if◌then◌else◌, length, List, [], ◌∷◌, Option, Some, None, Ok, Err, refl, sym, ◌∙◌, ap, arith}
use Rattle.std.specs.Prelude.{nat_le}
use Rattle.std.specs.List.{AllByRecursion, list_all}
use Rattle.std.proofs.lemmas.Bool.Decides.{nat_tests}
use Rattle.std.proofs.lemmas.List.Elements.{All-from_recursion, recursion_from_All}
use Rattle.dice_parse.specs.declared.parts.Part.{Part}
use Rattle.dice_parse.specs.declared.parts.Part.TheVariants.{Group as AGroup, Number as ANumber}
use Rattle.dice_parse.specs.declared.parts.Term.{Term}
use Rattle.dice_parse.specs.declared.texts.DiceFault.TheVariants.{BadDice, DiceLimit}
use Rattle.dice_parse.specs.Readers.{dice_at}
use Rattle.dice_parse.specs.Answers.{part_fits, is_within, answer_by, dice_of}
use Rattle.dice_parse.specs.Grammar.{PartFits, IsWithin}

both : (a b : Bool) → (a && b) ≡ true → (a ≡ true) × (b ≡ true)
both true b h = (refl, h)
both false b h = cc

together : (a b : Bool) → a ≡ true → b ≡ true → (a && b) ≡ true
together true b h k = k
together false b h k = cc

part_to : (p : Part) → part_fits p ≡ true → PartFits p
part_to (ANumber n) h = tt
part_to (AGroup g) h =
    let a = both (nat_le 1 g.count) (nat_le g.count 100 && (nat_le 1 g.sides && nat_le g.sides 1000)) h in
    let b = both (nat_le g.count 100) (nat_le 1 g.sides && nat_le g.sides 1000) a.1 in
    let d = both (nat_le 1 g.sides) (nat_le g.sides 1000) b.1 in
    record { some = grind (arith, nat_tests); count = grind (arith, nat_tests); side = grind (arith, nat_tests); sides = grind (arith, nat_tests) }

part_from : (p : Part) → PartFits p → part_fits p ≡ true
part_from (ANumber n) h = refl
part_from (AGroup g) h = let some = h.some in let count = h.count in let side = h.side in let sides = h.sides in grind (arith, nat_tests)

all_to : (ts : List Term) → list_all (λ t. part_fits t.part) ts ≡ true → AllByRecursion (λ t. PartFits t.part) ts
all_to [] h = tt
all_to (t ∷ ts) h = let a = both (part_fits t.part) (list_all (λ t. part_fits t.part) ts) h in (part_to t.part a.0, all_to ts a.1)

all_from : (ts : List Term) → AllByRecursion (λ t. PartFits t.part) ts → list_all (λ t. part_fits t.part) ts ≡ true
all_from [] h = refl
all_from (t ∷ ts) h = together (part_fits t.part) (list_all (λ t. part_fits t.part) ts) (part_from t.part h.0) (all_from ts h.1)

pub within_to : (ts : List Term) → is_within ts ≡ true → IsWithin ts
within_to ts h =
    let a = both (nat_le 1 (length ts)) (nat_le (length ts) 16 && list_all (λ t. part_fits t.part) ts) h in
    let b = both (nat_le (length ts) 16) (list_all (λ t. part_fits t.part) ts) a.1 in
    let least : 1 ≤ length ts = grind (arith, nat_tests) in
    let most : length ts ≤ 16 = grind (arith, nat_tests) in
    (least, most, All-from_recursion (λ t. PartFits t.part) ts (all_to ts b.1))

pub within_from : (ts : List Term) → IsWithin ts → is_within ts ≡ true
within_from ts h =
    let least = h.0 in
    let most = h.1 in
    let a : nat_le 1 (length ts) ≡ true = grind (arith, nat_tests) in
    let b : nat_le (length ts) 16 ≡ true = grind (arith, nat_tests) in
    together (nat_le 1 (length ts)) (nat_le (length ts) 16 && list_all (λ t. part_fits t.part) ts) a
    (together (nat_le (length ts) 16) (list_all (λ t. part_fits t.part) ts) b (all_from ts (recursion_from_All (λ t. PartFits t.part) ts h.2)))

-- a test that tells the limits is the test of the limits
pub same_test : (ts : List Term) (b : Bool) → IsTrue b ↔ IsWithin ts → b ≡ is_within ts
same_test ts b tells = by_case b (is_within ts) refl refl tells
  where
    by_case : (b w : Bool) → b ≡ b → is_within ts ≡ w → IsTrue b ↔ IsWithin ts → b ≡ w
    by_case true true _ _ tells = refl
    by_case true false _ is tells = absurd (let k = within_from ts (tells.0 refl) in cc)
    by_case false true _ is tells = absurd (let k = tells.1 (within_to ts is) in cc)
    by_case false false _ _ tells = refl

-- ---- the answer to a text, by what was read of it

answered : (s rest : List ℕ) (o : Option (List Term)) → ((turns : ℕ) → length s < turns → dice_at turns s ≡ (o, rest)) → dice_of s ≡ answer_by s (o, rest)
unfolding dice_of
answered s rest o h = ap (answer_by s) (h (suc (length s)) (omega arith))

pub dice_fit : (s : List ℕ) (ts : List Term) → ((turns : ℕ) → length s < turns → dice_at turns s ≡ (Some ts, [])) → is_within ts ≡ true → dice_of s ≡ Ok ts
dice_fit s ts h fit = answered s [] (Some ts) h ∙ ap (λ b. if b then Ok ts else Err DiceLimit) fit

pub dice_too_much : (s : List ℕ) (ts : List Term) → ((turns : ℕ) → length s < turns → dice_at turns s ≡ (Some ts, [])) → is_within ts ≡ false → dice_of s ≡ Err DiceLimit
dice_too_much s ts h off = answered s [] (Some ts) h ∙ ap (λ b. if b then Ok ts else Err DiceLimit) off

pub dice_bad : (s rest : List ℕ) (at : ℕ) → ((turns : ℕ) → length s < turns → dice_at turns s ≡ (None, rest)) → at ≡ length s - length rest → dice_of s ≡ Err (BadDice at)
dice_bad s rest at h is = answered s rest None h ∙ ap (λ n. Err (BadDice n)) (sym is)
