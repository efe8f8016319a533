use Rattle.std.proofs.Common.{◌≡◌, ◌<◌, ◌≤◌, ◌+◌, List, ℕ, suc, ◌-◌, ◌*◌, ◌^◌, arith, sym, ◌∙◌, add-one}
use Rattle.std.proofs.Math.Nat.{pow-le-pow_right, pow-suc}
use Rattle.reading.specs.Number.{IsDigit, is_digit, digits_at}
use Rattle.reading.proofs.Number.{digits_next, digit_means}
use Rattle.reading.proofs.Pairs.{item_meets}
use Rattle.reading.proofs.Cursor.digits.Goals as goal

-- eighteen digits are below 10 ^ 18
tens : (p further : ℕ) → p < further → further ≤ 17 → 10 ^ (p + 1) ≤ 100000000000000000
tens p further h l = let a : 0 < 10 = omega arith in let b : p + 1 ≤ 17 = omega arith in pow-le-pow_right a b

more_tens : (p v d : ℕ) → v < 10 ^ (p + 1) → d < 10 → 10 * v + d < 10 ^ (p + 1 + 1)
more_tens p v d h k = let e : 10 ^ (p + 1 + 1) ≡ 10 ^ (p + 1) * 10 = rw (add-one (p + 1)) (pow-suc 10 (p + 1)) in omega arith

went_on : (further p v d : ℕ) (s r : List ℕ) → p < further → digits_at (suc (further - (p + 1))) v s ≡ digits_at (further - (p + 1)) d r → digits_at (further - (p + 1)) d r ≡ digits_at (further - p) v s
went_on further p v d s r h e =
    let b : further - p ≡ suc (further - (p + 1)) = omega arith in
    rw b (sym e)

-- a number with fewer digits is below the bound of one with more
below : (a b v : ℕ) → v < 10 ^ (a + 1) → a ≤ b → v < 10 ^ (b + 1)
below a b v h le = let ten : 0 < 10 = omega arith in let up : a + 1 ≤ b + 1 = omega arith in let k = pow-le-pow_right ten up in omega arith

pub returns-in_default-clause-bound : goal.returns-in_default-clause-bound
returns-in_default-clause-bound c = below c.loop-place._place c.args.further c.loop-place.value c.loop-place.invariant.0 (omega arith)

pub overflow_mul-value : goal.overflow_mul-value
overflow_mul-value c = omega (arith, tens c.loop-place._place c.args.further c.loop-place-test.true c.requires.few, c.loop-place.invariant.0)

pub overflow_add-value : goal.overflow_add-value
overflow_add-value c =
    let d : IsDigit c.in-Some.digit = digit_means c.in-Some.digit (item_meets is_digit c.loop-place.self.rest.now c.in-Some.digit c.digit.new.self.rest.now c.in-Some.ensures.value) in
    omega (arith, tens c.loop-place._place c.args.further c.loop-place-test.true c.requires.few, c.loop-place.invariant.0)

pub loop-place-preserved : goal.loop-place-preserved
loop-place-preserved c =
    let d : IsDigit c.in-Some.digit = digit_means c.in-Some.digit (item_meets is_digit c.loop-place.self.rest.now c.in-Some.digit c.digit.new.self.rest.now c.in-Some.ensures.value) in
    let small : c.from.result < 10 = omega arith in
    let next = digits_next (c.args.further - (c.loop-place._place + 1)) c.loop-place.value c.loop-place.self.rest.now c.in-Some.digit c.digit.new.self.rest.now c.in-Some.ensures.value in (
      more_tens c.loop-place._place c.loop-place.value c.from.result c.loop-place.invariant.0 small,
      rw c.from.ensures (went_on c.args.further c.loop-place._place c.loop-place.value (10 * c.loop-place.value + (c.in-Some.digit - 48)) c.loop-place.self.rest.now c.digit.new.self.rest.now c.loop-place-test.true next) ∙ c.loop-place.invariant.1,
      omega arith,
    )
