use Rattle.std.proofs.Common.{◌≡◌, ℕ, ◌+◌, ◌-◌, ◌*◌, ◌/◌, ◌<◌, ◌≤◌, ◌↔◌, true, false, nat_le, nat_lt, arith, ap, inl, inr}
use Rattle.std.proofs.lemmas.Bool.{cases_lt}
use Rattle.std.proofs.lemmas.Bool.Decides.{nat_tests}
use Rattle.std.proofs.Math.Nat.{mul-le-mul, mul-le-mul_left}
use Rattle.sight_sweep.specs.Edges.{IsScale, IsSmall}

-- a number is above a quotient where its multiple is above the dividend
pub quotient_below : (d e x : ℕ) → 0 < d → (e / d + 1 ≤ x) ↔ (e < d * x)
quotient_below d e x some = (
  λ h. omega (arith, mul-le-mul_left d h),
  λ h. elim (cases_lt (e / d) x) [ inl lt ↦ omega arith | inr ge ↦ absurd (omega (arith, mul-le-mul_left d ge)) ],
)

-- multiplied by the scale and divided by the whole a number is what it is divided by the gap
pub scaled_below : (whole gap scale n x : ℕ) → 0 < gap → 0 < whole → whole ≤ scale * gap → scale * gap < whole + gap → n * gap < whole
    → (n * scale / whole + 1 ≤ x) ↔ (n < gap * x)
scaled_below whole gap scale n x some more low high small = (
  λ h. elim (cases_lt n (gap * x)) [
    | inl lt ↦ lt
    | inr ge ↦ absurd (omega (arith, (quotient_below whole (n * scale) x more).0 h, mul-le-mul_left scale ge, mul-le-mul_left x low))
  ],
  λ h. (quotient_below whole (n * scale) x more).1 (
      elim (cases_lt (n * scale) (whole * x)) [
        | inl lt ↦ lt
        | inr ge ↦ absurd (over h ge)
      ]),
)
  where
    by : (p p' q r r' m : ℕ) → p ≡ p' → r ≡ r' → p + n ≤ q + m → m < whole → q + whole ≤ r' → r ≤ p' → ⊥
    by p p' q r r' m e f h k l o = omega arith

    over : n < gap * x → whole * x ≤ n * scale → ⊥
    over h ge =
        by (n * (scale * gap)) (gap * (n * scale)) (n * whole) (gap * (whole * x)) (whole * (gap * x)) (n * gap) (grind arith) (grind arith)
        (let at = mul-le-mul_left n (let le : scale * gap + 1 ≤ whole + gap = omega arith in le) in grind arith) small
        (let at = mul-le-mul_left whole (let le : n + 1 ≤ gap * x = omega arith in le) in grind arith)
        (mul-le-mul_left gap ge)

-- ---- the columns from a bound on, and those before one

from_bound : (gap scale u v n x : ℕ) → 0 < gap → IsScale gap scale → n + u + 1 ≡ 20000 * gap + v + gap → n * gap < 4294967296
    → (n * scale / 4294967296 ≤ 20000 + x) ↔ (v ≤ u + gap * x)
from_bound gap scale u v n x some is e small =
    by (n * scale / 4294967296) (scaled_below 4294967296 gap scale n (20000 + x + 1) some (omega arith) is.low is.high small)
  where
    by : (k : ℕ) → (k + 1 ≤ 20000 + x + 1) ↔ (n < gap * (20000 + x + 1)) → (k ≤ 20000 + x) ↔ (v ≤ u + gap * x)
    by k same = (
      λ h. (let lt : n < gap * (20000 + x + 1) = same.0 (omega arith) in omega arith),
      λ h. (let le : k + 1 ≤ 20000 + x + 1 = same.1 (omega arith) in omega arith),
    )

past_bound : (gap scale u v n x : ℕ) → 0 < gap → IsScale gap scale → n + v ≡ 20000 * gap + u + gap → n * gap < 4294967296
    → (20000 + x < n * scale / 4294967296) ↔ (v + gap * x ≤ u)
past_bound gap scale u v n x some is e small =
    by (n * scale / 4294967296) (scaled_below 4294967296 gap scale n (20000 + x + 1) some (omega arith) is.low is.high small)
  where
    by : (k : ℕ) → (k + 1 ≤ 20000 + x + 1) ↔ (n < gap * (20000 + x + 1)) → (20000 + x < k) ↔ (v + gap * x ≤ u)
    by k same = (
      λ h. elim (cases_lt n (gap * (20000 + x + 1))) [
        | inl lt ↦ absurd (let le : k + 1 ≤ 20000 + x + 1 = same.1 lt in omega arith)
        | inr ge ↦ omega arith
      ],
      λ h. elim (cases_lt (20000 + x) k) [
        | inl lt ↦ lt
        | inr ge ↦ absurd (let lt : n < gap * (20000 + x + 1) = same.0 (omega arith) in omega arith)
      ],
    )

same_le : (k l m n : ℕ) → (k ≤ l) ↔ (m ≤ n) → nat_le k l ≡ nat_le m n
same_le k l m n same = grind (arith, nat_tests)

same_lt : (k l m n : ℕ) → (k < l) ↔ (m ≤ n) → nat_lt k l ≡ nat_le m n
same_lt k l m n same = grind (arith, nat_tests)

-- what is no more than so many gaps and a few products of coordinates is far below the whole
small_product : (n gap : ℕ) → n ≤ 20000 * gap + 200000 → gap ≤ 384 → n * gap < 4294967296
small_product n gap few h = omega (arith, mul-le-mul few h, h)

-- two sides' products differ by no more than the square of the lattice's size
crossed : (p q r s : ℕ) → p ≤ 192 → q ≤ 192 → r ≤ 192 → s ≤ 192 → p * r + q * s ≤ p * s + q * r + 36864
crossed p q r s hp hq hr hs = elim (cases_lt p q) [ inl lt ↦ by (q - p) (omega arith) | inr ge ↦ back (p - q) (omega arith) ]
  where
    by : (d : ℕ) → d + p ≡ q → p * r + q * s ≤ p * s + q * r + 36864
    by d e = omega (arith, ap (λ n. n * s) e, ap (λ n. n * r) e, mul-le-mul (let le : d ≤ 192 = omega arith in le) hs)

    back : (d : ℕ) → d + q ≡ p → p * r + q * s ≤ p * s + q * r + 36864
    back d e = omega (arith, ap (λ n. n * s) e, ap (λ n. n * r) e, mul-le-mul (let le : d ≤ 192 = omega arith in le) hr)

-- the dividend of a line that goes up is above zero in each row
pub lower_above : (ax ay bx by gap row : ℕ) → ax ≤ 192 → ay ≤ 192 → bx ≤ 192 → row ≤ 192 → by < ay → gap ≡ 2 * (ay - by)
    → ax * by + ay + bx * row ≤ 20000 * gap + ay * bx + by + gap - 1 + ax * row
lower_above ax ay bx by gap row hax hay hbx hr lt e =
    omega (arith, crossed bx ax row ay hbx hax hr hay, mul-le-mul_left ax (let le : by ≤ ay = omega arith in le))

-- and that of one that goes down
pub upper_above : (ax ay bx by gap row : ℕ) → ax ≤ 192 → ay ≤ 192 → by ≤ 192 → bx ≤ 192 → row ≤ 192 → ay < by → gap ≡ 2 * (by - ay)
    → ay * bx + by + ax * row ≤ 20000 * gap + ax * by + ay + gap + bx * row
upper_above ax ay bx by gap row hax hay hby hbx hr lt e =
    omega (arith, crossed bx ax ay row hbx hax hay hr, mul-le-mul_left ax (let le : ay ≤ by = omega arith in le))

pub lower_turns : (ax ay bx by gap scale x y : ℕ) → ax ≤ 192 → ay ≤ 192 → bx ≤ 192 → y < 96 → by < ay → gap ≡ 2 * (ay - by) → IsScale gap scale
    → nat_le ((20000 * gap + gap + (ay * bx + by) - (ax * by + ay + 1) + ax * (2 * y + 1) - bx * (2 * y + 1)) * scale / 4294967296) (20000 + x)
    ≡ nat_le (ay * bx + by * (2 * x + 1) + (2 * y + 1) * ax) (ax * by + bx * (2 * y + 1) + (2 * x + 1) * ay)
lower_turns ax ay bx by gap scale x y hax hay hbx hy lt e is =
    same_le _ _ _ _
    (let same = from_bound gap scale (ax * by + ay + bx * (2 * y + 1)) (ay * bx + by + ax * (2 * y + 1)) _ x (omega arith) is (dividend)
    (small_product _ gap (omega (arith, mul-le-mul hay hbx, mul-le-mul hax row)) (omega arith)) in
    let rise : gap + 2 * by ≡ 2 * ay = omega arith in
    (λ h. (let k = same.0 h in omega (arith, k, ap (λ n. n * x) rise)), λ h. same.1 (omega (arith, ap (λ n. n * x) rise))))
  where
    row : 2 * y + 1 ≤ 192
    row = omega arith

    dividend : 20000 * gap + gap + (ay * bx + by) - (ax * by + ay + 1) + ax * (2 * y + 1) - bx * (2 * y + 1) + (ax * by + ay + bx * (2 * y + 1)) + 1
        ≡ 20000 * gap + (ay * bx + by + ax * (2 * y + 1)) + gap
    dividend = omega (arith, lower_above ax ay bx by gap (2 * y + 1) hax hay hbx row lt e, lower_above ax ay bx by gap 0 hax hay hbx (omega arith) lt e)

pub upper_turns : (ax ay bx by gap scale x y : ℕ) → ax ≤ 192 → ay ≤ 192 → by ≤ 192 → bx ≤ 192 → y < 96 → ay < by → gap ≡ 2 * (by - ay)
    → IsScale gap scale
    → nat_lt (20000 + x) ((20000 * gap + gap + (ax * by + ay) - (ay * bx + by) + bx * (2 * y + 1) - ax * (2 * y + 1)) * scale / 4294967296)
    ≡ nat_le (ay * bx + by * (2 * x + 1) + (2 * y + 1) * ax) (ax * by + bx * (2 * y + 1) + (2 * x + 1) * ay)
upper_turns ax ay bx by gap scale x y hax hay hby hbx hy lt e is =
    same_lt _ _ _ _
    (let same = past_bound gap scale (ax * by + ay + bx * (2 * y + 1)) (ay * bx + by + ax * (2 * y + 1)) _ x (omega arith) is (dividend)
    (small_product _ gap (omega (arith, mul-le-mul hax hby, mul-le-mul hbx row)) (omega arith)) in
    let rise : gap + 2 * ay ≡ 2 * by = omega arith in
    (λ h. (let k = same.0 h in omega (arith, k, ap (λ n. n * x) rise)), λ h. same.1 (omega (arith, ap (λ n. n * x) rise))))
  where
    row : 2 * y + 1 ≤ 192
    row = omega arith

    dividend : 20000 * gap + gap + (ax * by + ay) - (ay * bx + by) + bx * (2 * y + 1) - ax * (2 * y + 1) + (ay * bx + by + ax * (2 * y + 1))
        ≡ 20000 * gap + (ax * by + ay + bx * (2 * y + 1)) + gap
    dividend =
        omega (arith, upper_above ax ay bx by gap (2 * y + 1) hax hay hby hbx row lt e, upper_above ax ay bx by gap 0 hax hay hby hbx (omega arith) lt e)

-- ---- numbers that are small

scale_small : (gap scale : ℕ) → 0 < gap → IsScale gap scale → scale ≤ 4294967296
scale_small gap scale some is =
    elim (cases_lt 4294967296 scale) [ inl lt ↦ absurd (omega (arith, is.high, mul-le-mul_left gap (let le : 4294967297 ≤ scale = omega arith in le))) | inr ge ↦ ge ]

pub lower_small : (ax ay bx by gap scale : ℕ) → ax ≤ 192 → ay ≤ 192 → bx ≤ 192 → by < ay → gap ≡ 2 * (ay - by) → IsScale gap scale
    → IsSmall (record { from = true; base = 20000 * gap + gap + (ay * bx + by) - (ax * by + ay + 1); up = ax; down = bx; scale = scale })
lower_small ax ay bx by gap scale hax hay hbx lt e is = record {
  base = omega (arith, mul-le-mul hay hbx);
  up = hax;
  down = hbx;
  scale = scale_small gap scale (omega arith) is;
  above = λ y hy. above (2 * y + 1) (omega arith);
}
  where
    above : (row : ℕ) → row ≤ 192 → bx * row ≤ 20000 * gap + gap + (ay * bx + by) - (ax * by + ay + 1) + ax * row
    above row hr = omega (arith, lower_above ax ay bx by gap row hax hay hbx hr lt e)

pub upper_small : (ax ay bx by gap scale : ℕ) → ax ≤ 192 → ay ≤ 192 → by ≤ 192 → bx ≤ 192 → ay < by → gap ≡ 2 * (by - ay) → IsScale gap scale
    → IsSmall (record { from = false; base = 20000 * gap + gap + (ax * by + ay) - (ay * bx + by); up = bx; down = ax; scale = scale })
upper_small ax ay bx by gap scale hax hay hby hbx lt e is = record {
  base = omega (arith, mul-le-mul hax hby);
  up = hbx;
  down = hax;
  scale = scale_small gap scale (omega arith) is;
  above = λ y hy. above (2 * y + 1) (omega arith);
}
  where
    above : (row : ℕ) → row ≤ 192 → ax * row ≤ 20000 * gap + gap + (ax * by + ay) - (ay * bx + by) + bx * row
    above row hr = omega (arith, upper_above ax ay bx by gap row hax hay hby hbx hr lt e)

-- ---- level lines

-- of two points at one height the path turns by the row's height alone
level_side : (d ax bx y t : ℕ) → d + ax ≡ bx → 0 < d → (y ≤ t) ↔ (y * bx + t * ax ≤ ax * y + bx * t)
level_side d ax bx y t e some = (
  λ h. omega (arith, mul-le-mul_left d h, ap (λ n. n * y) e, ap (λ n. n * t) e),
  λ h. elim (cases_lt t y) [
    | inl lt ↦ absurd (omega (arith, mul-le-mul_left d (let le : t + 1 ≤ y = omega arith in le), ap (λ n. n * y) e, ap (λ n. n * t) e))
    | inr ge ↦ ge
  ],
)

whole_left : (n k : ℕ) → n ≡ k → n * 4294967296 / 4294967296 ≡ k
whole_left n k e = omega arith

pub level_rises : (ax bx y x t : ℕ) → ax < bx → y ≤ 192 → x < 96
    → nat_lt (20000 + x) ((20096 + 0 * y - 96 * y + 96 * t - 0 * t) * 4294967296 / 4294967296) ≡ nat_le (y * bx + t * ax) (ax * y + bx * t)
level_rises ax bx y x t lt hy hx =
    rw (whole_left (20096 + 0 * y - 96 * y + 96 * t - 0 * t) (20096 - 96 * y + 96 * t) (omega arith))
    (same_lt _ _ _ _ (let same = level_side (bx - ax) ax bx y t (omega arith) (omega arith) in (λ h. same.0 (omega arith), λ h. (let le = same.1 h in omega arith))))

pub level_falls : (ax bx y x t : ℕ) → bx < ax → t ≤ 192 → x < 96
    → nat_lt (20000 + x) ((20096 + 96 * y - 0 * y + 0 * t - 96 * t) * 4294967296 / 4294967296) ≡ nat_le (y * bx + t * ax) (ax * y + bx * t)
level_falls ax bx y x t lt ht hx =
    rw (whole_left (20096 + 96 * y - 0 * y + 0 * t - 96 * t) (20096 + 96 * y - 96 * t) (omega arith))
    (same_lt _ _ _ _
    (let same = level_side (ax - bx) bx ax t y (omega arith) (omega arith) in
    (λ h. (let k = same.0 (omega arith) in omega (arith, k)), λ h. (let le = same.1 (omega (arith, h)) in omega arith))))

pub level_stays : (ax bx y x t : ℕ) → ax ≡ bx → x < 96
    → nat_lt (20000 + x) ((20096 + 0 * y - 0 * y + 0 * t - 0 * t) * 4294967296 / 4294967296) ≡ nat_le (y * bx + t * ax) (ax * y + bx * t)
level_stays ax bx y x t e hx =
    rw (whole_left (20096 + 0 * y - 0 * y + 0 * t - 0 * t) 20096 (omega arith))
    (same_lt _ _ _ _ (λ h. omega (arith, ap (λ n. n * y) e, ap (λ n. n * t) e), λ h. omega arith))
