use Rattle.std.proofs.Common.{◌≡◌, ℕ, ◌+◌, ◌-◌, ◌*◌, ◌/◌, ◌<◌, ◌≤◌, Bool, true, false, not, ◌&&◌, nat_le, max, min, arith, ap, ◌∙◌, inl, inr}
use Rattle.std.proofs.lemmas.Bool.{cases_lt}
use Rattle.std.proofs.lemmas.Bool.Decides.{nat_tests}
use Rattle.std.proofs.Math.Nat.{mul-le-mul, mul-le-mul_left, mul-lt-mul_of_pos_left}
use Rattle.lattice.specs.Coordinates.{Coordinates, centre_of, difference}
use Rattle.lattice.specs.Turning.{are_apart, left_sum, right_sum, shadow_test}
use Rattle.lattice.proofs.SideLemmas.{meet_is_shadow}
use Rattle.topology.specs.Sight.{reach_test}
use Rattle.sight_sweep.proofs.FarLemmas.{near_squares}
use Rattle.sight_sweep.proofs.EdgeLemmas.{quotient_below}

two_products : (a b : ℕ) → 2 * (a * b) ≤ a * a + b * b
two_products a b = elim (cases_lt a b) [ inl lt ↦ by a b (b - a) (omega arith) | inr ge ↦ (let other = by b a (a - b) (omega arith) in omega (arith, other)) ]
  where
    by : (a b d : ℕ) → d + a ≡ b → 2 * (a * b) ≤ a * a + b * b
    by a b d e = omega (arith, ap (λ n. n * n) e, ap (λ n. a * n) e)

-- the length over two sides is no less than what the 3, 4 and 5 tell
pub by_five : (long short : ℕ) → (4 * long + 3 * short) / 5 * ((4 * long + 3 * short) / 5) ≤ long * long + short * short
by_five long short = at ((4 * long + 3 * short) / 5) (omega arith)
  where
    at : (n : ℕ) → 5 * n ≤ 4 * long + 3 * short → n * n ≤ long * long + short * short
    at n h = omega (arith, mul-le-mul h h, two_products (3 * long) (4 * short))

pub longest : (side rise : ℕ)
    → max (max side rise) ((4 * max side rise + 3 * min side rise) / 5) * max (max side rise) ((4 * max side rise + 3 * min side rise) / 5)
    ≤ side * side + rise * rise
longest side rise = elim (cases_lt side rise) [
  | inl lt ↦ at rise side (max side rise) (min side rise) (omega arith) (omega arith)
  | inr ge ↦ (let more = at side rise (max side rise) (min side rise) (omega arith) (omega arith) in omega (arith, more))
]
  where
    greater : (m n most : ℕ) → m * m ≤ most → n * n ≤ most → max m n * max m n ≤ most
    greater m n most h k =
        elim (cases_lt m n) [
          | inl lt ↦ (let e : max m n ≡ n = omega arith in rw e k)
          | inr ge ↦ (let e : max m n ≡ m = omega arith in rw e h)
        ]

    at : (long short m n : ℕ) → m ≡ long → n ≡ short → max m ((4 * m + 3 * n) / 5) * max m ((4 * m + 3 * n) / 5) ≤ short * short + long * long
    at long short m n e f =
        rw (e, f)
        (greater long ((4 * long + 3 * short) / 5) (short * short + long * long) (omega arith) (let most = by_five long short in omega (arith, most)))

-- within reach a line that rises so much over so much to the side rises no more than in that relation to its length
under_line : (side far j rise k : ℕ) → far * far ≤ side * side + rise * rise → k * k + j * j ≤ 6400 → side * j ≤ rise * k → far * j ≤ rise * 80
under_line side far j rise k length near h =
    elim (cases_lt (rise * 80) (far * j)) [
      | inl lt ↦
          let next : rise * 80 + 1 ≤ far * j = omega arith in
          absurd (omega (arith, mul-le-mul next next, mul-le-mul_left (j * j) length, mul-le-mul h h, mul-le-mul_left (rise * rise) near))
      | inr ge ↦ ge
    ]

pub quotient_reached : (side far j rise k : ℕ) → 0 < far → far * far ≤ side * side + rise * rise → k * k + j * j ≤ 6400
    → side * j ≤ rise * k → j ≤ rise * 80 / far
quotient_reached side far j rise k some length near h =
    elim (cases_lt (rise * 80 / far) j) [
      | inl lt ↦ absurd (omega (arith, (quotient_below far (rise * 80) j some).0 (omega arith), under_line side far j rise k length near h))
      | inr ge ↦ ge
    ]

pub risen_row : (eye reached y : ℕ) → eye - (2 * y + 1) ≤ reached → (eye - reached) / 2 ≤ y
risen_row eye reached y h = omega arith

pub fallen_row : (eye reached y : ℕ) → y < 96 → 2 * y + 1 - eye ≤ reached → y < min ((eye + reached + 1) / 2) 96
fallen_row eye reached y inside h = omega arith

-- what is not clockwise of a line that goes up rises no more than the line
rises : (run k eye end t : ℕ) → 0 < run → run * eye + end * k ≤ run * t + k * eye → run * (eye - t) ≤ (eye - end) * k
rises run k eye end t some h =
    elim (cases_lt t eye) [
      | inl lt ↦ elim (cases_lt end eye) [
        | inl above ↦ by (eye - t) (eye - end) (omega arith) (omega arith)
        | inr below ↦ absurd (omega (arith, h, mul-le-mul_left k below, mul-lt-mul_of_pos_left lt some))
      ]
      | inr ge ↦ none (eye - t) ((eye - end) * k) (omega arith)
    ]
  where
    by : (j m : ℕ) → j + t ≡ eye → m + end ≡ eye → run * j ≤ m * k
    by j m e f = omega (arith, h, ap (λ n. run * n) e, ap (λ n. k * n) f)

    none : (j m : ℕ) → j ≡ 0 → run * j ≤ m
    none j m e = omega (arith, ap (λ n. run * n) e)

-- and what is not counterclockwise of a line that goes down falls no more than the line
falls : (run k eye end t : ℕ) → 0 < run → run * t + k * eye ≤ run * eye + k * end → run * (t - eye) ≤ (end - eye) * k
falls run k eye end t some h =
    elim (cases_lt eye t) [
      | inl lt ↦ elim (cases_lt eye end) [
        | inl below ↦ by (t - eye) (end - eye) (omega arith) (omega arith)
        | inr above ↦ absurd (omega (arith, h, mul-le-mul_left k above, mul-lt-mul_of_pos_left lt some))
      ]
      | inr ge ↦ none (t - eye) ((end - eye) * k) (omega arith)
    ]
  where
    by : (j m : ℕ) → j + eye ≡ t → m + eye ≡ end → run * j ≤ m * k
    by j m e f = omega (arith, h, ap (λ n. run * n) e, ap (λ n. k * n) f)

    none : (j m : ℕ) → j ≡ 0 → run * j ≤ m
    none j m e = omega (arith, ap (λ n. run * n) e)

-- how far to the side the cell is, and that it rises and falls no more than the lines through the wall's ends
pub record IsBeside (eye upper lower : Coordinates) (t k : ℕ) : Type 0 where
  pub near_up : k * k + (eye.y - t) * (eye.y - t) ≤ 6400
  pub near_down : k * k + (t - eye.y) * (t - eye.y) ≤ 6400
  pub risen : difference eye.x upper.x * (eye.y - t) ≤ (eye.y - upper.y) * k
  pub fallen : difference eye.x lower.x * (t - eye.y) ≤ (lower.y - eye.y) * k

joint_columns : (eye a b : Coordinates) (x y : ℕ) → right_sum eye a b < left_sum eye a b → shadow_test eye a b (centre_of x y) ≡ true
    → are_apart a.x b.x eye.x (2 * x + 1) ≡ false
joint_columns eye a b x y spread shadow = first _ _ _ _ (meet_is_shadow eye a b (centre_of x y) spread ∙ shadow)
  where
    first : (p q r s : Bool) → (((not p && not q) && r) && s) ≡ true → p ≡ false
    first p q r s h = grind arith

in_cone : (eye a b t : Coordinates) → shadow_test eye a b t ≡ true
    → (right_sum eye a t ≤ left_sum eye a t) × (right_sum eye t b ≤ left_sum eye t b)
in_cone eye a b t h = parts _ _ _ _ _ h
  where
    parts : (k l m n : ℕ) (p : Bool) → ((nat_le k l && nat_le m n) && p) ≡ true → (k ≤ l) × (m ≤ n)
    parts k l m n p h = grind (arith, nat_tests)

pub beside_right : (eye a b : Coordinates) (x y : ℕ) → right_sum eye a b < left_sum eye a b → reach_test eye x y 40 ≡ true
    → shadow_test eye a b (centre_of x y) ≡ true → eye.x < min a.x b.x → IsBeside eye a b (2 * y + 1) (2 * x + 1 - eye.x)
beside_right eye a b x y spread reach shadow right =
    let ahead : min a.x b.x ≤ 2 * x + 1 = beyond eye.x (2 * x + 1) a.x b.x (joint_columns eye a b x y spread shadow) right in
    let cone = in_cone eye a b (centre_of x y) shadow in
    record {
      near_up = near_squares eye x y (2 * x + 1 - eye.x) (eye.y - (2 * y + 1)) reach (omega arith) (omega arith);
      near_down = near_squares eye x y (2 * x + 1 - eye.x) (2 * y + 1 - eye.y) reach (omega arith) (omega arith);
      risen = rises (difference eye.x a.x) (2 * x + 1 - eye.x) eye.y a.y (2 * y + 1) (omega arith)
          (after (difference eye.x a.x) (2 * x + 1 - eye.x) eye.x eye.y a.x a.y (2 * x + 1) (2 * y + 1) (omega arith) (omega arith) cone.0);
      fallen = falls (difference eye.x b.x) (2 * x + 1 - eye.x) eye.y b.y (2 * y + 1) (omega arith)
          (before (difference eye.x b.x) (2 * x + 1 - eye.x) eye.x eye.y b.x b.y (2 * x + 1) (2 * y + 1) (omega arith) (omega arith) cone.1);
    }
  where
    beyond : (e t a b : ℕ) → are_apart a b e t ≡ false → e < min a b → min a b ≤ t
    beyond e t a b h lt = grind (arith, nat_tests)

    after : (run k ex ey ax ay tx ty : ℕ) → run + ex ≡ ax → k + ex ≡ tx → ey * ax + ay * tx + ty * ex ≤ ex * ay + ax * ty + tx * ey
        → run * ey + ay * k ≤ run * ty + k * ey
    after run k ex ey ax ay tx ty e f h =
        omega (arith, h, ap (λ n. n * ey) e, ap (λ n. n * ty) e, ap (λ n. n * ay) f, ap (λ n. n * ey) f)

    before : (run k ex ey bx by tx ty : ℕ) → run + ex ≡ bx → k + ex ≡ tx → ey * tx + ty * bx + by * ex ≤ ex * ty + tx * by + bx * ey
        → run * ty + k * ey ≤ run * ey + k * by
    before run k ex ey bx by tx ty e f h =
        omega (arith, h, ap (λ n. n * ey) e, ap (λ n. n * ty) e, ap (λ n. n * by) f, ap (λ n. n * ey) f)

pub beside_left : (eye a b : Coordinates) (x y : ℕ) → right_sum eye a b < left_sum eye a b → reach_test eye x y 40 ≡ true
    → shadow_test eye a b (centre_of x y) ≡ true → max a.x b.x < eye.x → IsBeside eye b a (2 * y + 1) (eye.x - (2 * x + 1))
beside_left eye a b x y spread reach shadow left =
    let ahead : 2 * x + 1 ≤ max a.x b.x = beyond eye.x (2 * x + 1) a.x b.x (joint_columns eye a b x y spread shadow) left in
    let cone = in_cone eye a b (centre_of x y) shadow in
    record {
      near_up = near_squares eye x y (eye.x - (2 * x + 1)) (eye.y - (2 * y + 1)) reach (omega arith) (omega arith);
      near_down = near_squares eye x y (eye.x - (2 * x + 1)) (2 * y + 1 - eye.y) reach (omega arith) (omega arith);
      risen = rises (difference eye.x b.x) (eye.x - (2 * x + 1)) eye.y b.y (2 * y + 1) (omega arith)
          (before (difference eye.x b.x) (eye.x - (2 * x + 1)) eye.x eye.y b.x b.y (2 * x + 1) (2 * y + 1) (omega arith) (omega arith) cone.1);
      fallen = falls (difference eye.x a.x) (eye.x - (2 * x + 1)) eye.y a.y (2 * y + 1) (omega arith)
          (after (difference eye.x a.x) (eye.x - (2 * x + 1)) eye.x eye.y a.x a.y (2 * x + 1) (2 * y + 1) (omega arith) (omega arith) cone.0);
    }
  where
    beyond : (e t a b : ℕ) → are_apart a b e t ≡ false → max a b < e → t ≤ max a b
    beyond e t a b h lt = grind (arith, nat_tests)

    after : (run k ex ey ax ay tx ty : ℕ) → run + ax ≡ ex → k + tx ≡ ex → ey * ax + ay * tx + ty * ex ≤ ex * ay + ax * ty + tx * ey
        → run * ty + k * ey ≤ run * ey + k * ay
    after run k ex ey ax ay tx ty e f h =
        omega (arith, h, ap (λ n. n * ey) e, ap (λ n. n * ty) e, ap (λ n. n * ay) f, ap (λ n. n * ey) f)

    before : (run k ex ey bx by tx ty : ℕ) → run + bx ≡ ex → k + tx ≡ ex → ey * tx + ty * bx + by * ex ≤ ex * ty + tx * by + bx * ey
        → run * ey + by * k ≤ run * ty + k * ey
    before run k ex ey bx by tx ty e f h =
        omega (arith, h, ap (λ n. n * ey) e, ap (λ n. n * ty) e, ap (λ n. n * by) f, ap (λ n. n * ey) f)
