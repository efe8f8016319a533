-- A set that is told anew cell by cell, in reading order.
use Rattle.std.proofs.Common.{◌≡◌, ℕ, ◌+◌, ◌<◌, Bool, true, false, not, cond, ◌&&◌, ◌||◌, nat_eq, refl, ap, arith, ◌∙◌}
use Rattle.std.proofs.lemmas.Bool.Decides.{nat_tests}
use Rattle.cells.specs.Cells.{Extent, has, cells_where}
use Rattle.cells.proofs.SetLaws.{cells_where_same, has-cells_where}
use Rattle.fog_book.specs.Rects.{is_before, told_before}

module _ (e : Extent) (f : ℕ → ℕ → Bool) (b : Bool) (g : ℕ → ℕ → Bool) where
  pub told_before_none : cells_where e g ≡ told_before e f b g 0 0
  told_before_none = cells_where_same e _ _ (λ u v hu hv. none u v (f u v) (g u v))
    where
      none : (u v : ℕ) (p q : Bool) → q ≡ cond (is_before u v 0 0 && p) b q
      none u v p q = grind (arith, nat_tests)

  pub told_before_row : (y : ℕ) → told_before e f b g e.w y ≡ told_before e f b g 0 (y + 1)
  told_before_row y = cells_where_same e _ _ (λ u v hu hv. ap (λ t. cond (t && f u v) b (g u v)) (row u v e.w hu))
    where
      row : (u v w : ℕ) → u < w → is_before u v w y ≡ is_before u v 0 (y + 1)
      row u v w h = grind (arith, nat_tests)

  pub told_before_all : told_before e f b g 0 e.h ≡ cells_where e (λ u v. cond (f u v) b (g u v))
  told_before_all = cells_where_same e _ _ (λ u v hu hv. ap (λ t. cond (t && f u v) b (g u v)) (all u v e.h hv))
    where
      all : (u v h : ℕ) → v < h → is_before u v 0 h ≡ true
      all u v h k = grind (arith, nat_tests)

  -- the next cell is passed, where f does not hold
  pub told_before_past : (x y : ℕ) → f x y ≡ false → told_before e f b g x y ≡ told_before e f b g (x + 1) y
  told_before_past x y fails = cells_where_same e _ _ (λ u v hu hv. ap (λ t. cond t b (g u v)) (past u v (f u v) (λ p q. ap (λ n. f n v) p ∙ ap (λ n. f x n) q ∙ fails)))
    where
      past : (u v : ℕ) (c : Bool) → (u ≡ x → v ≡ y → c ≡ false) → (is_before u v x y && c) ≡ (is_before u v (x + 1) y && c)
      past u v c h = grind (arith, nat_tests)

  -- the next cell is told by b, where f holds
  pub told_before_more : (x y : ℕ) → f x y ≡ true
      → cells_where e (λ u v. cond (nat_eq x u && nat_eq y v) b (has (told_before e f b g x y) u v)) ≡ told_before e f b g (x + 1) y
  told_before_more x y holds = cells_where_same e _ _ (λ u v hu hv. rw (has-cells_where e _ u v hu hv) (more u v (f u v) (g u v) (λ p q. ap (λ n. f n v) p ∙ ap (λ n. f x n) q ∙ holds)))
    where
      more : (u v : ℕ) (c d : Bool) → (u ≡ x → v ≡ y → c ≡ true)
          → cond (nat_eq x u && nat_eq y v) b (cond (is_before u v x y && c) b d) ≡ cond (is_before u v (x + 1) y && c) b d
      more u v c d h = grind (arith, nat_tests)

-- a cell that is added, or taken out, is told by true, or false
pub added : (e : Extent) (h g : ℕ → ℕ → Bool) → cells_where e (λ x y. h x y || g x y) ≡ cells_where e (λ x y. cond (g x y) true (h x y))
added e h g = cells_where_same e _ _ (λ x y _ _. here (h x y) (g x y))
  where
    here : (a b : Bool) → (a || b) ≡ cond b true a
    here true true = refl
    here true false = refl
    here false true = refl
    here false false = refl

pub removed : (e : Extent) (h g : ℕ → ℕ → Bool) → cells_where e (λ x y. h x y && not (g x y)) ≡ cells_where e (λ x y. cond (g x y) false (h x y))
removed e h g = cells_where_same e _ _ (λ x y _ _. here (h x y) (g x y))
  where
    here : (a b : Bool) → (a && not b) ≡ cond b false a
    here true true = refl
    here true false = refl
    here false true = refl
    here false false = refl
