-- The set of the cells that have a letter, one letter after the other.
use Rattle.std.proofs.Common.{◌≡◌, ℕ, ◌+◌, ◌<◌, Bool, true, false, ◌||◌, List, [], ◌∷◌, ◌++◌, length, take, get_or, refl, sym, ◌∙◌, ap, subst, rules}
use Rattle.std.specs.Prelude.{◌↔◌, IsTrue}
use Rattle.std.proofs.lemmas.Bool.Decides.{Decides-and, Decides-eqb}
use Rattle.cells.specs.declared.cell.Cell.{Cell}
use Rattle.std.proofs.lemmas.List.{take_more}
use Rattle.cells.specs.Cell.{is_at}
use Rattle.cells.specs.Cells.{Extent, Cells, has, cells_where, IsToldByCells}
use Rattle.cells.proofs.SetLaws.{has-cells_where, cells_where_same}
use Rattle.views.specs.Keys.{Letter}
use Rattle.views.specs.Lettered.{has_letter, with_lettered}

has_letter-pushed : (letters : List Letter) (letter : Letter) (x y : ℕ) → has_letter (letters ++ letter ∷ []) x y ≡ (has_letter letters x y || is_at letter.0 x y)
has_letter-pushed [] letter x y = or_none (is_at letter.0 x y)
  where
    or_none : (b : Bool) → (b || false) ≡ b
    or_none true = refl
    or_none false = refl
has_letter-pushed (first ∷ letters) letter x y =
    ap (λ b. is_at first.0 x y || b) (has_letter-pushed letters letter x y) ∙ grouped (is_at first.0 x y) (has_letter letters x y) (is_at letter.0 x y)
  where
    grouped : (a b c : Bool) → (a || (b || c)) ≡ ((a || b) || c)
    grouped true b c = refl
    grouped false b c = refl

-- the set so far with one more cell
more_lettered : (s cells : Cells) (letters : List Letter) (letter : Letter) → cells ≡ with_lettered s letters
    → cells_where cells.extent (λ x y. has cells x y || is_at letter.0 x y) ≡ with_lettered s (letters ++ letter ∷ [])
unfolding with_lettered
more_lettered s cells letters letter e =
    ap (λ (c : Cells). cells_where c.extent (λ x y. has c x y || is_at letter.0 x y)) e
    ∙ cells_where_same s.extent (λ x y. has (cells_where s.extent (λ x y. has s x y || has_letter letters x y)) x y || is_at letter.0 x y)
    (λ x y. has s x y || has_letter (letters ++ letter ∷ []) x y)
    (λ x y hx hy.
    ap (λ b. b || is_at letter.0 x y) (has-cells_where s.extent (λ x y. has s x y || has_letter letters x y) x y hx hy)
    ∙ grouped (has s x y) (has_letter letters x y) (is_at letter.0 x y) ∙ ap (λ b. has s x y || b) (sym (has_letter-pushed letters letter x y)))
  where
    grouped : (a b c : Bool) → ((a || b) || c) ≡ (a || (b || c))
    grouped true b c = refl
    grouped false b c = refl

pub next_lettered : (s cells : Cells) (letters : List Letter) (i : ℕ) (d : Letter) → i < length letters → cells ≡ with_lettered s (take i letters)
    → cells_where cells.extent (λ x y. has cells x y || is_at (get_or letters i d).0 x y) ≡ with_lettered s (take (i + 1) letters)
next_lettered s cells letters i d h e = more_lettered s cells (take i letters) (get_or letters i d) e ∙ ap (with_lettered s) (sym (take_more letters i d h))

-- a cell off the map adds nothing
pub off_map : (s : Cells) (cell : Cell) → IsToldByCells s → ((cell.x < s.extent.w) × (cell.y < s.extent.h) → ⊥) → s ≡ cells_where s.extent (λ x y. has s x y || is_at cell x y)
off_map s cell told off = told ∙ cells_where_same s.extent (has s) (λ x y. has s x y || is_at cell x y) (λ x y hx hy. here x y (is_at cell x y) (has s x y) refl hx hy)
  where
    here : (x y : ℕ) (t b : Bool) → is_at cell x y ≡ t → x < s.extent.w → y < s.extent.h → b ≡ (b || t)
    here x y false true e hx hy = refl
    here x y false false e hx hy = refl
    here x y true b e hx hy =
        let same = (Decides-and _ _ (Decides-eqb cell.x x) (Decides-eqb cell.y y)).0 e in
        absurd (off (subst (λ n. n < s.extent.w) (sym same.0) hx, subst (λ n. n < s.extent.h) (sym same.1) hy))

pub off_map_by_test : (s : Cells) (size : Extent) (cell : Cell) (t : Bool) → IsToldByCells s → size ≡ s.extent → (IsTrue t ↔ ((cell.x < size.w) × (cell.y < size.h))) → t ≡ false
    → s ≡ cells_where s.extent (λ x y. has s x y || is_at cell x y)
off_map_by_test s size cell true told e test f = cc
off_map_by_test s size cell false told e test f = off_map s cell told (λ on. never (test.1 (subst (λ n. (cell.x < n.w) × (cell.y < n.h)) (sym e) on)))
  where
    never : IsTrue false → ⊥
    never h = search rules

pub none_lettered : (s : Cells) → IsToldByCells s → s ≡ with_lettered s []
unfolding with_lettered
none_lettered s told = told ∙ cells_where_same s.extent (has s) (λ x y. has s x y || false) (λ x y hx hy. or_none (has s x y))
  where
    or_none : (b : Bool) → b ≡ (b || false)
    or_none true = refl
    or_none false = refl

-- added to no cells, the cells that have a letter are alone
pub lettered_alone : (size : Extent) (letters : List Letter) (cells : Cells) → cells ≡ cells_where size (λ x y. false)
    → with_lettered cells letters ≡ cells_where size (has_letter letters)
unfolding with_lettered
lettered_alone size letters cells e =
    ap (λ (c : Cells). cells_where c.extent (λ x y. has c x y || has_letter letters x y)) e
    ∙ cells_where_same size (λ x y. has (cells_where size (λ x y. false)) x y || has_letter letters x y) (has_letter letters) (λ x y hx hy. ap (λ b. b || has_letter letters x y) (has-cells_where size (λ x y. false) x y hx hy))
