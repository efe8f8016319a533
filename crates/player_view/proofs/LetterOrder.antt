-- The letters of a map's cells stand by rows, then columns.
use Rattle.std.proofs.Common.{◌≡◌, ℕ, zero, suc, ◌+◌, ◌<◌, Bool, true, false, cond, ◌&&◌, ◌||◌, List, [], ◌∷◌, ◌++◌, Some, map, refl, sym, ◌∙◌, ap, subst, arith}
use Rattle.std.specs.Prelude.{is_some}
use Rattle.std.specs.Bool.{Decides}
use Rattle.std.specs.List.{filter, flat_map, list_any, range_with_len}
use Rattle.std.specs.declared.cmp.Ordering.TheVariants.{Less, Equal}
use Rattle.std.specs.Ordering.{eq_by_cmp, is_lt, nat_cmp, ordering_then}
use Rattle.std.specs.Cmp.{nat_cmp_is}
use Rattle.std.specs.FinMap.Entries.{below_all}
use Rattle.std.proofs.lemmas.Bool.Decides.{Decides-and, Decides-like, Decides-ltb, same_from_decides}
use Rattle.std.proofs.lemmas.List.Folds.{list_any-append}
use Rattle.cells.specs.Cells.{Cells, has}
use Rattle.cells.specs.declared.cell.Cell.{Cell}
use Rattle.maps.specs.Maps.{Grid}
use Rattle.views.specs.Keys.{Letter, cell_cmp, cell_of}
use Rattle.views.specs.Order.{keyed, in_order}
use Rattle.views.specs.Views.{letter_at, is_on_map}
use Rattle.views.proofs.InOrder.{both}
use Rattle.views.proofs.Orders.{cell_tied}
use Rattle.player_view.specs.View.{lettered, letters_in}
use Rattle.player_view.proofs.Tells.{SomeFrom, from_tells, itself_tells}

-- ---- lists

pub any_kept : {X Y : Type 0} (p : Y → Bool) (f : X → Y) (t : X → Bool) (xs : List X) → list_any p (map f (filter t xs)) ≡ list_any (λ x. t x && p (f x)) xs
any_kept p f t [] = refl
any_kept {X} p f t (x ∷ xs) = here (t x) (any_kept p f t xs)
  where
    here : (b : Bool) → list_any p (map f (filter t xs)) ≡ list_any (λ x. t x && p (f x)) xs
        → list_any p (map f (cond b (x ∷ filter t xs) (filter t xs))) ≡ ((b && p (f x)) || list_any (λ x. t x && p (f x)) xs)
    here true i = ap (λ b. p (f x) || b) i
    here false i = i

any_flat : {X Y : Type 0} (p : Y → Bool) (f : X → List Y) (xs : List X) → list_any p (flat_map f xs) ≡ list_any (λ x. list_any p (f x)) xs
any_flat p f [] = refl
any_flat p f (x ∷ xs) = list_any-append p (f x) (flat_map f xs) ∙ ap (λ b. list_any p (f x) || b) (any_flat p f xs)

any_like : {X : Type 0} (p q : X → Bool) → ((x : X) → p x ≡ q x) → (xs : List X) → list_any p xs ≡ list_any q xs
any_like p q h [] = refl
any_like p q h (x ∷ xs) = λ i. h x i || any_like p q h xs i

-- ---- the order of cells

lower : (a b : ℕ) → a < b → nat_cmp a b ≡ Less
lower a b h = sym (nat_cmp_is a b Less h)

same_row : (a : ℕ) → nat_cmp a a ≡ Equal
same_row a = sym (nat_cmp_is a a Equal refl)

higher_row : (c d : Cell) → c.y < d.y → is_lt (cell_cmp c d) ≡ true
higher_row c d h = ap (λ r. is_lt (ordering_then r (nat_cmp c.x d.x))) (lower c.y d.y h)

later_column : (c d : Cell) → c.y ≡ d.y → c.x < d.x → is_lt (cell_cmp c d) ≡ true
later_column c d e h =
    ap (λ y. is_lt (ordering_then (nat_cmp c.y y) (nat_cmp c.x d.x))) (sym e)
    ∙ ap (λ r. is_lt (ordering_then r (nat_cmp c.x d.x))) (same_row c.y) ∙ ap is_lt (lower c.x d.x h)

module _ (m : Grid) (cells : Cells) where
  -- the letters of some columns of a row, and those of some rows
  abbrev row_from : ℕ → ℕ → ℕ → List Letter
  row_from y a n = map (lettered m y) (filter (λ x. has cells x y) (range_with_len a n))

  abbrev rows_from : ℕ → ℕ → List Letter
  rows_from a n = flat_map (λ y. row_from y 0 m.walls.extent.w) (range_with_len a n)

  abbrev is_below : Cell → List Letter → Bool
  is_below c letters = below_all cell_cmp c (keyed cell_cmp cell_of letters)

  under : (c : Cell) (y a n : ℕ) (rest : List Letter) → c.y < y → is_below c rest ≡ true → is_below c (row_from y a n ++ rest) ≡ true
  under c y a zero rest l h = h
  under c y a (suc n) rest l h = here (has cells a y) (under c y (a + 1) n rest l h)
    where
      here : (b : Bool) → is_below c (row_from y (a + 1) n ++ rest) ≡ true
          → is_below c (map (lettered m y) (cond b (a ∷ filter (λ x. has cells x y) (range_with_len (a + 1) n)) (filter (λ x. has cells x y) (range_with_len (a + 1) n))) ++ rest) ≡ true
      here true i = both _ _ (higher_row c (record { x = a; y = y }) l) i
      here false i = i

  behind : (c : Cell) (y a n : ℕ) (rest : List Letter) → c.y ≡ y → c.x < a → is_below c rest ≡ true → is_below c (row_from y a n ++ rest) ≡ true
  behind c y a zero rest e l h = h
  behind c y a (suc n) rest e l h = here (has cells a y) (behind c y (a + 1) n rest e (omega arith) h)
    where
      here : (b : Bool) → is_below c (row_from y (a + 1) n ++ rest) ≡ true
          → is_below c (map (lettered m y) (cond b (a ∷ filter (λ x. has cells x y) (range_with_len (a + 1) n)) (filter (λ x. has cells x y) (range_with_len (a + 1) n))) ++ rest) ≡ true
      here true i = both _ _ (later_column c (record { x = a; y = y }) e l) i
      here false i = i

  row_rises : (y a n : ℕ) (rest : List Letter) → in_order cell_cmp cell_of rest ≡ true → ((x : ℕ) → is_below (record { x = x; y = y }) rest ≡ true)
      → in_order cell_cmp cell_of (row_from y a n ++ rest) ≡ true
  row_rises y a zero rest h b = h
  row_rises y a (suc n) rest h b = here (has cells a y) (row_rises y (a + 1) n rest h b)
    where
      here : (t : Bool) → in_order cell_cmp cell_of (row_from y (a + 1) n ++ rest) ≡ true
          → in_order cell_cmp cell_of (map (lettered m y) (cond t (a ∷ filter (λ x. has cells x y) (range_with_len (a + 1) n)) (filter (λ x. has cells x y) (range_with_len (a + 1) n))) ++ rest) ≡ true
      here true i = both _ _ (behind (record { x = a; y = y }) y (a + 1) n rest refl (omega arith) (b a)) i
      here false i = i

  rows_under : (c : Cell) (a n : ℕ) → c.y < a → is_below c (rows_from a n) ≡ true
  rows_under c a zero l = refl
  rows_under c a (suc n) l = under c a 0 m.walls.extent.w (rows_from (a + 1) n) l (rows_under c (a + 1) n (omega arith))

  rows_rise : (a n : ℕ) → in_order cell_cmp cell_of (rows_from a n) ≡ true
  rows_rise a zero = refl
  rows_rise a (suc n) =
      row_rises a 0 m.walls.extent.w (rows_from (a + 1) n) (rows_rise (a + 1) n)
      (λ x. rows_under (record { x = x; y = a }) (a + 1) n (omega arith))

  pub letters_rise : in_order cell_cmp cell_of (letters_in m cells) ≡ true
  unfolding letters_in
  letters_rise = rows_rise 0 m.walls.extent.h

  -- ---- which cells have one

  found_any : (q : Cell) (letters : List Letter) → is_some (letter_at q letters) ≡ list_any (λ letter. eq_by_cmp cell_cmp q letter.0) letters
  found_any q [] = refl
  found_any q (letter ∷ letters) = here (eq_by_cmp cell_cmp q letter.0) (found_any q letters)
    where
      here : (b : Bool) → is_some (letter_at q letters) ≡ list_any (λ letter. eq_by_cmp cell_cmp q letter.0) letters
          → is_some (cond b (Some letter) (letter_at q letters)) ≡ (b || list_any (λ letter. eq_by_cmp cell_cmp q letter.0) letters)
      here true i = refl
      here false i = i

  abbrev is_cell : Cell → ℕ → ℕ → Bool
  is_cell q x y = has cells x y && eq_by_cmp cell_cmp q (record { x = x; y = y })

  by_rows : (q : Cell) → is_some (letter_at q (letters_in m cells)) ≡ list_any (λ y. list_any (λ x. is_cell q x y) (range_with_len 0 m.walls.extent.w)) (range_with_len 0 m.walls.extent.h)
  unfolding letters_in
  by_rows q =
      found_any q (rows_from 0 m.walls.extent.h)
      ∙ any_flat (λ letter. eq_by_cmp cell_cmp q letter.0) (λ y. row_from y 0 m.walls.extent.w) (range_with_len 0 m.walls.extent.h)
      ∙ any_like _ _ (λ y. any_kept (λ letter. eq_by_cmp cell_cmp q letter.0) (lettered m y) (λ x. has cells x y) (range_with_len 0 m.walls.extent.w)) (range_with_len 0 m.walls.extent.h)

  abbrev OnMap : Cell → Type 0
  OnMap q = ((q.x < m.walls.extent.w) × (q.y < m.walls.extent.h)) × (has cells q.x q.y ≡ true)

  abbrev InRows : Cell → Type 0
  InRows q = SomeFrom 0 m.walls.extent.h (λ y. SomeFrom 0 m.walls.extent.w (λ x. (has cells x y ≡ true) × (q ≡ record { x = x; y = y })))

  rows_tell : (q : Cell) → Decides (is_some (letter_at q (letters_in m cells))) (OnMap q)
  rows_tell q =
      subst (λ b. Decides b (OnMap q)) (sym (by_rows q))
      (Decides-like _ from to
      (from_tells (λ y. list_any (λ x. is_cell q x y) (range_with_len 0 m.walls.extent.w)) (λ y. SomeFrom 0 m.walls.extent.w (λ x. (has cells x y ≡ true) × (q ≡ record { x = x; y = y })))
      (λ y. from_tells (λ x. is_cell q x y) (λ x. (has cells x y ≡ true) × (q ≡ record { x = x; y = y }))
      (λ x. Decides-and _ _ (itself_tells (has cells x y)) (cell_tied q (record { x = x; y = y }))) 0 m.walls.extent.w) 0 m.walls.extent.h))
    where
      from : InRows q → OnMap q
      from r =
          let y : ℕ = r.at in
          let x : ℕ = r.holds.at in
          let is : q ≡ record { x = x; y = y } = r.holds.holds.1 in
          subst OnMap (sym is) ((omega (arith, r.holds.high), omega (arith, r.high)), r.holds.holds.0)

      to : OnMap q → InRows q
      to h = record {
        at = q.y;
        low = omega arith;
        high = omega (arith, h.0.1);
        holds = record { at = q.x; low = omega arith; high = omega (arith, h.0.0); holds = (h.1, refl) };
      }

  pub letters_there : (q : Cell) → is_some (letter_at q (letters_in m cells)) ≡ (is_on_map m.walls.extent q && has cells q.x q.y)
  letters_there q =
      same_from_decides _ _ (rows_tell q)
      (Decides-and _ _ (Decides-and _ _ (Decides-ltb q.x m.walls.extent.w) (Decides-ltb q.y m.walls.extent.h)) (itself_tells (has cells q.x q.y)))
