-- The letters of a set's cells, run by run.
use Rattle.std.proofs.Common.{◌≡◌, ℕ, zero, suc, ◌+◌, ◌-◌, ◌≤◌, Bool, true, false, cond, not, ◌&&◌, List, [], ◌∷◌, ◌++◌, map, refl, sym, ◌∙◌, ap, arith, append_assoc}
use Rattle.std.specs.List.{filter, flat_map, range_with_len}
use Rattle.std.proofs.lemmas.Grind.{flat_map-append}
use Rattle.std.proofs.lemmas.List.{map-append}
use Rattle.cells.specs.Cells.{Extent, Cells, has}
use Rattle.cells.specs.Runs.{ones_from, runs_from, row_runs, runs_of}
use Rattle.cells.specs.declared.cell.Run.{Run}
use Rattle.cells.specs.declared.cell.Cell.{Cell}
use Rattle.maps.specs.Maps.{Grid, letter_at}
use Rattle.views.specs.Keys.{Letter}
use Rattle.player_view.specs.View.{lettered, letters_in, row_letters}
use Rattle.player_view.specs.Walk.{run_letters}
use Rattle.player_view.proofs.ListLemmas.{range_more}

-- the letters of a run up to column x, with that of x
column_next : (m : Grid) (y a x : ℕ) → a ≤ x
    → map (lettered m y) (range_with_len a (x + 1 - a)) ≡ map (lettered m y) (range_with_len a (x - a)) ++ lettered m y x ∷ []
column_next m y a x h =
    let more : x + 1 - a ≡ (x - a) + 1 = omega arith in
    let here : a + (x - a) ≡ x = omega arith in
    ap (λ n. map (lettered m y) (range_with_len a n)) more ∙ ap (map (lettered m y)) (range_more a (x - a))
    ∙ map-append (lettered m y) (range_with_len a (x - a)) ((a + (x - a)) ∷ [])
    ∙ ap (λ k. map (lettered m y) (range_with_len a (x - a)) ++ lettered m y k ∷ []) here

pub letter_more : (m : Grid) (run : Run) (x letter : ℕ) (before so_far now : List Letter) → run.x0 ≤ x → letter ≡ letter_at m x run.y
    → so_far ≡ before ++ map (lettered m run.y) (range_with_len run.x0 (x - run.x0))
    → now ≡ so_far ++ (record { x = x; y = run.y }, letter) ∷ []
    → now ≡ before ++ map (lettered m run.y) (range_with_len run.x0 (x + 1 - run.x0))
letter_more m run x letter before so_far now h is so_far_is now_is =
    let cell : Cell = record { x = x; y = run.y } in
    let columns : List Letter = map (lettered m run.y) (range_with_len run.x0 (x - run.x0)) in
    now_is ∙ ap (λ ls. ls ++ (cell, letter) ∷ []) so_far_is ∙ append_assoc before columns ((cell, letter) ∷ [])
    ∙ ap (λ l. before ++ (columns ++ (cell, l) ∷ [])) is ∙ ap (λ ls. before ++ ls) (sym (column_next m run.y run.x0 x h))

-- the letters so far, with those of one run more
pub run_more : (m : Grid) (run : Run) (left rest : List Run) (so_far now all : List Letter) → left ≡ run ∷ rest
    → now ≡ so_far ++ run_letters m run → so_far ++ flat_map (run_letters m) left ≡ all → now ++ flat_map (run_letters m) rest ≡ all
run_more m run left rest so_far now all is now_is so_far_is =
    ap (λ ls. ls ++ flat_map (run_letters m) rest) now_is ∙ append_assoc so_far (run_letters m run) (flat_map (run_letters m) rest)
    ∙ ap (λ runs. so_far ++ flat_map (run_letters m) runs) (sym is) ∙ so_far_is

module _ (m : Grid) where
  -- the letters of the runs, and those of the n columns from x on at which f holds
  abbrev of_runs : List Run → List Letter
  of_runs runs = flat_map (run_letters m) runs

  abbrev of_columns : (ℕ → Bool) → ℕ → ℕ → ℕ → List Letter
  of_columns f y x n = map (lettered m y) (filter f (range_with_len x n))

  -- the run that begins at column x, before n more
  abbrev run_at : (ℕ → Bool) → ℕ → ℕ → ℕ → Run
  run_at f y x n = record { y = y; x0 = x; x1 = x + ones_from f (x + 1) n }

  -- the runs that begin in a row have its letters, behind those of a run that goes on at its start
  by_columns : (f : ℕ → Bool) (y x n : ℕ)
      → (of_runs (runs_from f y false x n) ≡ of_columns f y x n)
      × (map (lettered m y) (range_with_len x (ones_from f x n)) ++ of_runs (runs_from f y true x n) ≡ of_columns f y x n)
  by_columns f y x zero = (refl, refl)
  by_columns f y x (suc n) = here (f x) (by_columns f y (x + 1) n)
    where
      here : (b : Bool)
          → (of_runs (runs_from f y false (x + 1) n) ≡ of_columns f y (x + 1) n)
          × (map (lettered m y) (range_with_len (x + 1) (ones_from f (x + 1) n)) ++ of_runs (runs_from f y true (x + 1) n) ≡ of_columns f y (x + 1) n)
          → (of_runs
          (cond (b && not false) (run_at f y x n ∷ runs_from f y b (x + 1) n) (runs_from f y b (x + 1) n))
          ≡ map (lettered m y) (cond b (x ∷ filter f (range_with_len (x + 1) n)) (filter f (range_with_len (x + 1) n))))
          × (map (lettered m y) (range_with_len x (cond b (suc (ones_from f (x + 1) n)) 0))
          ++ of_runs
          (cond (b && not true) (run_at f y x n ∷ runs_from f y b (x + 1) n) (runs_from f y b (x + 1) n))
          ≡ map (lettered m y) (cond b (x ∷ filter f (range_with_len (x + 1) n)) (filter f (range_with_len (x + 1) n))))
      here true i =
          let columns : x + ones_from f (x + 1) n + 1 - x ≡ suc (ones_from f (x + 1) n) = omega arith in (
            ap (λ c. map (lettered m y) (range_with_len x c) ++ of_runs (runs_from f y true (x + 1) n)) columns ∙ ap (λ ls. lettered m y x ∷ ls) i.1,
            ap (λ ls. lettered m y x ∷ ls) i.1,
          )
      here false i = (i.0, i.0)

  by_rows : (s : Cells) (ys : List ℕ) → of_runs (flat_map (row_runs s) ys) ≡ flat_map (λ y. row_letters m s y s.extent.w) ys
  by_rows s [] = refl
  by_rows s (y ∷ ys) =
      flat_map-append (run_letters m) (row_runs s y) (flat_map (row_runs s) ys)
      ∙ (λ i. (by_columns (λ x. has s x y) y 0 s.extent.w).0 i ++ by_rows s ys i)

  pub by_runs : (s : Cells) → s.extent ≡ m.walls.extent → flat_map (run_letters m) (runs_of s) ≡ letters_in m s
  unfolding letters_in
  by_runs s e =
      let height : s.extent.h - 0 ≡ s.extent.h = omega arith in
      by_rows s (range_with_len 0 (s.extent.h - 0))
      ∙ ap (λ h. flat_map (λ y. row_letters m s y s.extent.w) (range_with_len 0 h)) height
      ∙ ap (λ (map : Extent). flat_map (λ y. row_letters m s y map.w) (range_with_len 0 map.h)) e
