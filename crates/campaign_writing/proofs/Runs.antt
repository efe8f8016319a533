-- Runs that were written are read: the cells of the maximal runs of a set are the set.
use Rattle.std.proofs.Common.{◌≡◌, ℕ, ◌+◌, ◌-◌, ◌≤◌, ◌<◌, List, [], ◌∷◌, ◌++◌, map, Some, Ok, refl, sym, ap, ◌∙◌, arith, true, false, Bool, ◌&&◌, ◌||◌, cond, nat_le, subst}
use Rattle.std.specs.Prelude.{pos}
use Rattle.std.specs.List.{AllByRecursion, list_any}
use Rattle.std.proofs.lemmas.Bool.Decides.{nat_tests}
use Rattle.std.proofs.lemmas.List.Folds.{list_any-from_Any}
use Rattle.std.proofs.lemmas.List.Elements.{recursion_from_All}
use Rattle.cells.specs.Cells.{Extent, Cells, IsSize, has, cells_where, IsToldByCells}
use Rattle.cells.specs.Runs.{runs_of, IsMaximalRun, IsOfRun}
use Rattle.cells.specs.declared.cell.Run.{Run}
use Rattle.cells.specs.declared.cell.Rect.{Rect}
use Rattle.cells.proofs.SetLaws.{cells_where_same, has-cells_where}
use Rattle.cells.proofs.MaximalLemmas.{runs_of-maximal}
use Rattle.cells.specs.Rects.{is_in}
use Rattle.fog_book.specs.Rects.{with_rect}
use Rattle.fog_book.specs.Exposures.{with_change, changed_at, is_of}
use Rattle.fog_book.specs.declared.exposure.Exposure.{Exposure}
use Rattle.serde_json.specs.View.{items_of}
use Rattle.json_fields.specs.Kinds.{within}
use Rattle.world.specs.Rules.{size_of}
use Rattle.world.specs.Scene.{Scene}
use Rattle.campaign_json.specs.Reading.{each}
use Rattle.campaign_json.specs.Kinds as kinds
use Rattle.campaign_writing.specs.Trees.{whole}
use Rattle.campaign_writing.specs.Scenes.{run_tree}
use Rattle.campaign_scene.specs.Fog as read
use Rattle.campaign_writing.proofs.Parts.{item_reads, each_reads, integer_reads}
use Rattle.campaign_writing.proofs.Orders.{between}

abbrev pub rect_of : Run → Rect
rect_of run = record { x = run.x0; y = run.y; w = run.x1 + 1 - run.x0; h = 1 }

-- the cell is in one of the runs
abbrev pub is_in_one : List Run → ℕ → ℕ → Bool
is_in_one runs x y = list_any (λ run. is_in (rect_of run) x y) runs

-- the set with the cells of the runs
abbrev pub with_runs : List Run → Cells → Cells
with_runs [] cells = cells
with_runs (run ∷ runs) cells = with_runs runs (with_rect cells (rect_of run) true)

with_runs-last : (done : List Run) (run : Run) (cells : Cells) → with_runs (done ++ run ∷ []) cells ≡ with_rect (with_runs done cells) (rect_of run) true
with_runs-last [] run cells = refl
with_runs-last (other ∷ done) run cells = with_runs-last done run (with_rect cells (rect_of other) true)

-- the cells of runs beside those of which a test holds
with_runs-where : (e : Extent) (runs : List Run) (f : ℕ → ℕ → Bool) → with_runs runs (cells_where e f) ≡ cells_where e (λ x y. f x y || is_in_one runs x y)
with_runs-where e [] f = cells_where_same e f (λ x y. f x y || false) (λ x y _ _. right (f x y))
  where
    right : (b : Bool) → b ≡ (b || false)
    right true = refl
    right false = refl
with_runs-where e (run ∷ runs) f =
    ap (with_runs runs) (cells_where_same e (λ x y. cond (is_in (rect_of run) x y) true (has (cells_where e f) x y)) (λ x y. f x y || is_in (rect_of run) x y)
    (λ x y left above. ap (λ b. cond (is_in (rect_of run) x y) true b) (has-cells_where e f x y left above) ∙ or_is (is_in (rect_of run) x y) (f x y)))
    ∙ with_runs-where e runs (λ x y. f x y || is_in (rect_of run) x y)
    ∙ cells_where_same e _ _ (λ x y _ _. or_assoc (f x y) (is_in (rect_of run) x y) (is_in_one runs x y))
  where
    or_is : (a b : Bool) → cond a true b ≡ (b || a)
    or_is true true = refl
    or_is true false = refl
    or_is false true = refl
    or_is false false = refl

    or_assoc : (a b c : Bool) → ((a || b) || c) ≡ (a || (b || c))
    or_assoc true b c = refl
    or_assoc false b c = refl

-- a cell of a run is in its rectangle, and the other way round
of_run : (run : Run) (x y : ℕ) → IsOfRun x y run → is_in (rect_of run) x y ≡ true
of_run run x y h = grind (arith, nat_tests, h.0, h.1, h.2)

in_run : (run : Run) (x y : ℕ) → run.x0 ≤ run.x1 → is_in (rect_of run) x y ≡ true → (run.y ≡ y) × ((run.x0 ≤ x) × (x ≤ run.x1))
in_run run x y some h = (grind (arith, nat_tests), (grind (arith, nat_tests), grind (arith, nat_tests)))

module _ (s : Cells) where
  of_one : (x y : ℕ) (runs : List Run) → AllByRecursion (IsMaximalRun s) runs → is_in_one runs x y ≡ true → has s x y ≡ true
  of_one x y [] are h = absurd cc
  of_one x y (run ∷ runs) are h = by (is_in (rect_of run) x y) refl h (of_one x y runs are.1)
    where
      by : (b : Bool) → is_in (rect_of run) x y ≡ b → (b || is_in_one runs x y) ≡ true → (is_in_one runs x y ≡ true → has s x y ≡ true) → has s x y ≡ true
      by true e h rest = let is = in_run run x y are.0.some e in subst (λ v. has s x v ≡ true) is.0 (are.0.filled x is.1.0 is.1.1)
      by false e h rest = rest h

  same_test : (x y : ℕ) → x < s.extent.w → y < s.extent.h → is_in_one (runs_of s) x y ≡ has s x y
  same_test x y left above = by (has s x y) (is_in_one (runs_of s) x y) refl refl
    where
      by : (a b : Bool) → has s x y ≡ a → is_in_one (runs_of s) x y ≡ b → b ≡ a
      by true true e f = refl
      by false false e f = refl
      by true false e f = let yes : is_in_one (runs_of s) x y ≡ true = list_any-from_Any (λ run. is_in (rect_of run) x y) (runs_of s) (let any = (runs_of-maximal s).covering x y left above e in (any.0, any.1, any.2, any.3, of_run any.1 x y any.4)) in absurd cc
      by false true e f = let yes : has s x y ≡ true = of_one x y (runs_of s) (recursion_from_All (IsMaximalRun s) (runs_of s) (runs_of-maximal s).maximal) f in absurd cc

  -- the maximal runs of a set, put into no cells, are the set
  pub runs_back : IsToldByCells s → with_runs (runs_of s) (cells_where s.extent (λ x y. false)) ≡ s
  runs_back told =
      with_runs-where s.extent (runs_of s) (λ x y. false)
      ∙ cells_where_same s.extent (is_in_one (runs_of s)) (has s) same_test
      ∙ sym told

-- ---- a change after a change

changed_after : (seat : ℕ) (name : List ℕ) (f g : Cells → Cells) (sets : List Exposure) → changed_at (is_of seat name) f (changed_at (is_of seat name) g sets) ≡ changed_at (is_of seat name) (λ cells. f (g cells)) sets
changed_after seat name f g [] = refl
changed_after seat name f g (set ∷ sets) = by (is_of seat name set) refl (changed_after seat name f g sets)
  where
    by : (b : Bool) → is_of seat name set ≡ b → changed_at (is_of seat name) f (changed_at (is_of seat name) g sets) ≡ changed_at (is_of seat name) (λ cells. f (g cells)) sets
        → changed_at (is_of seat name) f (cond b (record { seat = set.seat; map = set.map; cells = g set.cells } ∷ sets) (set ∷ changed_at (is_of seat name) g sets))
        ≡ cond b (record { seat = set.seat; map = set.map; cells = f (g set.cells) } ∷ sets) (set ∷ changed_at (is_of seat name) (λ cells. f (g cells)) sets)
    by true e rest = rw e refl
    by false e rest = rw e (ap (λ l. set ∷ l) rest)

changed_alike : (test : Exposure → Bool) (f g : Cells → Cells) → ((cells : Cells) → f cells ≡ g cells) → (sets : List Exposure) → changed_at test f sets ≡ changed_at test g sets
changed_alike test f g same [] = refl
changed_alike test f g same (set ∷ sets) = λ i. cond (test set) (record { seat = set.seat; map = set.map; cells = same set.cells i } ∷ sets) (set ∷ changed_alike test f g same sets i)

within_map : (most n : ℕ) → n < most → within 0 (most - 1) (pos n) ≡ Some n
within_map most n lt = let fits : (nat_le 0 n && nat_le n (most - 1)) ≡ true = grind (arith, nat_tests) in rw fits refl

-- the scene with the cells of the runs exposed to the seat on a map
module _ (seat : ℕ) (name : List ℕ) (s : Scene) (cells : Cells) (sized : IsSize cells.extent) (there : size_of name s.maps ≡ Some cells.extent) where
  abbrev pub with_exposed : List Run → Scene
  with_exposed runs = record s { fog = with_change s.fog seat name (with_runs runs) }

  run_reads : (done : List Run) (x : Run) (left : List Run) → done ++ x ∷ left ≡ runs_of cells → read.run seat name (with_exposed done) (run_tree x) ≡ Ok (with_exposed (done ++ x ∷ []))
  unfolding read.run read.run_numbers read.exposed_at read.run_on
  run_reads done x left e =
      let is = between (IsMaximalRun cells) done x left (runs_of cells) e (recursion_from_All (IsMaximalRun cells) (runs_of cells) (runs_of-maximal cells).maximal) in
      let ordered : nat_le x.x0 x.x1 ≡ true = grind (arith, nat_tests, is.some) in
      let w = sized.w_high in
      let h = sized.h_high in
      rw (
        item_reads 0 kinds.integer (run_tree x) (whole x.y) (pos x.y) refl (integer_reads x.y (omega (arith, is.in_map, h))),
        item_reads 1 kinds.integer (run_tree x) (whole x.x0) (pos x.x0) refl (integer_reads x.x0 (omega (arith, is.in_row, is.some, w))),
        item_reads 2 kinds.integer (run_tree x) (whole x.x1) (pos x.x1) refl (integer_reads x.x1 (omega (arith, is.in_row, w))),
        there,
        within_map cells.extent.h x.y is.in_map,
        within_map cells.extent.w x.x0 (omega (arith, is.in_row, is.some)),
        within_map cells.extent.w x.x1 is.in_row,
        ordered,
      )
      (ap (λ sets. Ok (record s { fog = record { players = s.fog.players; sets = sets } }))
      (changed_after seat name (λ c. with_rect c (rect_of x) true) (with_runs done) s.fog.sets
      ∙ changed_alike (is_of seat name) (λ c. with_rect (with_runs done c) (rect_of x) true) (with_runs (done ++ x ∷ [])) (λ c. sym (with_runs-last done x c)) s.fog.sets))

  pub runs_read : each (λ place. read.run seat name) 0 (with_exposed []) (items_of (map run_tree (runs_of cells))) ≡ Ok (with_exposed (runs_of cells))
  runs_read = each_reads with_exposed (runs_of cells) (λ place. read.run seat name) run_tree run_reads
