-- What is exposed was written and is read.
use Rattle.std.proofs.Common.{◌≡◌, ℕ, zero, suc, ◌+◌, ◌≤◌, ◌<◌, List, [], ◌∷◌, ◌++◌, map, Some, None, Ok, refl, sym, ap, ◌∙◌, arith, true, false, Bool, ◌&&◌, cond, subst}
use Rattle.std.specs.Prelude.{codes, nat_lt, nat_eq, option_map, find}
use Rattle.std.specs.List.{AllByRecursion, filter, range_with_len}
use Rattle.std.specs.Str.{bytes_eq}
use Rattle.std.proofs.lemmas.Bool.Decides.{nat_tests}
use Rattle.std.proofs.lemmas.List.FromFn.{map-range_with_len_more}
use Rattle.names.specs.Tag.{is_tag}
use Rattle.cells.specs.Cells.{Cells, IsSize, IsToldByCells, cells_where}
use Rattle.cells.specs.Runs.{runs_of}
use Rattle.cells.specs.declared.cell.Run.{Run}
use Rattle.fog_book.specs.Exposures.{blank_sets, changed_at, is_of, cells_at}
use Rattle.fog_book.specs.declared.exposure.Exposure.{Exposure}
use Rattle.maps.specs.Maps.{Grid, map_of}
use Rattle.maps.proofs.NameLemmas.{same_name}
use Rattle.serde_json.specs.Data.{Data}
use Rattle.serde_json.specs.Find.{get}
use Rattle.serde_json.specs.View.{items_of}
use Rattle.json_fields.specs.Objects.{◌>>=◌}
use Rattle.world.specs.Scene.{Scene}
use Rattle.world.specs.Rules.{size_of}
use Rattle.campaign_json.specs.Reading.{under, each, each_member, escaped}
use Rattle.campaign_json.specs.Kinds as kinds
use Rattle.campaign_writing.specs.Trees.{named}
use Rattle.campaign_writing.proofs.Laid.{set_on, sets_on, laid}
use Rattle.campaign_writing.specs.Scenes.{runs_tree, run_tree, some_runs}
use Rattle.campaign_scene.specs.Fog as read
use Rattle.campaign_writing.proofs.Types.{tag_is}
use Rattle.campaign_writing.proofs.Parts.{field_reads}
use Rattle.campaign_writing.proofs.Orders.{between}
use Rattle.campaign_writing.proofs.Letters.{IsNew}
use Rattle.campaign_writing.proofs.Runs.{with_runs, runs_back, runs_read}

append_nil : {A : Type 0} (xs : List A) → xs ++ [] ≡ xs
append_nil [] = refl
append_nil (x ∷ xs) = ap (λ l. x ∷ l) (append_nil xs)

assoc : {A : Type 0} (a b c : List A) → (a ++ b) ++ c ≡ a ++ (b ++ c)
assoc [] b c = refl
assoc (x ∷ a) b c = ap (λ l. x ∷ l) (assoc a b c)

laid_append : (players : ℕ) (cells : ℕ → Grid → Cells) (a b : List Grid) → laid players cells (a ++ b) ≡ laid players cells a ++ laid players cells b
laid_append players cells [] b = refl
laid_append players cells (m ∷ a) b = ap (λ l. sets_on players cells m ++ l) (laid_append players cells a b) ∙ sym (assoc (sets_on players cells m) (laid players cells a) (laid players cells b))

-- ---- the sets of other maps

other_map : (seat : ℕ) (name : List ℕ) (e : Exposure) → bytes_eq e.map name ≡ false → is_of seat name e ≡ false
other_map seat name e h = rw h (by (nat_eq e.seat seat))
  where
    by : (b : Bool) → (b && false) ≡ false
    by true = refl
    by false = refl

row_other : (cells : ℕ → Grid → Cells) (m : Grid) (seat : ℕ) (name : List ℕ) → bytes_eq m.name name ≡ false → (k n : ℕ) → AllByRecursion (λ e. is_of seat name e ≡ false) (map (set_on cells m) (range_with_len k n))
row_other cells m seat name h k zero = tt
row_other cells m seat name h k (suc n) = (other_map seat name (set_on cells m k) h, row_other cells m seat name h (k + 1) n)

all_append : (P : Exposure → Type 0) (a b : List Exposure) → AllByRecursion P a → AllByRecursion P b → AllByRecursion P (a ++ b)
all_append P [] b h k = k
all_append P (x ∷ a) b h k = (h.0, all_append P a b h.1 k)

others : (players : ℕ) (cells : ℕ → Grid → Cells) (seat : ℕ) (name : List ℕ) (maps : List Grid) → IsNew name maps → AllByRecursion (λ e. is_of seat name e ≡ false) (laid players cells maps)
others players cells seat name [] h = tt
others players cells seat name (m ∷ maps) h = all_append _ (sets_on players cells m) (laid players cells maps) (row_other cells m seat name h.0 1 players) (others players cells seat name maps h.1)

-- ---- the set of a seat on a map

passed : (test : Exposure → Bool) (f : Cells → Cells) (a b : List Exposure) → AllByRecursion (λ e. test e ≡ false) a → changed_at test f (a ++ b) ≡ a ++ changed_at test f b
passed test f [] b h = refl
passed test f (x ∷ a) b h = rw h.0 (ap (λ l. x ∷ l) (passed test f a b h.1))

is_its : (cells : ℕ → Grid → Cells) (m : Grid) (seat k : ℕ) → is_of seat m.name (set_on cells m k) ≡ nat_eq k seat
is_its cells m seat k = rw (same_name m.name) (by (nat_eq k seat))
  where
    by : (b : Bool) → (b && true) ≡ b
    by true = refl
    by false = refl

-- the cells of one seat become others
module _ (cells next : ℕ → Grid → Cells) (m : Grid) (seat : ℕ) (f : Cells → Cells) (here : f (cells seat m) ≡ next seat m) (there : (k : ℕ) → nat_eq k seat ≡ false → cells k m ≡ next k m) where
  rest_same : (k n : ℕ) → seat < k → map (set_on cells m) (range_with_len k n) ≡ map (set_on next m) (range_with_len k n)
  rest_same k zero lt = refl
  rest_same k (suc n) lt = λ i. record { seat = k; map = m.name; cells = there k (not_it k lt) i } ∷ rest_same (k + 1) n (omega (arith, lt)) i
    where
      not_it : (k : ℕ) → seat < k → nat_eq k seat ≡ false
      not_it k lt = grind (arith, nat_tests)

  row_changed : (k n : ℕ) (rest : List Exposure) → k ≤ seat → seat < k + n → changed_at (is_of seat m.name) f (map (set_on cells m) (range_with_len k n) ++ rest) ≡ map (set_on next m) (range_with_len k n) ++ rest
  row_changed k zero rest low high = absurd (omega (arith, low, high))
  row_changed k (suc n) rest low high = by (nat_eq k seat) refl (λ more. row_changed (k + 1) n rest more (omega (arith, high)))
    where
      is_it : (k : ℕ) → nat_eq k seat ≡ true → k ≡ seat
      is_it k e = grind (arith, nat_tests)

      later : (k : ℕ) → nat_eq k seat ≡ false → k ≤ seat → k + 1 ≤ seat
      later k e low = grind (arith, nat_tests)

      by : (b : Bool) → nat_eq k seat ≡ b → (k + 1 ≤ seat → changed_at (is_of seat m.name) f (map (set_on cells m) (range_with_len (k + 1) n) ++ rest) ≡ map (set_on next m) (range_with_len (k + 1) n) ++ rest)
          → changed_at (is_of seat m.name) f (set_on cells m k ∷ (map (set_on cells m) (range_with_len (k + 1) n) ++ rest)) ≡ set_on next m k ∷ (map (set_on next m) (range_with_len (k + 1) n) ++ rest)
      by true e more =
          let at = is_it k e in
          ap (λ b. cond b (record { seat = k; map = m.name; cells = f (cells k m) } ∷ (map (set_on cells m) (range_with_len (k + 1) n) ++ rest)) (set_on cells m k ∷ changed_at (is_of seat m.name) f (map (set_on cells m) (range_with_len (k + 1) n) ++ rest))) (is_its cells m seat k ∙ e)
          ∙ (λ i. record { seat = k; map = m.name; cells = (ap (λ j. f (cells j m)) at ∙ here ∙ ap (λ j. next j m) (sym at)) i } ∷ (rest_same (k + 1) n (omega (arith, at)) i ++ rest))
      by false e more =
          ap (λ b. cond b (record { seat = k; map = m.name; cells = f (cells k m) } ∷ (map (set_on cells m) (range_with_len (k + 1) n) ++ rest)) (set_on cells m k ∷ changed_at (is_of seat m.name) f (map (set_on cells m) (range_with_len (k + 1) n) ++ rest))) (is_its cells m seat k ∙ e)
          ∙ (λ i. record { seat = k; map = m.name; cells = there k e i } ∷ more (later k e low) i)

-- a change that changes nothing
unchanged : (test : Exposure → Bool) (sets : List Exposure) → changed_at test (λ c. c) sets ≡ sets
unchanged test [] = refl
unchanged test (set ∷ sets) = by (test set) (unchanged test sets)
  where
    by : (b : Bool) → changed_at test (λ c. c) sets ≡ sets → cond b (set ∷ sets) (set ∷ changed_at test (λ c. c) sets) ≡ set ∷ sets
    by true rest = refl
    by false rest = ap (λ l. set ∷ l) rest

-- ---- what a player's object says

pub map_there : (done left : List Grid) (m : Grid) → IsNew m.name done → map_of m.name (done ++ m ∷ left) ≡ Some m
map_there [] left m new = rw (same_name m.name) refl
map_there (y ∷ done) left m new = rw new.0 (map_there done left m new.1)

pub append_one : (done : List Grid) (x : Grid) (left : List Grid) → (done ++ x ∷ []) ++ left ≡ done ++ x ∷ left
append_one done x left = assoc done (x ∷ []) left

module _ (s : Scene) (players k : ℕ) (low : 1 ≤ k) (high : k ≤ players) (cells : ℕ → Grid → Cells) (sized : (seat : ℕ) (m : Grid) → let c : Cells = cells seat m in c.extent ≡ m.walls.extent) (told : (seat : ℕ) (m : Grid) → IsToldByCells (cells seat m))
    (distinct : (done : List Grid) (x : Grid) (left : List Grid) → done ++ x ∷ left ≡ s.maps → IsNew x.name done) (tags : AllByRecursion (λ m. (is_tag m.name ≡ true) × IsSize m.walls.extent) s.maps) where
  -- the sets of the seats below a number, and no cells for the others
  abbrev pub shown : ℕ → ℕ → Grid → Cells
  shown n seat m = cond (nat_lt seat n) (cells seat m) (cells_where m.walls.extent (λ x y. false))

  abbrev mixed : List Grid → List Grid → List Exposure
  mixed done left = laid players (shown (k + 1)) done ++ laid players (shown k) left

  abbrev now : List Grid → List Grid → Scene
  now done left = record s { fog = record { players = players; sets = mixed done left } }

  one_changed : (done : List Grid) (x : Grid) (left : List Grid) → IsNew x.name done → changed_at (is_of k x.name) (with_runs (runs_of (cells k x))) (mixed done (x ∷ left)) ≡ mixed (done ++ x ∷ []) left
  one_changed done x left new =
      passed (is_of k x.name) (with_runs (runs_of (cells k x))) (laid players (shown (k + 1)) done) (laid players (shown k) (x ∷ left)) (others players (shown (k + 1)) k x.name done new)
      ∙ ap (λ l. laid players (shown (k + 1)) done ++ l)
      (row_changed (shown k) (shown (k + 1)) x k (with_runs (runs_of (cells k x))) its_cells other_cells 1 players (laid players (shown k) left) low (omega (arith, high)))
      ∙ sym (assoc (laid players (shown (k + 1)) done) (sets_on players (shown (k + 1)) x) (laid players (shown k) left))
      ∙ ap (λ l. l ++ laid players (shown k) left) (ap (λ l. laid players (shown (k + 1)) done ++ l) (sym (append_nil (sets_on players (shown (k + 1)) x))) ∙ sym (laid_append players (shown (k + 1)) done (x ∷ [])))
    where
      not_below : nat_lt k k ≡ false
      not_below = grind (arith, nat_tests)

      below_next : nat_lt k (k + 1) ≡ true
      below_next = grind (arith, nat_tests)

      its_cells : with_runs (runs_of (cells k x)) (shown k k x) ≡ shown (k + 1) k x
      its_cells =
          ap (λ b. with_runs (runs_of (cells k x)) (cond b (cells k x) (cells_where x.walls.extent (λ u v. false)))) not_below
          ∙ ap (λ e. with_runs (runs_of (cells k x)) (cells_where e (λ u v. false))) (sym (sized k x))
          ∙ runs_back (cells k x) (told k x)
          ∙ sym (ap (λ b. cond b (cells k x) (cells_where x.walls.extent (λ u v. false))) below_next)

      same_below : (j : ℕ) → nat_eq j k ≡ false → nat_lt j k ≡ nat_lt j (k + 1)
      same_below j e = grind (arith, nat_tests)

      other_cells : (j : ℕ) → nat_eq j k ≡ false → shown k j x ≡ shown (k + 1) j x
      other_cells j e = ap (λ b. cond b (cells j x) (cells_where x.walls.extent (λ u v. false))) (same_below j e)

  size_there : (done : List Grid) (x : Grid) (left : List Grid) → done ++ x ∷ left ≡ s.maps → size_of x.name s.maps ≡ Some x.walls.extent
  size_there done x left e = ap (λ maps. size_of x.name maps) (sym e) ∙ ap (option_map (λ (m : Grid). m.walls.extent)) (map_there done left x (distinct done x left e))

  one_read : (done : List Grid) (x : Grid) (left : List Grid) → done ++ x ∷ left ≡ s.maps → read.fog_of_map k x.name (now done (x ∷ left)) (runs_tree (runs_of (cells k x))) ≡ Ok (now (done ++ x ∷ []) left)
  unfolding read.fog_of_map
  one_read done x left e =
      let is = between (λ (m : Grid). (is_tag m.name ≡ true) × IsSize m.walls.extent) done x left s.maps e tags in
      rw (tag_is x.name is.0, size_there done x left e)
      (ap (λ sets. each (λ place. read.run k x.name) 0 (record s { fog = record { players = players; sets = sets } }) (items_of (map run_tree (runs_of (cells k x))))) (sym (unchanged (is_of k x.name) (mixed done (x ∷ left))))
      ∙ runs_read k x.name (now done (x ∷ left)) (cells k x) (subst IsSize (sym (sized k x)) is.1) (size_there done x left e ∙ ap Some (sym (sized k x)))
      ∙ ap (λ sets. Ok (record s { fog = record { players = players; sets = sets } })) (one_changed done x left (distinct done x left e)))

  abbrev pub entry_of : Grid → List ℕ × List Run
  entry_of m = (m.name, runs_of (cells k m))

  none_changed : (done : List Grid) (x : Grid) (left : List Grid) → done ++ x ∷ left ≡ s.maps → runs_of (cells k x) ≡ [] → now done (x ∷ left) ≡ now (done ++ x ∷ []) left
  none_changed done x left e none =
      ap (λ sets. record s { fog = record { players = players; sets = sets } })
      (sym (unchanged (is_of k x.name) (mixed done (x ∷ left))) ∙ ap (λ runs. changed_at (is_of k x.name) (with_runs runs) (mixed done (x ∷ left))) (sym none) ∙ one_changed done x left (distinct done x left e))

  members_from : (done left : List Grid) → done ++ left ≡ s.maps → each_member (read.fog_of_map k) (now done left) (named runs_tree (filter some_runs (map entry_of left))) ≡ Ok (now s.maps [])
  members_from done [] e = ap (λ maps. Ok (now maps [])) (sym (append_nil done) ∙ e)
  members_from done (x ∷ left) e = by (runs_of (cells k x)) refl (members_from (done ++ x ∷ []) left (append_one done x left ∙ e))
    where
      by : (runs : List Run) → runs_of (cells k x) ≡ runs → each_member (read.fog_of_map k) (now (done ++ x ∷ []) left) (named runs_tree (filter some_runs (map entry_of left))) ≡ Ok (now s.maps [])
          → each_member (read.fog_of_map k) (now done (x ∷ left)) (named runs_tree (cond (some_runs (x.name, runs)) ((x.name, runs) ∷ filter some_runs (map entry_of left)) (filter some_runs (map entry_of left)))) ≡ Ok (now s.maps [])
      by [] none rest = ap (λ scene. each_member (read.fog_of_map k) scene (named runs_tree (filter some_runs (map entry_of left)))) (none_changed done x left e none) ∙ rest
      by (run ∷ runs) is rest =
          ap (λ r. under (escaped x.name) r >>= λ next. each_member (read.fog_of_map k) next (named runs_tree (filter some_runs (map entry_of left))))
          (ap (λ l. read.fog_of_map k x.name (now done (x ∷ left)) (runs_tree l)) (sym is) ∙ one_read done x left e)
          ∙ rest

  -- a player's object adds what is exposed to it
  pub player_reads : (d : Data) → get (codes "fog") d ≡ Some (Data.object (named runs_tree (filter some_runs (map entry_of s.maps))))
      → read.fog_of_player k (record s { fog = record { players = players; sets = laid players (shown k) s.maps } }) d ≡ Ok (record s { fog = record { players = players; sets = laid players (shown (k + 1)) s.maps } })
  unfolding read.fog_of_player
  player_reads d at =
      rw (field_reads (codes "fog") kinds.entries d (Data.object (named runs_tree (filter some_runs (map entry_of s.maps)))) (named runs_tree (filter some_runs (map entry_of s.maps))) at refl)
      (ap (under (codes "fog")) (members_from [] s.maps refl ∙ ap (λ sets. Ok (record s { fog = record { players = players; sets = sets } })) (append_nil (laid players (shown (k + 1)) s.maps))))

-- ---- what is written of a scene whose sets lie so

not_found : (test : Exposure → Bool) (a b : List Exposure) → AllByRecursion (λ e. test e ≡ false) a → find test (a ++ b) ≡ find test b
not_found test [] b h = refl
not_found test (x ∷ a) b h = rw h.0 (not_found test a b h.1)

row_found : (cells : ℕ → Grid → Cells) (m : Grid) (seat k n : ℕ) (rest : List Exposure) → k ≤ seat → seat < k + n → find (is_of seat m.name) (map (set_on cells m) (range_with_len k n) ++ rest) ≡ Some (set_on cells m seat)
row_found cells m seat k zero rest low high = absurd (omega (arith, low, high))
row_found cells m seat k (suc n) rest low high = by (nat_eq k seat) refl (λ more. row_found cells m seat (k + 1) n rest more (omega (arith, high)))
  where
    is_it : (k : ℕ) → nat_eq k seat ≡ true → k ≡ seat
    is_it k e = grind (arith, nat_tests)

    later : (k : ℕ) → nat_eq k seat ≡ false → k ≤ seat → k + 1 ≤ seat
    later k e low = grind (arith, nat_tests)

    by : (b : Bool) → nat_eq k seat ≡ b → (k + 1 ≤ seat → find (is_of seat m.name) (map (set_on cells m) (range_with_len (k + 1) n) ++ rest) ≡ Some (set_on cells m seat))
        → find (is_of seat m.name) (set_on cells m k ∷ (map (set_on cells m) (range_with_len (k + 1) n) ++ rest)) ≡ Some (set_on cells m seat)
    by true e more =
        ap (λ b. cond b (Some (set_on cells m k)) (find (is_of seat m.name) (map (set_on cells m) (range_with_len (k + 1) n) ++ rest))) (is_its cells m seat k ∙ e) ∙ ap (λ j. Some (set_on cells m j)) (is_it k e)
    by false e more =
        ap (λ b. cond b (Some (set_on cells m k)) (find (is_of seat m.name) (map (set_on cells m) (range_with_len (k + 1) n) ++ rest))) (is_its cells m seat k ∙ e) ∙ more (later k e low)

-- the set of a player on a map
pub laid_found : (players : ℕ) (cells : ℕ → Grid → Cells) (seat : ℕ) (done : List Grid) (x : Grid) (left : List Grid) → 1 ≤ seat → seat ≤ players → IsNew x.name done → cells_at (laid players cells (done ++ x ∷ left)) seat x.name ≡ Some (cells seat x)
laid_found players cells seat done x left low high new =
    ap (option_map (λ (set : Exposure). set.cells))
    (ap (find (is_of seat x.name)) (laid_append players cells done (x ∷ left))
    ∙ not_found (is_of seat x.name) (laid players cells done) (laid players cells (x ∷ left)) (others players cells seat x.name done new)
    ∙ row_found cells x seat 1 players (laid players cells left) low (omega (arith, high)))

row_not_first : (cells : ℕ → Grid → Cells) (m : Grid) (name : List ℕ) (k n : ℕ) → 1 ≤ k → AllByRecursion (λ e. is_of 0 name e ≡ false) (map (set_on cells m) (range_with_len k n))
row_not_first cells m name k zero low = tt
row_not_first cells m name k (suc n) low = (rw (not_zero k low) refl, row_not_first cells m name (k + 1) n (omega arith))
  where
    not_zero : (k : ℕ) → 1 ≤ k → nat_eq k 0 ≡ false
    not_zero k low = grind (arith, nat_tests)

-- seat 0 has none
pub laid_none : (players : ℕ) (cells : ℕ → Grid → Cells) (name : List ℕ) (maps : List Grid) → cells_at (laid players cells maps) 0 name ≡ None
laid_none players cells name [] = refl
laid_none players cells name (m ∷ maps) =
    ap (option_map (λ (set : Exposure). set.cells)) (not_found (is_of 0 name) (sets_on players cells m) (laid players cells maps) (row_not_first cells m name 1 players (omega arith))) ∙ laid_none players cells name maps

-- a new map's sets lie so
pub blank_laid : (n : ℕ) (m : Grid) → blank_sets n m.name m.walls.extent ≡ sets_on n (λ seat x. cells_where x.walls.extent (λ u v. false)) m
blank_laid zero m = refl
blank_laid (suc n) m =
    let e : 1 + n ≡ suc n = omega arith in
    let next : n + 1 ≡ suc n = omega arith in
    ap (λ l. l ++ set_on (λ seat x. cells_where x.walls.extent (λ u v. false)) m (suc n) ∷ []) (blank_laid n m)
    ∙ sym (map-range_with_len_more (set_on (λ seat x. cells_where x.walls.extent (λ u v. false)) m) 1 n (suc n) e)
    ∙ ap (λ c. map (set_on (λ seat x. cells_where x.walls.extent (λ u v. false)) m) (range_with_len 1 c)) next
