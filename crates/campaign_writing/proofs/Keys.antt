-- Sets whose keys lie in the order of maps are the sets that are looked up there.
use Rattle.std.proofs.Common.{◌≡◌, ℕ, zero, suc, ◌+◌, ◌≤◌, List, [], ◌∷◌, ◌++◌, map, Some, refl, sym, ap, ◌∙◌, true, false, Bool, ◌&&◌, arith}
use Rattle.std.specs.Prelude.{unwrap_or, nat_eq}
use Rattle.std.specs.List.{AllByRecursion, flat_map, range_with_len}
use Rattle.std.specs.Str.{bytes_eq}
use Rattle.std.proofs.lemmas.Bool.Decides.{nat_tests}
use Rattle.cells.specs.Cells.{Cells, cells_where}
use Rattle.fog_book.specs.Exposures.{is_of, cells_at, key_of, keys_on}
use Rattle.fog_book.specs.declared.exposure.Exposure.{Exposure}
use Rattle.maps.specs.Maps.{Grid}
use Rattle.maps.proofs.NameLemmas.{same_name}
use Rattle.campaign_writing.proofs.Laid.{set_on, laid}

-- each map's name differs from those of all later ones
abbrev pub NamesDiffer : List Grid → Type 0
NamesDiffer [] = Unit {0}
NamesDiffer (m ∷ maps) = AllByRecursion (λ other. bytes_eq m.name other.name ≡ false) maps × NamesDiffer maps

-- what is found under a key among some sets; no cells, where nothing is
module _ (all : List Exposure) where
  abbrev pub looked : ℕ → Grid → Cells
  looked seat m = unwrap_or (cells_at all seat m.name) (cells_where m.walls.extent (λ x y. false))

  -- the sets before have other keys
  abbrev pub AreOthers : ℕ → List ℕ → List Exposure → Type 0
  AreOthers seat name done = AllByRecursion (λ e. is_of seat name e ≡ false) done

  found_after : (done : List Exposure) (e : Exposure) (left : List Exposure) (seat : ℕ) (name : List ℕ) → AreOthers seat name done → is_of seat name e ≡ true → cells_at (done ++ e ∷ left) seat name ≡ Some e.cells
  found_after [] e left seat name others is = rw is refl
  found_after (x ∷ done) e left seat name others is = rw others.0 (found_after done e left seat name others.1 is)

  is_its : (e : Exposure) (seat : ℕ) (name : List ℕ) → key_of e ≡ (let key : ℕ × List ℕ = (seat, name) in key) → is_of seat name e ≡ true
  is_its e seat name k = (λ i. is_of seat name (record { seat = (k i).0; map = (k i).1; cells = e.cells })) ∙ both seat name
    where
      equal : (n : ℕ) → nat_eq n n ≡ true
      equal n = grind (arith, nat_tests)

      both : (n : ℕ) (name : List ℕ) → (nat_eq n n && bytes_eq name name) ≡ true
      both n name = rw (equal n, same_name name) refl

  -- one set is what is looked up under its key
  one_is : (done : List Exposure) (e : Exposure) (left : List Exposure) (seat : ℕ) (m : Grid) → done ++ e ∷ left ≡ all → AreOthers seat m.name done → key_of e ≡ (let key : ℕ × List ℕ = (seat, m.name) in key) → e ≡ set_on looked m seat
  one_is done e left seat m split others k =
      let at : cells_at all seat m.name ≡ Some e.cells = ap (λ l. cells_at l seat m.name) (sym split) ∙ found_after done e left seat m.name others (is_its e seat m.name k) in
      λ i. record { seat = (k i).0; map = (k i).1; cells = unwrap_or (sym at i) (cells_where m.walls.extent (λ x y. false)) }

  heads : {A : Type 0} (x y : A) (xs ys : List A) → x ∷ xs ≡ y ∷ ys → (x ≡ y) × (xs ≡ ys)
  heads x y xs ys e = let a : x ≡ y = cc in let b : xs ≡ ys = cc in (a, b)

  assoc : (a b c : List Exposure) → (a ++ b) ++ c ≡ a ++ (b ++ c)
  assoc [] b c = refl
  assoc (x ∷ a) b c = ap (λ l. x ∷ l) (assoc a b c)

  all_append : (P : Exposure → Type 0) (a b : List Exposure) → AllByRecursion P a → AllByRecursion P b → AllByRecursion P (a ++ b)
  all_append P [] b h k = k
  all_append P (x ∷ a) b h k = (h.0, all_append P a b h.1 k)

  abbrev keyed : Grid → ℕ → ℕ × List ℕ
  keyed m seat = (seat, m.name)

  -- the sets of a map, and what is left behind them
  record RowTaken (left : List Exposure) (m : Grid) (k n : ℕ) (keys : List (ℕ × List ℕ)) : Type 0 where
    rest : List Exposure
    split : left ≡ map (set_on looked m) (range_with_len k n) ++ rest
    same : map key_of rest ≡ keys

  row_taken : (n k : ℕ) (m : Grid) (done left : List Exposure) (keys : List (ℕ × List ℕ)) → done ++ left ≡ all → map key_of left ≡ map (keyed m) (range_with_len k n) ++ keys
      → ((seat : ℕ) → k ≤ seat → AreOthers seat m.name done) → RowTaken left m k n keys
  row_taken zero k m done left keys e h others = record { rest = left; split = refl; same = h }
  row_taken (suc n) k m done [] keys e h others = absurd cc
  row_taken (suc n) k m done (set ∷ left) keys e h others =
      let parts = heads (key_of set) (keyed m k) (map key_of left) (map (keyed m) (range_with_len (k + 1) n) ++ keys) h in
      let is = one_is done set left k m e (others k (omega arith)) parts.0 in
      let more = row_taken n (k + 1) m (done ++ set ∷ []) left keys (assoc done (set ∷ []) left ∙ e) parts.1
      (λ seat low. all_append (λ x. is_of seat m.name x ≡ false) done (set ∷ []) (others seat (omega (arith, low))) (other_seat set seat (ap (λ (p : ℕ × List ℕ). p.0) parts.0) low, tt)) in
      record { rest = more.rest; split = (λ i. is i ∷ more.split i); same = more.same }
    where
      apart : (a b : ℕ) → a + 1 ≤ b → nat_eq a b ≡ false
      apart a b low = grind (arith, nat_tests)

      other_seat : (set : Exposure) (seat : ℕ) → set.seat ≡ k → k + 1 ≤ seat → is_of seat m.name set ≡ false
      other_seat set seat is low = rw (ap (λ n. nat_eq n seat) is ∙ apart k seat low) refl

  -- no set has the name, so none is of it
  none_of : (seat : ℕ) (name : List ℕ) (done : List Exposure) → AllByRecursion (λ e. bytes_eq e.map name ≡ false) done → AreOthers seat name done
  none_of seat name [] h = tt
  none_of seat name (e ∷ done) h = (rw h.0 (by (nat_eq e.seat seat)), none_of seat name done h.1)
    where
      by : (b : Bool) → (b && false) ≡ false
      by true = refl
      by false = refl

  row_names : (m : Grid) (name : List ℕ) → bytes_eq m.name name ≡ false → (k n : ℕ) → AllByRecursion (λ e. bytes_eq e.map name ≡ false) (map (set_on looked m) (range_with_len k n))
  row_names m name h k zero = tt
  row_names m name h k (suc n) = (h, row_names m name h (k + 1) n)

  more_names : (players : ℕ) (m : Grid) (done : List Exposure) (maps : List Grid) → AllByRecursion (λ other. bytes_eq m.name other.name ≡ false) maps → AllByRecursion (λ other. AllByRecursion (λ e. bytes_eq e.map other.name ≡ false) done) maps
      → AllByRecursion (λ other. AllByRecursion (λ e. bytes_eq e.map other.name ≡ false) (done ++ map (set_on looked m) (range_with_len 1 players))) maps
  more_names players m done [] apart before = tt
  more_names players m done (o ∷ maps) apart before =
      (all_append (λ e. bytes_eq e.map o.name ≡ false) done (map (set_on looked m) (range_with_len 1 players)) before.0 (row_names m o.name apart.0 1 players), more_names players m done maps apart.1 before.1)

  no_keys : (left : List Exposure) → map key_of left ≡ [] → left ≡ []
  no_keys [] h = refl
  no_keys (x ∷ left) h = absurd cc

  laid_from : (players : ℕ) (maps : List Grid) (done left : List Exposure) → done ++ left ≡ all → map key_of left ≡ flat_map (λ m. keys_on players m.name) maps → NamesDiffer maps
      → AllByRecursion (λ other. AllByRecursion (λ e. bytes_eq e.map other.name ≡ false) done) maps → left ≡ laid players looked maps
  laid_from players [] done left e h differ before = no_keys left h
  laid_from players (m ∷ maps) done left e h differ before =
      let row = row_taken players 1 m done left (flat_map (λ m. keys_on players m.name) maps) e h (λ seat low. none_of seat m.name done before.0) in
      row.split ∙ ap (λ l. map (set_on looked m) (range_with_len 1 players) ++ l)
      (laid_from players maps (done ++ map (set_on looked m) (range_with_len 1 players)) row.rest
      (assoc done (map (set_on looked m) (range_with_len 1 players)) row.rest ∙ ap (λ l. done ++ l) (sym row.split) ∙ e) row.same differ.1
      (more_names players m done maps differ.0 before.1))

  none_before : (maps : List Grid) → AllByRecursion (λ other. AllByRecursion (λ (e : Exposure). bytes_eq e.map other.name ≡ false) []) maps
  none_before [] = tt
  none_before (m ∷ maps) = (tt, none_before maps)

  -- sets in order are those that are looked up
  pub laid_out : (players : ℕ) (maps : List Grid) → map key_of all ≡ flat_map (λ m. keys_on players m.name) maps → NamesDiffer maps → all ≡ laid players looked maps
  laid_out players maps h differ = laid_from players maps [] all refl h differ (none_before maps)
