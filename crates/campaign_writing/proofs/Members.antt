-- Free keys that are put in one after the other, in their order.
use Rattle.std.proofs.Common.{◌≡◌, ℕ, zero, suc, ◌+◌, List, [], ◌∷◌, ◌++◌, length, map, Some, refl, sym, ap, ◌∙◌, arith, true, false, Bool, cond, ◌==◌}
use Rattle.std.specs.Prelude.{take, drop, slice_get}
use Rattle.std.proofs.lemmas.Bool.Decides.{nat_tests}
use Rattle.std.proofs.lemmas.List.{append-nil}
use Rattle.std.specs.List.{AllByRecursion, filter}
use Rattle.std.specs.Cmp.Lexicographic.{nat_list_cmp_total}
use Rattle.std.specs.Ordering.{is_lt, match_ordering, ordering_reverse}
use Rattle.std.specs.FinMap.Entries.{is_sorted}
use Rattle.names.specs.Tag.{tag_cmp}
use Rattle.cells.specs.declared.cell.Run.{Run}
use Rattle.serde_json.specs.Data.{Data, Members, member, array, put}
use Rattle.serde_json.specs.View.{items_of}
use Rattle.maps.specs.Maps.{Grid}
use Rattle.world.specs.Scene.{Scene}
use Rattle.campaign_writing.specs.Scenes.{run_tree, runs_at, runs_tree, some_runs}
use Rattle.campaign_writing.specs.Trees.{named, with_member}
use Rattle.campaign_writing.proofs.Orders.{less_is, lesser_entries, lesser_keys}
use Rattle.campaign_writing.proofs.Parts.{take_next}

-- these stand before the key
abbrev pub AreLess : {V : Type 0} → List ℕ → List (List ℕ × V) → Type 0
AreLess key done = AllByRecursion (λ entry. is_lt (tag_cmp entry.0 key) ≡ true) done

-- a key behind all others goes last
pub put_behind : {V : Type 0} (tree : V → Data) (key : List ℕ) (v : V) (done : List (List ℕ × V)) → AreLess key done → put key (tree v) (named tree done) ≡ named tree (done ++ (key, v) ∷ [])
put_behind tree key v [] h = refl
put_behind tree key v (y ∷ done) h =
    ap (λ r. match_ordering r (member key (tree v) (member y.0 (tree y.1) (named tree done))) (member y.0 (tree v) (named tree done)) (member y.0 (tree y.1) (put key (tree v) (named tree done))))
    (nat_list_cmp_total.antisymm key y.0 ∙ ap ordering_reverse (less_is (tag_cmp y.0 key) h.0))
    ∙ ap (member y.0 (tree y.1)) (put_behind tree key v done h.1)

split_at : {A : Type 0} (n : ℕ) (xs : List A) (x : A) → slice_get xs n ≡ Some x → take n xs ++ x ∷ drop (suc n) xs ≡ xs
split_at n [] x h = absurd cc
split_at zero (y ∷ xs) x h = let e : y ≡ x = cc in ap (λ z. z ∷ xs) (sym e)
split_at (suc n) (y ∷ xs) x h = ap (λ l. y ∷ l) (split_at n xs x h)

-- one more of entries in order
pub named_one_more : {V : Type 0} (tree : V → Data) (n : ℕ) (all : List (List ℕ × V)) (x : List ℕ × V) (before after : Members) (d : Data) → is_sorted tag_cmp all ≡ true → slice_get all n ≡ Some x → before ≡ named tree (take n all) → d ≡ tree x.1
    → after ≡ with_member x.0 d before → after ≡ named tree (take (n + 1) all)
unfolding with_member
named_one_more tree n all x before after d sorted at was is new =
    let next : suc n ≡ n + 1 = omega arith in
    let lesser = lesser_entries tag_cmp (take n all) x (drop (suc n) all) all (split_at n all x at) sorted in
    new ∙ (λ i. put x.0 (is i) (was i)) ∙ put_behind tree x.0 x.1 (take n all) lesser ∙ ap (named tree) (sym (take_next n all x at)) ∙ ap (λ k. named tree (take k all)) next

-- ---- maps with exposed cells

-- a map with the runs that are exposed to a seat
abbrev pub entry_of : Scene → ℕ → Grid → List ℕ × List Run
entry_of s seat m = (m.name, runs_at s seat m.name)

abbrev pub entries_of : Scene → ℕ → List Grid → List (List ℕ × List Run)
entries_of s seat maps = filter some_runs (map (entry_of s seat) maps)

entries_less : (s : Scene) (seat : ℕ) (key : List ℕ) (done : List Grid) → AllByRecursion (λ m. is_lt (tag_cmp m.name key) ≡ true) done → AreLess key (entries_of s seat done)
entries_less s seat key [] h = tt
entries_less s seat key (m ∷ done) h = by (some_runs (entry_of s seat m)) (entries_less s seat key done h.1)
  where
    by : (b : Bool) → AreLess key (entries_of s seat done) → AreLess key (cond b (entry_of s seat m ∷ entries_of s seat done) (entries_of s seat done))
    by true rest = (h.0, rest)
    by false rest = rest

entries_append : (s : Scene) (seat : ℕ) (done : List Grid) (m : Grid) → entries_of s seat (done ++ m ∷ []) ≡ entries_of s seat done ++ entries_of s seat (m ∷ [])
entries_append s seat [] m = refl
entries_append s seat (y ∷ done) m = by (some_runs (entry_of s seat y)) (entries_append s seat done m)
  where
    by : (b : Bool) → entries_of s seat (done ++ m ∷ []) ≡ entries_of s seat done ++ entries_of s seat (m ∷ [])
        → cond b (entry_of s seat y ∷ entries_of s seat (done ++ m ∷ [])) (entries_of s seat (done ++ m ∷ [])) ≡ cond b (entry_of s seat y ∷ entries_of s seat done) (entries_of s seat done) ++ entries_of s seat (m ∷ [])
    by true rest = ap (λ l. entry_of s seat y ∷ l) rest
    by false rest = rest

-- the entry of one map: none where no cells are exposed
abbrev one_entry : List ℕ → List Run → List (List ℕ × List Run)
one_entry name runs = cond (some_runs (name, runs)) ((name, runs) ∷ []) []

-- one map more
module _ (s : Scene) (seat n : ℕ) (m : Grid) (list : List Data) (before : Members) (ordered : is_sorted tag_cmp (map (λ m. (m.name, m)) s.maps) ≡ true) (at : slice_get s.maps n ≡ Some m)
    (runs : list ≡ map run_tree (runs_at s seat m.name)) (was : before ≡ named runs_tree (entries_of s seat (take n s.maps))) where
  taken : entries_of s seat (take n s.maps) ++ one_entry m.name (runs_at s seat m.name) ≡ entries_of s seat (take (n + 1) s.maps)
  taken =
      let next : suc n ≡ n + 1 = omega arith in
      sym (entries_append s seat (take n s.maps) m) ∙ ap (entries_of s seat) (sym (take_next n s.maps m at)) ∙ ap (λ k. entries_of s seat (take k s.maps)) next

  pub none_more : length list ≡ 0 → before ≡ named runs_tree (entries_of s seat (take (n + 1) s.maps))
  none_more empty = by (runs_at s seat m.name) runs taken
    where
      by : (r : List Run) → list ≡ map run_tree r → entries_of s seat (take n s.maps) ++ one_entry m.name r ≡ entries_of s seat (take (n + 1) s.maps) → before ≡ named runs_tree (entries_of s seat (take (n + 1) s.maps))
      by [] is e = was ∙ ap (named runs_tree) (sym (append-nil (entries_of s seat (take n s.maps))) ∙ e)
      by (run ∷ rest) is e = absurd (let some : length list ≡ suc (length (map run_tree rest)) = ap length is in omega (arith, some, empty))

  pub some_more : (length list ≡ 0 → ⊥) → (after : Members) → after ≡ with_member m.name (array (items_of list)) before → after ≡ named runs_tree (entries_of s seat (take (n + 1) s.maps))
  unfolding with_member
  some_more some after new = by (runs_at s seat m.name) runs taken
    where
      less : AreLess m.name (entries_of s seat (take n s.maps))
      less = entries_less s seat m.name (take n s.maps) (lesser_keys tag_cmp (λ m. m.name) (take n s.maps) m (drop (suc n) s.maps) s.maps (split_at n s.maps m at) ordered)

      by : (r : List Run) → list ≡ map run_tree r → entries_of s seat (take n s.maps) ++ one_entry m.name r ≡ entries_of s seat (take (n + 1) s.maps) → after ≡ named runs_tree (entries_of s seat (take (n + 1) s.maps))
      by [] is e = absurd (some (ap length is))
      by (run ∷ rest) is e =
          new ∙ (λ i. put m.name (array (items_of (is i))) (was i)) ∙ put_behind runs_tree m.name (run ∷ rest) (entries_of s seat (take n s.maps)) less ∙ ap (named runs_tree) e

-- ---- lists that are empty, or not

pub is_none : (b : Bool) (n k : ℕ) → b ≡ (n == 0) → b ≡ true → n ≡ k → k ≡ 0
is_none b n k is empty same = grind (arith, nat_tests)

pub is_some : (b : Bool) (n k : ℕ) → b ≡ (n == 0) → b ≡ false → n ≡ k → k ≡ 0 → ⊥
is_some b n k is full same none = grind (arith, nat_tests)
