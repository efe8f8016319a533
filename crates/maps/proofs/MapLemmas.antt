-- Tables of maps after one map is put or changed.
use Rattle.std.proofs.Common.{◌≡◌, ℕ, nat_le, subst, suc, ◌+◌, ◌<◌, ◌≤◌, Bool, true, false, cond, not, ◌&&◌, nat_lt, List, [], ◌∷◌, length, map, get_or, set, Option, Some, None, is_some, Result, Ok, Err, is_ok, Bor, refl, sym, ◌∙◌, ap, arith}
use Rattle.std.specs.Prelude.{unwrap_or, IfSome, OnOk, OnErr}
use Rattle.std.specs.Option.{option_copied}
use Rattle.std.specs.List.{find, insert, position, position_or_len}
use Rattle.std.specs.Ordering.{is_lt}
use Rattle.std.specs.Str.{bytes_eq}
use Rattle.std.specs.FinMap.Entries.{below_all, is_sorted}
use Rattle.std.proofs.lemmas.Bool.Decides.{nat_tests}
use Rattle.std.proofs.Math.Seq.{map-set_same}
use Rattle.std.proofs.lemmas.List.{length-set}
use Rattle.std.proofs.lemmas.List.Edits.{length-insert}
use Rattle.std.proofs.lemmas.List.Elements.{All-append, All-cons, All-drop, All-set, All-take}
use Rattle.std.proofs.lemmas.List.Sums.{prefix_len-le-length}
use Rattle.cells.specs.Cells.{Extent}
use Rattle.names.specs.Tag.{tag_cmp}
use Rattle.maps.specs.Maps.{AreMaps, Grid, IsMap, changed, has_map, has_name, in_order, is_behind, map_of, new_map, with_map}
use Rattle.maps.specs.MapFaults.{map_fault}
use Rattle.maps.specs.declared.map_table.MapFault.TheVariants.{MapExists, MapLimit}
use Rattle.maps.proofs.NameLemmas.{and_first, and_second, apart, behind, both, tag_trans}

-- ---- places

some_place : (a n i : ℕ) → Some i ≡ cond (nat_lt a n) (Some a) None → (i ≡ a) × (a < n)
some_place a n i e = by (nat_lt a n) refl e
  where
    by : (m : Bool) → nat_lt a n ≡ m → Some i ≡ cond m (Some a) None → (i ≡ a) × (a < n)
    by true h e = (ap (λ o. unwrap_or o i) e, low a n h)
      where
        low : (a n : ℕ) → nat_lt a n ≡ true → a < n
        low a n h = grind (arith, nat_tests)
    by false h e = cc

none_place : (a n : ℕ) → None ≡ cond (nat_lt a n) (Some a) None → n ≤ a
none_place a n e = by (nat_lt a n) refl e
  where
    by : (m : Bool) → nat_lt a n ≡ m → None ≡ cond m (Some a) None → n ≤ a
    by true h e = cc
    by false h e = high a n h
      where
        high : (a n : ℕ) → nat_lt a n ≡ false → n ≤ a
        high a n h = grind (arith, nat_tests)

-- the first that passes, where one does
pub first_place : (p : Grid → Bool) (ms : List Grid) (i : ℕ) → Some i ≡ position p ms → (i ≡ position_or_len p ms) × (position_or_len p ms < length ms)
first_place p ms i e = some_place (position_or_len p ms) (length ms) i e

pub no_place : (p : Grid → Bool) (ms : List Grid) → None ≡ position p ms → length ms ≤ position_or_len p ms
no_place p ms e = none_place (position_or_len p ms) (length ms) e

-- the map at the first place that passes is the one that is found
pub found_at : (p : Grid → Bool) (ms : List Grid) (d : Grid) → position_or_len p ms < length ms → find p ms ≡ Some (get_or ms (position_or_len p ms) d)
found_at p [] d h = absurd (omega arith)
found_at p (m ∷ ms) d h = by (p m) (found_at p ms d) h
  where
    by : (b : Bool) → (position_or_len p ms < length ms → find p ms ≡ Some (get_or ms (position_or_len p ms) d))
        → cond (not b) (1 + position_or_len p ms) 0 < suc (length ms)
        → cond b (Some m) (find p ms) ≡ Some (get_or (m ∷ ms) (cond (not b) (1 + position_or_len p ms) 0) d)
    by true rest h = refl
    by false rest h =
        let e : suc (position_or_len p ms) ≡ 1 + position_or_len p ms = omega arith in
        rest (omega arith) ∙ ap (λ k. Some (get_or (m ∷ ms) k d)) e

pub none_found : (p : Grid → Bool) (ms : List Grid) → length ms ≤ position_or_len p ms → find p ms ≡ None
none_found p [] h = refl
none_found p (m ∷ ms) h = by (p m) (none_found p ms) h
  where
    by : (b : Bool) → (length ms ≤ position_or_len p ms → find p ms ≡ None) → suc (length ms) ≤ cond (not b) (1 + position_or_len p ms) 0
        → cond b (Some m) (find p ms) ≡ None
    by true rest h = absurd (omega arith)
    by false rest h = rest (omega arith)

-- a map that is there has a place
pub not_missing : (name : List ℕ) (ms : List Grid) → has_map name ms ≡ true → None ≡ position (has_name name) ms → ⊥
not_missing name ms there e =
    let none : has_map name ms ≡ false = ap is_some (none_found (has_name name) ms (no_place (has_name name) ms e)) in
    cc

pub end_place : (p : Grid → Bool) (ms : List Grid) → None ≡ position p ms → length ms ≡ position_or_len p ms
end_place p ms e = omega (arith, no_place p ms e, prefix_len-le-length (λ m. not (p m)) ms)

pub copied_too : (r : Option (Bor Grid)) → is_some r ≡ is_some (option_copied r)
copied_too None = refl
copied_too (Some m) = refl

-- ---- order

abbrev below : List ℕ → List Grid → Bool
below name ms = below_all tag_cmp name (map (λ m. (m.name, m)) ms)

below_behind : (a b : List ℕ) (ms : List Grid) → is_lt (tag_cmp a b) ≡ true → below b ms ≡ true → below a ms ≡ true
below_behind a b [] less h = refl
below_behind a b (m ∷ ms) less h =
    both _ _ (tag_trans a b m.name less (and_first _ _ h)) (below_behind a b ms less (and_second _ _ h))

-- ---- one map more

pub with_map_at : (added : Grid) (ms : List Grid) → insert ms (position_or_len (is_behind added.name) ms) added ≡ with_map added ms
with_map_at added [] = refl
with_map_at added (m ∷ ms) = by (is_lt (tag_cmp m.name added.name)) (with_map_at added ms)
  where
    by : (b : Bool) → insert ms (position_or_len (is_behind added.name) ms) added ≡ with_map added ms
        → insert (m ∷ ms) (cond (not (not b)) (1 + position_or_len (is_behind added.name) ms) 0) added ≡ cond b (m ∷ with_map added ms) (added ∷ m ∷ ms)
    by true rest =
        let e : 1 + position_or_len (is_behind added.name) ms ≡ suc (position_or_len (is_behind added.name) ms) = omega arith in
        ap (λ k. insert (m ∷ ms) k added) e ∙ ap (λ ns. m ∷ ns) rest
    by false rest = refl

below_with_map : (name : List ℕ) (added : Grid) (ms : List Grid) → is_lt (tag_cmp name added.name) ≡ true → below name ms ≡ true → below name (with_map added ms) ≡ true
below_with_map name added [] less h = both _ _ less refl
below_with_map name added (m ∷ ms) less h = by (is_lt (tag_cmp m.name added.name)) (below_with_map name added ms less (and_second _ _ h))
  where
    by : (b : Bool) → below name (with_map added ms) ≡ true → below name (cond b (m ∷ with_map added ms) (added ∷ m ∷ ms)) ≡ true
    by true rest = both _ _ (and_first _ _ h) rest
    by false rest = both _ _ less h

pub absent_first : (b : Bool) (m : Grid) (o : Option Grid) → is_some (cond b (Some m) o) ≡ false → b ≡ false
absent_first true m o h = cc
absent_first false m o h = refl

pub absent_rest : (b : Bool) (m : Grid) (o : Option Grid) → is_some (cond b (Some m) o) ≡ false → is_some o ≡ false
absent_rest true m o h = cc
absent_rest false m o h = h

pub in_order-with_map : (added : Grid) (ms : List Grid) → has_map added.name ms ≡ false → in_order ms ≡ true → in_order (with_map added ms) ≡ true
in_order-with_map added [] absent h = refl
in_order-with_map added (m ∷ ms) absent h =
    by (is_lt (tag_cmp m.name added.name)) refl (in_order-with_map added ms (absent_rest (has_name added.name m) m (find (has_name added.name) ms) absent) (and_second _ _ h))
  where
    by : (b : Bool) → is_lt (tag_cmp m.name added.name) ≡ b → in_order (with_map added ms) ≡ true → in_order (cond b (m ∷ with_map added ms) (added ∷ m ∷ ms)) ≡ true
    by true less rest = both _ _ (below_with_map m.name added ms less (and_first _ _ h)) rest
    by false more rest =
        let less : is_lt (tag_cmp added.name m.name) ≡ true = behind m.name added.name more (absent_first (has_name added.name m) m (find (has_name added.name) ms) absent) in
        both _ _ (both _ _ less (below_behind added.name m.name ms less (and_first _ _ h))) h

-- ---- one map changed

unmatched : (f : Grid → Grid) (name a : List ℕ) (ms : List Grid) → below a ms ≡ true → bytes_eq a name ≡ true → changed name f ms ≡ ms
unmatched f name a [] h e = refl
unmatched f name a (m ∷ ms) h e = λ i. cond (apart a m.name name (and_first _ _ h) e i) (f m) m ∷ unmatched f name a ms (and_second _ _ h) e i

pub changed_at : (f : Grid → Grid) (name : List ℕ) (ms : List Grid) (d : Grid) → in_order ms ≡ true → position_or_len (has_name name) ms < length ms
    → set ms (position_or_len (has_name name) ms) (f (get_or ms (position_or_len (has_name name) ms) d)) ≡ changed name f ms
changed_at f name [] d ordered h = absurd (omega arith)
changed_at f name (m ∷ ms) d ordered h = by (has_name name m) refl (changed_at f name ms d (and_second _ _ ordered)) h
  where
    by : (b : Bool) → has_name name m ≡ b
        → (position_or_len (has_name name) ms < length ms → set ms (position_or_len (has_name name) ms) (f (get_or ms (position_or_len (has_name name) ms) d)) ≡ changed name f ms)
        → cond (not b) (1 + position_or_len (has_name name) ms) 0 < suc (length ms)
        → set (m ∷ ms) (cond (not b) (1 + position_or_len (has_name name) ms) 0) (f (get_or (m ∷ ms) (cond (not b) (1 + position_or_len (has_name name) ms) 0) d))
        ≡ cond b (f m) m ∷ changed name f ms
    by true e rest h = ap (λ ns. f m ∷ ns) (sym (unmatched f name m.name ms (and_first _ _ ordered) e))
    by false e rest h =
        let s : 1 + position_or_len (has_name name) ms ≡ suc (position_or_len (has_name name) ms) = omega arith in
        ap (λ k. set (m ∷ ms) k (f (get_or (m ∷ ms) k d))) s ∙ ap (λ ns. m ∷ ns) (rest (omega arith))

-- ---- what the code writes at the place that it looked up

-- the place is that of the map of a name, in the maps that a table has
pub record IsPlace (name : List ℕ) (ms now seen : List Grid) (place : ℕ) (m : Grid) : Type 0 where
  pub maps : AreMaps ms
  pub view : ms ≡ now
  pub same : seen ≡ ms
  pub at : place ≡ position_or_len (has_name name) seen
  pub within : place < length seen
  pub is : m ≡ get_or ms place m

first_of : {name : List ℕ} {ms now seen : List Grid} {place : ℕ} {m : Grid} → IsPlace name ms now seen place m → place ≡ position_or_len (has_name name) ms
first_of {name} p = p.at ∙ ap (position_or_len (has_name name)) p.same

within_maps : {name : List ℕ} {ms now seen : List Grid} {place : ℕ} {m : Grid} → IsPlace name ms now seen place m → position_or_len (has_name name) ms < length ms
within_maps p = omega (arith, ap length p.same, first_of p, p.within)

-- the map at the place is the one of that name
pub is_found : {name : List ℕ} {ms now seen : List Grid} {place : ℕ} {m : Grid} → IsPlace name ms now seen place m → map_of name now ≡ Some m
is_found {name} {ms} {now} {seen} {place} {m} p =
    sym (ap (map_of name) p.view) ∙ found_at (has_name name) ms m (within_maps p)
    ∙ ap (λ k. Some (get_or ms k m)) (sym (first_of p)) ∙ ap Some (sym p.is)

pub is_changed : (f : Grid → Grid) {name : List ℕ} {ms now seen : List Grid} {place : ℕ} {m : Grid} → IsPlace name ms now seen place m
    → (u : Grid) → u ≡ f m → set ms place u ≡ changed name f now
is_changed f {name} {ms} {now} {seen} {place} {m} p u new =
    ap (set ms place) new ∙ (λ i. set ms (first_of p i) (f (p.is i))) ∙ ap (λ k. set ms (position_or_len (has_name name) ms) (f (get_or ms k m))) (first_of p)
    ∙ changed_at f name ms m p.maps.ordered (within_maps p) ∙ ap (changed name f) p.view

pub changed_if_ok : {E : Type 0} (result : Result (Unit {0}) E) (f : Grid → Grid) {name : List ℕ} {ms now seen : List Grid} {place : ℕ} {m : Grid}
    → IsPlace name ms now seen place m → (u : Grid) → OnOk result (u ≡ f m) → OnOk result (set ms place u ≡ changed name f now)
changed_if_ok (Ok x) f p u ok = is_changed f p u ok
changed_if_ok (Err x) f p u ok = tt

-- what is true of the map at the place is true of the map of that name
pub of_found : (P : Grid → Type 0) {name : List ℕ} {ms now seen : List Grid} {place : ℕ} {m : Grid} → IsPlace name ms now seen place m → P m
    → IfSome (map_of name now) P
of_found P p h = subst (λ (o : Option Grid). IfSome o P) (sym (is_found p)) h

-- ---- tables that stay tables

abbrev pub names_of : List Grid → List (List ℕ)
names_of ms = map (λ m. m.name) ms

abbrev paired : List (List ℕ) → List (List ℕ × List ℕ)
paired names = map (λ name. (name, name)) names

below-names : (name : List ℕ) (ms : List Grid) → below name ms ≡ below_all tag_cmp name (paired (names_of ms))
below-names name [] = refl
below-names name (m ∷ ms) = ap (λ t. is_lt (tag_cmp name m.name) && t) (below-names name ms)

in_order-names : (ms : List Grid) → in_order ms ≡ is_sorted tag_cmp (paired (names_of ms))
in_order-names [] = refl
in_order-names (m ∷ ms) = λ i. below-names m.name ms i && in_order-names ms i

-- the order is that of the names
pub in_order-same_names : (ms ns : List Grid) → names_of ms ≡ names_of ns → in_order ms ≡ in_order ns
in_order-same_names ms ns e = in_order-names ms ∙ ap (λ names. is_sorted tag_cmp (paired names)) e ∙ sym (in_order-names ns)

-- a map that keeps its name may change
pub AreMaps-set : (ms : List Grid) (place : ℕ) (m u : Grid) → AreMaps ms → m ≡ get_or ms place m → u.name ≡ m.name → IsMap u → AreMaps (set ms place u)
AreMaps-set ms place m u maps is keeps valid = record {
  few = omega (arith, length-set ms place u, maps.few);
  ordered = in_order-same_names (set ms place u) ms (map-set_same (λ (m : Grid). m.name) ms place u m (keeps ∙ ap (λ (m : Grid). m.name) is)) ∙ maps.ordered;
  each = All-set IsMap ms place u valid maps.each;
}

pub kept_name : {E : Type 0} (result : Result (Unit {0}) E) (f : Grid → Grid) (m u : Grid) → let after : Grid = f m in after.name ≡ m.name
    → OnOk result (u ≡ f m) → OnErr result (u ≡ m) → u.name ≡ m.name
kept_name (Ok x) f m u keeps ok err = ap (λ (n : Grid). n.name) ok ∙ keeps
kept_name (Err x) f m u keeps ok err = ap (λ (n : Grid). n.name) err

-- ---- a map put in its place

is_with_map : (added : Grid) (ms now seen : List Grid) (place : ℕ) → ms ≡ now → seen ≡ ms → place ≡ position_or_len (is_behind added.name) seen
    → insert ms place added ≡ with_map added now
is_with_map added ms now seen place view same at =
    ap (λ k. insert ms k added) (at ∙ ap (position_or_len (is_behind added.name)) same) ∙ with_map_at added ms ∙ ap (with_map added) view

pub with_map_if_ok : {E : Type 0} (result : Result (Unit {0}) E) (added : Grid) (ms now seen after : List Grid) (place : ℕ) → ms ≡ now → seen ≡ ms
    → place ≡ position_or_len (is_behind added.name) seen → after ≡ cond (is_ok result) (insert ms place added) ms → OnOk result (after ≡ with_map added now)
with_map_if_ok (Ok x) added ms now seen after place view same at e = e ∙ is_with_map added ms now seen place view same at
with_map_if_ok (Err x) added ms now seen after place view same at e = tt

pub AreMaps-added : (made : Bool) (added : Grid) (ms now seen after : List Grid) (place : ℕ) → AreMaps ms → ms ≡ now → seen ≡ ms
    → length ms < 8 → has_map added.name now ≡ false → place ≡ position_or_len (is_behind added.name) seen → after ≡ cond made (insert ms place added) ms
    → IsMap added → AreMaps after
AreMaps-added true added ms now seen after place maps view same room absent at e valid = rw e (record {
  few = omega (arith, length-insert ms place added inside, room);
  ordered = ap in_order (is_with_map added ms now seen place view same at) ∙ in_order-with_map added now absent (sym (ap in_order view) ∙ maps.ordered);
  each = All-append IsMap _ _ (All-take IsMap place ms maps.each) (All-cons IsMap added _ valid (All-drop IsMap place ms maps.each));
})
  where
    inside : place ≤ length ms
    inside = omega (arith, at ∙ ap (position_or_len (is_behind added.name)) same, prefix_len-le-length (λ m. not (is_behind added.name m)) ms)
AreMaps-added false added ms now seen after place maps view same room absent at e valid = rw e maps

-- ---- the checks of a new map

record IsFree (ms : List Grid) (name : List ℕ) : Type 0 where
  pub absent : has_map name ms ≡ false
  pub room : length ms < 8

passed : (ms : List Grid) (name : List ℕ) → None ≡ map_fault ms name → IsFree ms name
passed ms name e = by (has_map name ms) (nat_le 8 (length ms)) refl refl e
  where
    by : (s t : Bool) → has_map name ms ≡ s → nat_le 8 (length ms) ≡ t → None ≡ cond s (Some MapExists) (cond t (Some MapLimit) None) → IsFree ms name
    by true t es et e = cc
    by false true es et e = cc
    by false false es et e = record { absent = es; room = below (length ms) et }
      where
        below : (n : ℕ) → nat_le 8 n ≡ false → n < 8
        below n h = grind (arith, nat_tests)

-- a map of that name and size was made, and the checks of it are passed
pub record IsMade (name : List ℕ) (size : Extent) (ms now seen again : List Grid) (place : ℕ) (added : Grid) : Type 0 where
  pub maps : AreMaps ms
  pub view : ms ≡ now
  pub same : seen ≡ ms
  pub same_again : again ≡ ms
  pub free : None ≡ map_fault seen name
  pub is : added ≡ new_map name size
  pub valid : IsMap added
  pub at : place ≡ position_or_len (is_behind name) again

pub absent_before : {name : List ℕ} {size : Extent} {ms now seen again : List Grid} {place : ℕ} {added : Grid} → IsMade name size ms now seen again place added
    → has_map name now ≡ false
absent_before {name} {ms = ms} {seen = seen} p =
    ap (has_map name) (sym p.view ∙ sym p.same) ∙ (passed seen name p.free).absent

place_of_added : {name : List ℕ} {size : Extent} {ms now seen again : List Grid} {place : ℕ} {added : Grid} → IsMade name size ms now seen again place added
    → place ≡ position_or_len (is_behind added.name) again
place_of_added {again = again} p = p.at ∙ ap (λ (m : Grid). position_or_len (is_behind m.name) again) (sym p.is)

pub AreMaps-made : (made : Bool) {name : List ℕ} {size : Extent} {ms now seen again : List Grid} {place : ℕ} {added : Grid}
    → IsMade name size ms now seen again place added → (after : List Grid) → after ≡ cond made (insert ms place added) ms → AreMaps after
AreMaps-made made {name} {size} {ms} {now} {seen} {again} {place} {added} p after e =
    AreMaps-added made added ms now again after place p.maps p.view p.same_again
    (omega (arith, ap length p.same, (passed seen name p.free).room))
    (ap (λ (m : Grid). has_map m.name now) p.is ∙ absent_before p) (place_of_added p) e p.valid

pub made_if_ok : {E : Type 0} (result : Result (Unit {0}) E) {name : List ℕ} {size : Extent} {ms now seen again : List Grid} {place : ℕ} {added : Grid}
    → IsMade name size ms now seen again place added → (after : List Grid) → after ≡ cond (is_ok result) (insert ms place added) ms
    → OnOk result (after ≡ with_map (new_map name size) now)
made_if_ok result {ms = ms} {now = now} {again = again} {place = place} {added = added} p after e =
    subst (λ (m : Grid). OnOk result (after ≡ with_map m now)) p.is
    (with_map_if_ok result added ms now again after place p.view p.same_again (place_of_added p) e)
