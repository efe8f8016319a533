-- What is looked up in tables of maps, after one map is changed or added.
use Rattle.std.proofs.Common.{◌≡◌, ◌≢◌, ℕ, Bool, true, false, cond, List, [], ◌∷◌, Option, Some, None, Result, Ok, Err, refl, sym, ◌∙◌, ap}
use Rattle.std.specs.Prelude.{IfSome, OnOk, option_map}
use Rattle.std.specs.Ordering.{is_lt}
use Rattle.std.specs.Str.{bytes_eq}
use Rattle.std.proofs.lemmas.Slice.Eq.{bytes_eq-Decides}
use Rattle.names.specs.Tag.{tag_cmp}
use Rattle.maps.specs.Maps.{AddsMap, ChangesOnly, Grid, changed, has_map, has_name, in_order, map_of, with_map}
use Rattle.maps.proofs.NameLemmas.{other_name, same_name}
use Rattle.maps.proofs.MapLemmas.{absent_first, absent_rest, in_order-same_names, names_of}

abbrev pub KeepsName : (Grid → Grid) → Type 0
KeepsName f = (m : Grid) → let after : Grid = f m in after.name ≡ m.name

-- ---- one map changed

names_of-changed : (f : Grid → Grid) → KeepsName f → (name : List ℕ) (ms : List Grid) → names_of (changed name f ms) ≡ names_of ms
names_of-changed f keeps name [] = refl
names_of-changed f keeps name (m ∷ ms) = λ i. kept (has_name name m) i ∷ names_of-changed f keeps name ms i
  where
    kept : (t : Bool) → let after : Grid = cond t (f m) m in after.name ≡ m.name
    kept true = keeps m
    kept false = refl

pub in_order-changed : (f : Grid → Grid) → KeepsName f → (name : List ℕ) (ms : List Grid) → in_order (changed name f ms) ≡ in_order ms
in_order-changed f keeps name ms = in_order-same_names (changed name f ms) ms (names_of-changed f keeps name ms)

pub map_of-changed : (f : Grid → Grid) → KeepsName f → (name : List ℕ) (ms : List Grid) → map_of name (changed name f ms) ≡ option_map f (map_of name ms)
map_of-changed f keeps name [] = refl
map_of-changed f keeps name (m ∷ ms) = by (has_name name m) refl (map_of-changed f keeps name ms)
  where
    by : (t : Bool) → has_name name m ≡ t → map_of name (changed name f ms) ≡ option_map f (map_of name ms)
        → map_of name (cond t (f m) m ∷ changed name f ms) ≡ option_map f (cond t (Some m) (map_of name ms))
    by true e rest = ap (λ t. cond t (Some (f m)) (map_of name (changed name f ms))) (ap (λ n. bytes_eq n name) (keeps m) ∙ e)
    by false e rest = ap (λ t. cond t (Some m) (map_of name (changed name f ms))) e ∙ rest

pub map_of_other-changed : (f : Grid → Grid) → KeepsName f → (name other : List ℕ) → other ≢ name → (ms : List Grid)
    → map_of other (changed name f ms) ≡ map_of other ms
map_of_other-changed f keeps name other ne [] = refl
map_of_other-changed f keeps name other ne (m ∷ ms) = by (has_name name m) refl (map_of_other-changed f keeps name other ne ms)
  where
    by : (t : Bool) → has_name name m ≡ t → map_of other (changed name f ms) ≡ map_of other ms
        → map_of other (cond t (f m) m ∷ changed name f ms) ≡ map_of other (m ∷ ms)
    by true e rest =
        let here : has_name other m ≡ false = ap (λ n. bytes_eq n other) ((bytes_eq-Decides m.name name).0 e) ∙ other_name name other (λ s. ne (sym s)) in
        ap (λ t. cond t (Some (f m)) (map_of other (changed name f ms))) (ap (λ n. bytes_eq n other) (keeps m) ∙ here)
        ∙ rest ∙ sym (ap (λ t. cond t (Some m) (map_of other ms)) here)
    by false e rest = ap (λ o. cond (has_name other m) (Some m) o) rest

pub ChangesOnly-changed : (f : Grid → Grid) → KeepsName f → (name : List ℕ) (ms after : List Grid) → after ≡ changed name f ms → ChangesOnly ms after name f
ChangesOnly-changed f keeps name ms after e = rw e (record {
  changed = map_of-changed f keeps name ms;
  others = λ other ne. map_of_other-changed f keeps name other ne ms;
  names = names_of-changed f keeps name ms;
})

pub ChangesOnly-if_ok : {E : Type 0} (result : Result (Unit {0}) E) (f : Grid → Grid) → KeepsName f → (name : List ℕ) (ms after : List Grid)
    → OnOk result (after ≡ changed name f ms) → OnOk result (ChangesOnly ms after name f)
ChangesOnly-if_ok (Ok x) f keeps name ms after e = ChangesOnly-changed f keeps name ms after e
ChangesOnly-if_ok (Err x) f keeps name ms after e = tt

-- what f makes of the map of that name is true of the changed one
pub changed_map : (P : Grid → Grid → Type 0) (f : Grid → Grid) → ((m : Grid) → P m (f m)) → (name : List ℕ) (old new : List Grid)
    → ChangesOnly old new name f → IfSome (map_of name old) (λ m. IfSome (map_of name new) (P m))
changed_map P f makes name old new only = by (map_of name old) (map_of name new) only.changed
  where
    by : (o n : Option Grid) → n ≡ option_map f o → IfSome o (λ m. IfSome n (P m))
    by None n e = tt
    by (Some m) n e = rw e (makes m)

-- ---- one map more

map_of-with_map : (added : Grid) (ms : List Grid) → has_map added.name ms ≡ false → map_of added.name (with_map added ms) ≡ Some added
map_of-with_map added [] absent = ap (λ t. cond t (Some added) None) (same_name added.name)
map_of-with_map added (m ∷ ms) absent =
    by (is_lt (tag_cmp m.name added.name)) (map_of-with_map added ms (absent_rest (has_name added.name m) m (map_of added.name ms) absent))
  where
    by : (t : Bool) → map_of added.name (with_map added ms) ≡ Some added → map_of added.name (cond t (m ∷ with_map added ms) (added ∷ m ∷ ms)) ≡ Some added
    by true rest =
        ap (λ t. cond t (Some m) (map_of added.name (with_map added ms))) (absent_first (has_name added.name m) m (map_of added.name ms) absent) ∙ rest
    by false rest = ap (λ t. cond t (Some added) (map_of added.name (m ∷ ms))) (same_name added.name)

map_of_other-with_map : (added : Grid) (other : List ℕ) → other ≢ added.name → (ms : List Grid) → map_of other (with_map added ms) ≡ map_of other ms
map_of_other-with_map added other ne [] = ap (λ t. cond t (Some added) None) (other_name added.name other (λ s. ne (sym s)))
map_of_other-with_map added other ne (m ∷ ms) = by (is_lt (tag_cmp m.name added.name)) (map_of_other-with_map added other ne ms)
  where
    by : (t : Bool) → map_of other (with_map added ms) ≡ map_of other ms → map_of other (cond t (m ∷ with_map added ms) (added ∷ m ∷ ms)) ≡ map_of other (m ∷ ms)
    by true rest = ap (λ o. cond (has_name other m) (Some m) o) rest
    by false rest = ap (λ t. cond t (Some added) (map_of other (m ∷ ms))) (other_name added.name other (λ s. ne (sym s)))

pub AddsMap-if_ok : {E : Type 0} (result : Result (Unit {0}) E) (added : Grid) (ms after : List Grid) → has_map added.name ms ≡ false
    → OnOk result (after ≡ with_map added ms) → OnOk result (AddsMap ms after added)
AddsMap-if_ok (Ok x) added ms after absent e = rw e (record {
  added = map_of-with_map added ms absent;
  others = λ other ne. map_of_other-with_map added other ne ms;
})
AddsMap-if_ok (Err x) added ms after absent e = tt
