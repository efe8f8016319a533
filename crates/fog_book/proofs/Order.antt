-- Where the sets of a new map stand.
use Rattle.std.proofs.Common.{◌≡◌, ◌≤◌, ℕ, zero, suc, ◌+◌, ◌<◌, Bool, true, false, not, cond, List, [], ◌∷◌, ◌++◌, length, take, drop, map, Option, Some, None, Result, Ok, Err, refl, sym, subst, ap, ◌∙◌, arith}
use Rattle.std.specs.Prelude.{nat_lt, OnOk}
use Rattle.std.proofs.lemmas.Bool.Decides.{nat_tests}
use Rattle.std.proofs.lemmas.List.Sums.{prefix_len-le-length}
use Rattle.std.specs.List.{position, position_or_len, range_with_len, flat_map}
use Rattle.std.specs.Ordering.{is_lt}
use Rattle.names.specs.Tag.{tag_cmp}
use Rattle.fog_book.specs.declared.exposure.Exposure.{Exposure}
use Rattle.cells.specs.Cells.{Cells, Extent}
use Rattle.fog_book.specs.Exposures.{Fog, changed_at, blank_sets, is_behind, key, key_of, keys_on, with_each_seen, with_found, with_sets}

pub with_sets_at : (name : List ℕ) (fresh sets : List Exposure)
    → take (position_or_len (is_behind name) sets) sets ++ (fresh ++ drop (position_or_len (is_behind name) sets) sets) ≡ with_sets name fresh sets
with_sets_at name fresh [] = append_nil fresh
  where
    append_nil : (xs : List Exposure) → xs ++ [] ≡ xs
    append_nil [] = refl
    append_nil (x ∷ xs) = ap (λ l. x ∷ l) (append_nil xs)
with_sets_at name fresh (set ∷ sets) = here (is_lt (tag_cmp set.map name)) (with_sets_at name fresh sets)
  where
    next : (n : ℕ) → 1 + n ≡ suc n
    next n = omega arith

    here : (b : Bool) → take (position_or_len (is_behind name) sets) sets ++ (fresh ++ drop (position_or_len (is_behind name) sets) sets) ≡ with_sets name fresh sets
        → take (cond (not (not b)) (1 + position_or_len (is_behind name) sets) 0) (set ∷ sets) ++ (fresh ++ drop (cond (not (not b)) (1 + position_or_len (is_behind name) sets) 0) (set ∷ sets))
        ≡ cond b (set ∷ with_sets name fresh sets) (fresh ++ set ∷ sets)
    here true i = ap (λ n. take n (set ∷ sets) ++ (fresh ++ drop n (set ∷ sets))) (next (position_or_len (is_behind name) sets)) ∙ ap (λ l. set ∷ l) i
    here false i = refl

-- the place behind which no set is of a greater name
pub end_place : (name : List ℕ) (sets : List Exposure) → None ≡ position (is_behind name) sets → length sets ≡ position_or_len (is_behind name) sets
end_place name sets is = omega (arith, past (nat_lt (position_or_len (is_behind name) sets) (length sets)) (λ h. h) is, prefix_len-le-length (λ s. not (is_behind name s)) sets)
  where
    past : (b : Bool) → (b ≡ false → nat_lt (position_or_len (is_behind name) sets) (length sets) ≡ false) → None ≡ cond b (Some (position_or_len (is_behind name) sets)) None
        → length sets ≤ position_or_len (is_behind name) sets
    past true h e = cc
    past false h e = few (position_or_len (is_behind name) sets) (length sets) (h refl)
      where
        few : (m n : ℕ) → nat_lt m n ≡ false → n ≤ m
        few m n f = grind (arith, nat_tests)

-- the sets of a new map put in at their place
pub placed : (name : List ℕ) (size : Extent) (players place : ℕ) (before seen fresh after : List Exposure) → seen ≡ before → place ≡ position_or_len (is_behind name) seen → fresh ≡ blank_sets players name size
    → after ≡ take place before ++ (fresh ++ drop place before) → after ≡ with_sets name (blank_sets players name size) before
placed name size players place before seen fresh after same at new is =
    is ∙ ap (λ f. take place before ++ (f ++ drop place before)) new
    ∙ ap (λ n. take n before ++ (blank_sets players name size ++ drop n before)) (at ∙ ap (position_or_len (is_behind name)) same)
    ∙ with_sets_at name (blank_sets players name size) before

pub if_ok : {E P Q : Type 0} (result : Result (Unit {0}) E) → (P → Q) → OnOk result P → OnOk result Q
if_ok (Ok _) f p = f p
if_ok (Err _) f p = tt

-- ---- keys

pub keys-changed_at : (test : Exposure → Bool) (change : Cells → Cells) (sets : List Exposure) → map key_of (changed_at test change sets) ≡ map key_of sets
keys-changed_at test change [] = refl
keys-changed_at test change (set ∷ sets) = here (test set) (keys-changed_at test change sets)
  where
    here : (b : Bool) → map key_of (changed_at test change sets) ≡ map key_of sets
        → map key_of (cond b (record { seat = set.seat; map = set.map; cells = change set.cells } ∷ sets) (set ∷ changed_at test change sets)) ≡ map key_of (set ∷ sets)
    here true i = refl
    here false i = ap (λ l. key_of set ∷ l) i

key-with_found : (set : Exposure) (found : Option Cells) → key_of (with_found set found) ≡ key_of set
key-with_found set None = refl
key-with_found set (Some seen) = refl

pub keys-with_each_seen : (sets : List Exposure) (seen : List (Option Cells)) → map key_of (with_each_seen sets seen) ≡ map key_of sets
keys-with_each_seen [] seen = refl
keys-with_each_seen (set ∷ sets) [] = refl
keys-with_each_seen (set ∷ sets) (found ∷ seen) = λ i. key-with_found set found i ∷ keys-with_each_seen sets seen i

-- the same place among keys
abbrev pub with_keys : List ℕ → List (ℕ × List ℕ) → List (ℕ × List ℕ) → List (ℕ × List ℕ)
with_keys name fresh [] = fresh
with_keys name fresh (k ∷ keys) = cond (is_lt (tag_cmp k.1 name)) (k ∷ with_keys name fresh keys) (fresh ++ k ∷ keys)

map_append : {A B : Type 0} (f : A → B) (xs ys : List A) → map f (xs ++ ys) ≡ map f xs ++ map f ys
map_append f [] ys = refl
map_append f (x ∷ xs) ys = ap (λ l. f x ∷ l) (map_append f xs ys)

pub keys-with_sets : (name : List ℕ) (fresh sets : List Exposure) → map key_of (with_sets name fresh sets) ≡ with_keys name (map key_of fresh) (map key_of sets)
keys-with_sets name fresh [] = refl
keys-with_sets name fresh (set ∷ sets) = here (is_lt (tag_cmp set.map name)) (keys-with_sets name fresh sets)
  where
    here : (b : Bool) → map key_of (with_sets name fresh sets) ≡ with_keys name (map key_of fresh) (map key_of sets)
        → map key_of (cond b (set ∷ with_sets name fresh sets) (fresh ++ set ∷ sets)) ≡ cond b (key_of set ∷ with_keys name (map key_of fresh) (map key_of sets)) (map key_of fresh ++ key_of set ∷ map key_of sets)
    here true i = ap (λ l. key_of set ∷ l) i
    here false i = map_append key_of fresh (set ∷ sets)

one_more : (name : List ℕ) (k n : ℕ) → map (key name) (range_with_len k n) ++ key name (k + n) ∷ [] ≡ map (key name) (range_with_len k (suc n))
one_more name k zero = ap (λ m. key name m ∷ []) (omega arith)
one_more name k (suc n) = ap (λ l. key name k ∷ l) (ap (λ m. map (key name) (range_with_len (k + 1) n) ++ key name m ∷ []) (omega arith) ∙ one_more name (k + 1) n)

-- a new map's sets lie seat by seat
pub keys-blank_sets : (players : ℕ) (name : List ℕ) (size : Extent) → map key_of (blank_sets players name size) ≡ keys_on players name
keys-blank_sets zero name size = refl
keys-blank_sets (suc n) name size =
    map_append key_of (blank_sets n name size) _
    ∙ ap (λ l. l ++ key name (suc n) ∷ []) (keys-blank_sets n name size)
    ∙ ap (λ m. map (key name) (range_with_len 1 n) ++ key name m ∷ []) (omega arith)
    ∙ one_more name 1 n
