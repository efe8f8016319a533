-- What std's ordered maps say of their entries, in the words of `FinMap`.
use Rattle.std.proofs.Common.{◌≡◌, ◌≢◌, ◌≤◌, ◌+◌, ℕ, true, false, cond, ◌&&◌, List, [], ◌∷◌, length, Some, None, refl, ap, subst, ◌∙◌, arith}
use Rattle.std.specs.Prelude.{Option, is_some, not, nat_le, if◌then◌else◌}
use Rattle.std.proofs.lemmas.Bool.Decides.{nat_tests}
use Rattle.std.specs.Ordering.{eq_by_cmp}
use Rattle.std.specs.Cmp.Lexicographic.{nat_list_cmp_total}
use Rattle.std.specs.FinMap.{nat_cmp-IsAntisymmetric, slice_cmp-IsAntisymmetric}
use Rattle.type_table.specs.Types.{type_of, with_type, lacks_room}
use Rattle.std.specs.declared.cmp.Ordering.{Ordering}
use Rattle.std.specs.declared.cmp.Ordering.TheVariants.{Less, Equal, Greater}
use Rattle.std.specs.Ordering.{is_eq, is_lt, match_ordering}
use Rattle.std.specs.List.{AllByRecursion}
use Rattle.std.specs.List.Sorted.{IsStrictlySortedBy}
use Rattle.std.specs.Map.{keys_of, lookup}
use Rattle.std.specs.BTreeMap.{is_at, insert_entry}
use Rattle.std.specs.FinMap.Entries.{by_order, find, put, below_all, is_sorted, find-put}
use Rattle.std.proofs.lemmas.Map.Keys.{sorted_head, sorted_tail}
use Rattle.names.specs.Tag.{tag_cmp}

module _ {K X : Type 0} (R : K → K → Ordering) where
  pub insert_entry-put : (es : List (K × X)) (k : K) (v : X) → insert_entry R es k v ≡ put R k v es
  insert_entry-put [] k v = refl
  insert_entry-put (e ∷ es) k v = here (R k e.0) (insert_entry-put es k v)
    where
      here : (r : Ordering) → insert_entry R es k v ≡ put R k v es
          → match_ordering r ((k, v) ∷ e ∷ es) ((e.0, v) ∷ es) (e ∷ insert_entry R es k v) ≡ by_order r ((k, v) ∷ e ∷ es) ((e.0, v) ∷ es) (e ∷ put R k v es)
      here Less i = refl
      here Equal i = refl
      here Greater i = ap (λ rest. e ∷ rest) i

  pub lookup-find : (q : K) (es : List (K × X)) → lookup (is_at (R q)) es ≡ find R q es
  lookup-find q [] = refl
  lookup-find q (e ∷ es) = ap (λ rest. cond (is_eq (R q e.0)) (Some e.1) rest) (lookup-find q es)

  below_all-from_sorted : (k : K) (es : List (K × X)) → AllByRecursion (λ y. R k y ≡ Less) (keys_of es) → below_all R k es ≡ true
  below_all-from_sorted k [] h = refl
  below_all-from_sorted k (e ∷ es) h = ap (λ r. is_lt r && below_all R k es) h.0 ∙ below_all-from_sorted k es h.1

  pub is_sorted-from_sorted : (es : List (K × X)) → IsStrictlySortedBy R (keys_of es) → is_sorted R es ≡ true
  is_sorted-from_sorted [] h = refl
  is_sorted-from_sorted (e ∷ es) h =
      ap (λ b. b && is_sorted R es) (below_all-from_sorted e.0 es (sorted_head R e.0 (keys_of es) h))
      ∙ is_sorted-from_sorted es (sorted_tail R e.0 (keys_of es) h)

-- the same at names
pub inserted : {X : Type 0} (es : List (List ℕ × X)) (k : List ℕ) (v : X) → insert_entry tag_cmp es k v ≡ put tag_cmp k v es
inserted es k v = insert_entry-put tag_cmp es k v

pub looked_up : {X : Type 0} (q : List ℕ) (es : List (List ℕ × X)) → lookup (is_at (tag_cmp q)) es ≡ find tag_cmp q es
looked_up q es = lookup-find tag_cmp q es

pub sorted : {X : Type 0} (es : List (List ℕ × X)) → IsStrictlySortedBy tag_cmp (keys_of es) → is_sorted tag_cmp es ≡ true
sorted es h = is_sorted-from_sorted tag_cmp es h

-- what other names say after a change at one
apart : (q k : List ℕ) → q ≢ k → eq_by_cmp tag_cmp q k ≡ false
apart q k differ = here (tag_cmp q k) (λ tied. differ (slice_cmp-IsAntisymmetric nat_cmp-IsAntisymmetric q k tied))
  where
    here : (r : Ordering) → (r ≡ Equal → ⊥) → is_eq r ≡ false
    here Less h = refl
    here Equal h = absurd (h refl)
    here Greater h = refl

pub type_of-with_type_apart : {X : Type 0} (q k : List ℕ) (v : X) (es : List (List ℕ × X)) → q ≢ k → type_of q (with_type k v es) ≡ type_of q es
type_of-with_type_apart q k v es differ =
    find-put tag_cmp nat_list_cmp_total q k v es ∙ ap (λ b. cond b (Some v) (find tag_cmp q es)) (apart q k differ)

-- after an insert where there was room the types are few still
below_limit : (n m : ℕ) → nat_le 32 n ≡ false → m ≡ n + 1 → m ≤ 32
below_limit n m h e = grind (arith, nat_tests)

pub few_after_insert : {X : Type 0} (name : List ℕ) (es fs : List (List ℕ × X)) (old : Option X) → lacks_room name es ≡ false → length es ≤ 32
    → old ≡ type_of name es → length fs ≡ length es + (if is_some old then 0 else 1) → length fs ≤ 32
few_after_insert {X} name es fs old room few is len =
    here (type_of name es) room (subst (λ o. length fs ≡ length es + (if is_some o then 0 else 1)) is len)
  where
    here : (o : Option X) → (not (is_some o) && nat_le 32 (length es)) ≡ false → length fs ≡ length es + (if is_some o then 0 else 1) → length fs ≤ 32
    here (Some x) r l = omega arith
    here None r l = below_limit (length es) (length fs) r l
