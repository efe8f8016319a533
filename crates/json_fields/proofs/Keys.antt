-- The first unknown key.
use Rattle.std.proofs.Common.{◌≢◌, Option, Ordering, Less, Equal, Greater, is_eq, nat_cmp, string_cmp, subst, true≢false, ◌≡◌, ℕ, Bool, true, false, cond, ◌||◌, List, [], ◌∷◌, map, Some, None, refl, sym, ◌∙◌, ap}
use Rattle.std.proofs.lemmas.Bool.{false≢true}
use Rattle.std.proofs.lemmas.Cmp.{nat_list_cmp_total}
use Rattle.std.proofs.lemmas.Map.Text.{is_eq-slice_cmp}
use Rattle.std.proofs.lemmas.Slice.Eq.{bytes_eq-Decides}
use Rattle.std.specs.Cmp.Lexicographic.{slice_cmp}
use Rattle.std.specs.List.{AllByRecursion}
use Rattle.std.specs.List.Sorted.{IsStrictlySortedBy}
use Rattle.std.specs.Map.{keys_of}
use Rattle.std.specs.Ordering.{match_ordering}
use Rattle.serde_json.specs.Data.{Data, null, boolean, number, string, array, object, Members, no_members, member}
use Rattle.serde_json.specs.Find.{get_member}
use Rattle.std.specs.Prelude.{IsSome, String, string_bytes}
use Rattle.std.specs.Borrow.{Bor}
use Rattle.std.specs.List.{list_any}
use Rattle.std.specs.Str.{bytes_eq}
use Rattle.std.specs.declared.alloc.Global.{Global}
use Rattle.serde_json.specs.declared.value.Value.{Value}
use Rattle.serde_json.specs.View.{view, members_view}
use Rattle.json_fields.specs.Fields.{unknown_in, unknown_member, IsLeastUnknown, IsLeastUnknownIn}
use Rattle.json_fields.specs.Order.{IsBelow, KeysRise, HasRisingKeys}

pub list_any_map : {A B : Type 0} (p : B → Bool) (f : A → B) (xs : List A) → list_any p (map f xs) ≡ list_any (λ x. p (f x)) xs
list_any_map p f [] = refl
list_any_map p f (x ∷ xs) = ap (λ r. p (f x) || r) (list_any_map p f xs)

-- a key at the front that isn't known
pub unknown_found : (known : List (Bor (List ℕ))) (key : List ℕ) (k : String Global) (d : Value) (left next : List (String Global × Value)) → left ≡ (k, d) ∷ next → key ≡ string_bytes k → list_any (λ x. bytes_eq x.now key) known ≡ false → Some key ≡ unknown_member (map (λ x. x.now) known) (members_view left)
unknown_found known key k d left next e s h =
    sym (ap (λ l. unknown_member (map (λ x. x.now) known) (members_view l)) e
    ∙ ap (λ t. cond t (unknown_member (map (λ x. x.now) known) (members_view next)) (Some (string_bytes k))) (list_any_map (λ x. bytes_eq x (string_bytes k)) (λ x. x.now) known ∙ ap (λ q. list_any (λ x. bytes_eq x.now q) known) (sym s) ∙ h)
    ∙ ap Some (sym s))

pub unknown_passed : (known : List (Bor (List ℕ))) (key : List ℕ) (k : String Global) (d : Value) (left next : List (String Global × Value)) → left ≡ (k, d) ∷ next → key ≡ string_bytes k → list_any (λ x. bytes_eq x.now key) known ≡ true → unknown_member (map (λ x. x.now) known) (members_view next) ≡ unknown_member (map (λ x. x.now) known) (members_view left)
unknown_passed known key k d left next e s h =
    sym (ap (λ l. unknown_member (map (λ x. x.now) known) (members_view l)) e
    ∙ ap (λ t. cond t (unknown_member (map (λ x. x.now) known) (members_view next)) (Some (string_bytes k))) (list_any_map (λ x. bytes_eq x (string_bytes k)) (λ x. x.now) known ∙ ap (λ q. list_any (λ x. bytes_eq x.now q) known) (sym s) ∙ h))

-- ---- the first unknown key is the least one, since an object has its keys in order

-- a key that is below a bound has no value among members above it
none_above : (other bound : List ℕ) (ms : Members) → slice_cmp nat_cmp other bound ≡ Less → IsBelow bound ms → get_member other ms ≡ None
none_above other bound no_members h above = refl
none_above other bound (member key d ms) h above =
    let less : slice_cmp nat_cmp other key ≡ Less = nat_list_cmp_total.trans other bound key h above.0 in
    rw less (none_above other bound ms h above.1)

-- an unknown key isn't the known one at the front, so its value is further on
passed_known : (known : List (List ℕ)) (other : List ℕ) (order : Ordering) (key : List ℕ) (d : Data) (rest : Option Data) → slice_cmp nat_cmp other key ≡ order → list_any (λ name. bytes_eq name key) known ≡ true
    → list_any (λ name. bytes_eq name other) known ≡ false → IsSome (match_ordering order rest (Some d) rest) → IsSome rest
passed_known known other Less key d rest is k u some = some
passed_known known other Greater key d rest is k u some = some
passed_known known other Equal key d rest is k u some =
    let same : other ≡ key = (bytes_eq-Decides other key).0 (sym (is_eq-slice_cmp other key) ∙ ap is_eq is) in
    absurd (true≢false (sym k ∙ ap (λ name. list_any (λ x. bytes_eq x name) known) (sym same) ∙ u))

not_below : (other key : List ℕ) (d : Data) (ms : Members) → IsBelow key ms → IsSome (get_member other (member key d ms)) → slice_cmp nat_cmp other key ≢ Less
not_below other key d ms above some less =
    let missing : get_member other (member key d ms) ≡ None = rw less (none_above other key ms less above) in
    absurd (false≢true (subst IsSome missing some))

module _ (known : List (List ℕ)) where
  least_from : (ms : Members) (key : List ℕ) → KeysRise ms → Some key ≡ unknown_member known ms
      → (other : List ℕ) → IsSome (get_member other ms) → list_any (λ name. bytes_eq name other) known ≡ false → slice_cmp nat_cmp other key ≢ Less
  least_from no_members key rise e other some unknown = absurd (false≢true some)
  least_from (member front d ms) key rise e other some unknown = by (list_any (λ name. bytes_eq name front) known) refl e (λ found more. least_from ms key rise.1 found other more unknown)
    where
      by : (test : Bool) → list_any (λ name. bytes_eq name front) known ≡ test → Some key ≡ cond test (unknown_member known ms) (Some front)
          → (Some key ≡ unknown_member known ms → IsSome (get_member other ms) → slice_cmp nat_cmp other key ≢ Less) → slice_cmp nat_cmp other key ≢ Less
      by true k found again = again found (passed_known known other _ front d _ refl k unknown some)
      by false k found again =
          let same : front ≡ key = cc in
          subst (λ x. slice_cmp nat_cmp other x ≢ Less) same (not_below other front d ms rise.0 some)

  -- the key is there, and isn't known
  there_from : (ms : Members) (key : List ℕ) → Some key ≡ unknown_member known ms → IsSome (get_member key ms) × (list_any (λ name. bytes_eq name key) known ≡ false)
  there_from no_members key e = absurd (let never : ⊥ = cc in never)
  there_from (member front d ms) key e = by (list_any (λ name. bytes_eq name front) known) refl e (there_from ms key)
    where
      passed : (order : Ordering) (rest : Option Data) → IsSome rest → IsSome (match_ordering order rest (Some d) rest)
      passed Less rest h = h
      passed Equal rest h = refl
      passed Greater rest h = h

      equal : (order : Ordering) (rest : Option Data) → is_eq order ≡ true → IsSome (match_ordering order rest (Some d) rest)
      equal Less rest h = absurd (false≢true h)
      equal Equal rest h = refl
      equal Greater rest h = absurd (false≢true h)

      itself : (name : List ℕ) (rest : Option Data) → IsSome (match_ordering (slice_cmp nat_cmp name name) rest (Some d) rest)
      itself name rest = equal (slice_cmp nat_cmp name name) rest (is_eq-slice_cmp name name ∙ (bytes_eq-Decides name name).1 refl)

      by : (test : Bool) → list_any (λ name. bytes_eq name front) known ≡ test → Some key ≡ cond test (unknown_member known ms) (Some front)
          → (Some key ≡ unknown_member known ms → IsSome (get_member key ms) × (list_any (λ name. bytes_eq name key) known ≡ false))
          → IsSome (get_member key (member front d ms)) × (list_any (λ name. bytes_eq name key) known ≡ false)
      by true k found again = let rest = again found in (passed (slice_cmp nat_cmp key front) _ rest.0, rest.1)
      by false k found again =
          let same : front ≡ key = cc in
          subst (λ name. IsSome (get_member name (member front d ms)) × (list_any (λ n. bytes_eq n name) known ≡ false)) same (itself front _, k)

  least_of : (ms : Members) (key : List ℕ) → KeysRise ms → Some key ≡ unknown_member known ms → IsLeastUnknown known ms key
  least_of ms key rise e =
      let there = there_from ms key e in
      record { there = there.0; unknown = there.1; least = least_from ms key rise e }

  -- the first unknown key of a value is its least
  pub least_in : (d : Data) (key : List ℕ) → HasRisingKeys d → unknown_in known d ≡ Some key → IsLeastUnknownIn known d key
  least_in null key rise e = tt
  least_in (boolean b) key rise e = tt
  least_in (number n) key rise e = tt
  least_in (string s) key rise e = tt
  least_in (array ds) key rise e = tt
  least_in (object ms) key rise e = least_of ms key rise.0 (sym e)

-- ---- the same of the entries of an object

abbrev Entry : Type 0
Entry = String Global × Value

below_entries : (key : List ℕ) (entries : List Entry) → AllByRecursion (λ (k : String Global). slice_cmp nat_cmp key (string_bytes k) ≡ Less) (keys_of entries) → IsBelow key (members_view entries)
below_entries key [] h = tt
below_entries key (e ∷ entries) h = (h.0, below_entries key entries h.1)

rising_entries : (entries : List Entry) → IsStrictlySortedBy string_cmp (keys_of entries) → KeysRise (members_view entries)
unfolding IsStrictlySortedBy
rising_entries [] sorted = tt
rising_entries (e ∷ entries) sorted = (below_entries (string_bytes e.0) entries sorted.0, rising_entries entries sorted.1)

pub least_unknown : (known : List (List ℕ)) (entries : List Entry) (key : List ℕ) → IsStrictlySortedBy string_cmp (keys_of entries) → Some key ≡ unknown_member known (members_view entries)
    → IsLeastUnknown known (members_view entries) key
least_unknown known entries key sorted e = least_of known (members_view entries) key (rising_entries entries sorted) e
