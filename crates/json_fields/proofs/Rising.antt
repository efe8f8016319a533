-- In a value that was read, the keys of each object rise.
use Rattle.std.proofs.Common.{◌≡◌, ℕ, Bool, true, false, cond, List, Option, Some, None, Ordering, Less, Equal, Greater, option_and_then, refl, sym, ap, subst, ◌∙◌, nat_cmp}
use Rattle.std.specs.Prelude.{option_map}
use Rattle.std.specs.Str.{is_utf8}
use Rattle.std.specs.Ordering.{match_ordering, ordering_reverse}
use Rattle.std.specs.Cmp.Lexicographic.{slice_cmp}
use Rattle.std.proofs.lemmas.Cmp.{nat_list_cmp_total}
use Rattle.json.specs.Json as json
use Rattle.json.specs.Token.{Token}
use Rattle.json.specs.Lex.{tokens}
use Rattle.serde_json.specs.Data.{Data, array, object, number, Items, no_items, item, Members, no_members, member, put, Num}
use Rattle.serde_json.specs.Read.{number_of, of_json, of_items, of_members, max_depth, read}
use Rattle.json_fields.specs.Order.{IsBelow, KeysRise, HasRisingKeys, HaveRisingKeys, ValuesHaveRisingKeys}
use Rattle.json_fields.specs.Values.{value_of}

-- ---- one member more

below_rest : (key other : List ℕ) (ms : Members) → slice_cmp nat_cmp key other ≡ Less → IsBelow other ms → IsBelow key ms
below_rest key other no_members less h = tt
below_rest key other (member k d ms) less h = (nat_list_cmp_total.trans key other k less h.0, below_rest key other ms less h.1)

less_from : (k l : List ℕ) → slice_cmp nat_cmp k l ≡ Greater → slice_cmp nat_cmp l k ≡ Less
less_from k l h = nat_list_cmp_total.antisymm l k ∙ ap ordering_reverse h

below_put : (key k : List ℕ) (d : Data) (ms : Members) → slice_cmp nat_cmp key k ≡ Less → IsBelow key ms → IsBelow key (put k d ms)
below_put key k d no_members less h = (less, tt)
below_put key k d (member l e ms) less h = by (slice_cmp nat_cmp k l) (below_put key k d ms less h.1)
  where
    by : (r : Ordering) → IsBelow key (put k d ms) → IsBelow key (match_ordering r (member k d (member l e ms)) (member l d ms) (member l e (put k d ms)))
    by Less rest = (less, h)
    by Equal rest = h
    by Greater rest = (h.0, rest)

keys-put : (k : List ℕ) (d : Data) (ms : Members) → KeysRise ms → KeysRise (put k d ms)
keys-put k d no_members h = (tt, tt)
keys-put k d (member l e ms) h = by (slice_cmp nat_cmp k l) refl (keys-put k d ms h.1)
  where
    by : (r : Ordering) → slice_cmp nat_cmp k l ≡ r → KeysRise (put k d ms) → KeysRise (match_ordering r (member k d (member l e ms)) (member l d ms) (member l e (put k d ms)))
    by Less is rest = ((is, below_rest k l ms is h.0), h)
    by Equal is rest = h
    by Greater is rest = (below_put l k d ms (less_from k l is) h.0, rest)

values-put : (k : List ℕ) (d : Data) (ms : Members) → HasRisingKeys d → ValuesHaveRisingKeys ms → ValuesHaveRisingKeys (put k d ms)
values-put k d no_members one h = (one, tt)
values-put k d (member l e ms) one h = by (slice_cmp nat_cmp k l) (values-put k d ms one h.1)
  where
    by : (r : Ordering) → ValuesHaveRisingKeys (put k d ms) → ValuesHaveRisingKeys (match_ordering r (member k d (member l e ms)) (member l d ms) (member l e (put k d ms)))
    by Less rest = (one, h)
    by Equal rest = (one, h.1)
    by Greater rest = (h.0, rest)

-- ---- values

-- what is read has rising keys, where anything is
abbrev IfRead : {A : Type 0} → (A → Type 0) → Option A → Type 0
IfRead P None = Unit {0}
IfRead P (Some x) = P x

mapped : {A B : Type 0} (P : A → Type 0) (Q : B → Type 0) (f : A → B) → ((x : A) → P x → Q (f x)) → (o : Option A) → IfRead P o → IfRead Q (option_map f o)
mapped P Q f h None p = tt
mapped P Q f h (Some x) p = h x p

then : {A B : Type 0} (P : A → Type 0) (Q : B → Type 0) (f : A → Option B) → ((x : A) → P x → IfRead Q (f x)) → (o : Option A) → IfRead P o → IfRead Q (option_and_then f o)
then P Q f h None p = tt
then P Q f h (Some x) p = h x p

abbrev AllRise : Members → Type 0
AllRise ms = KeysRise ms × ValuesHaveRisingKeys ms

any_number : (o : Option Num) → IfRead HasRisingKeys (option_map number o)
any_number None = tt
any_number (Some n) = tt

mutual
  rising_json : (j : json.Json) → IfRead HasRisingKeys (of_json j)
  rising_json json.null = tt
  rising_json (json.boolean b) = tt
  rising_json (json.number s) = any_number (number_of s)
  rising_json (json.string s) = tt
  rising_json (json.array js) = mapped HaveRisingKeys HasRisingKeys array (λ items h. h) (of_items js) (rising_items js)
  rising_json (json.object ms) = mapped AllRise HasRisingKeys object (λ members h. h) (of_members ms no_members) (rising_members ms no_members (tt, tt))

  rising_items : (js : json.Items) → IfRead HaveRisingKeys (of_items js)
  rising_items json.no_items = tt
  rising_items (json.item j js) =
      then HasRisingKeys HaveRisingKeys (λ d. option_map (item d) (of_items js)) (λ d one. mapped HaveRisingKeys HaveRisingKeys (item d) (λ rest h. (one, h)) (of_items js) (rising_items js))
      (of_json j) (rising_json j)

  rising_members : (ms : json.Members) (found : Members) → AllRise found → IfRead AllRise (of_members ms found)
  rising_members json.no_members found h = h
  rising_members (json.member k j ms) found h =
      then HasRisingKeys AllRise (λ d. of_members ms (put k d found)) (λ d one. rising_members ms (put k d found) (keys-put k d found h.0, values-put k d found one h.1))
      (of_json j) (rising_json j)

rising_after : (o : Option json.Json) → IfRead HasRisingKeys (option_and_then of_json o)
rising_after None = tt
rising_after (Some j) = rising_json j

rising_value : (bytes : List ℕ) → IfRead HasRisingKeys (value_of bytes)
unfolding value_of
rising_value bytes = by (is_utf8 bytes)
  where
    by : (b : Bool) → IfRead HasRisingKeys (cond b (read bytes) None)
    by true = rising_after (option_and_then (λ p. json.if_last p.0 p.1) (json.value max_depth (tokens bytes)))
    by false = tt

-- the keys of each object of what was read rise
pub rising_keys : (bytes : List ℕ) (d : Data) → value_of bytes ≡ Some d → HasRisingKeys d
rising_keys bytes d is = subst (IfRead HasRisingKeys) is (rising_value bytes)
