-- Parts that were written are read.
use Rattle.std.proofs.Common.{◌≡◌, ℕ, zero, suc, ◌+◌, ◌≤◌, ◌<◌, List, [], ◌∷◌, ◌++◌, length, map, Some, None, Result, Ok, refl, sym, ap, ◌∙◌, arith, true, ◌&&◌, cond, nat_le, decimal, subst}
use Rattle.std.specs.Prelude.{take, slice_get, nat_lt, ℤ, pos, negsuc, unsigned_abs, ◌^◌}
use Rattle.std.proofs.lemmas.List.{append-nil}
use Rattle.std.specs.List.{AllByRecursion, range_with_len}
use Rattle.std.proofs.lemmas.List.FromFn.{map-range_with_len_more}
use Rattle.std.proofs.lemmas.Bool.Decides.{nat_tests}
use Rattle.maps.proofs.NameLemmas.{and_first, and_second}
use Rattle.serde_json.specs.Data.{Data}
use Rattle.serde_json.specs.View.{items_of}
use Rattle.serde_json.specs.Events.{items_len, members_len}
use Rattle.serde_json.specs.Find.{get, at}
use Rattle.json_fields.specs.Kinds.{integer_of}
use Rattle.json_fields.specs.Objects.{◌>>=◌}
use Rattle.campaign_json.specs.declared.faults.BadCampaign.{BadCampaign}
use Rattle.campaign_json.specs.declared.faults.Rule.TheVariants.{Missing, Range}
use Rattle.campaign_json.specs.Reading.{needed, field, item_at, under, each, each_member, escaped}
use Rattle.campaign_json.specs.Kinds as kinds
use Rattle.campaign_writing.specs.Trees.{whole, integer, list, named}

-- ---- fields and items

-- a field that is there, of a value that stands for a
pub field_reads : {A : Type 0} (key : List ℕ) (kind : Data → Result A BadCampaign) (d v : Data) (a : A) → get key d ≡ Some v → kind v ≡ Ok a → field key kind d ≡ Ok a
field_reads key kind d v a there is = ap (λ o. under key (needed Missing o >>= kind)) there ∙ ap (under key) is

pub item_reads : {A : Type 0} (place : ℕ) (kind : Data → Result A BadCampaign) (d v : Data) (a : A) → at place d ≡ Some v → kind v ≡ Ok a → item_at place kind d ≡ Ok a
item_reads place kind d v a there is = ap (λ o. under (decimal place) (needed Missing o >>= kind)) there ∙ ap (under (decimal place)) is

-- ---- lists and objects, one part after the other

append_one : {A : Type 0} (done : List A) (x : A) (left : List A) → (done ++ x ∷ []) ++ left ≡ done ++ x ∷ left
append_one [] x left = refl
append_one (y ∷ done) x left = ap (λ l. y ∷ l) (append_one done x left)

length_one : {A : Type 0} (done : List A) (x : A) → length (done ++ x ∷ []) ≡ length done + 1
length_one [] x = refl
length_one (y ∷ done) x = let e = length_one done x in omega (arith, e)

-- Each part is read as one more of those before it: where f is what some parts come to, f of all comes out.
module _ {S A : Type 0} (f : List A → S) (all : List A) where
  module _ (read : ℕ → S → Data → Result S BadCampaign) (tree : A → Data) (one : (done : List A) (x : A) (left : List A) → done ++ x ∷ left ≡ all → read (length done) (f done) (tree x) ≡ Ok (f (done ++ x ∷ []))) where
    each_from : (done left : List A) → done ++ left ≡ all → each read (length done) (f done) (items_of (map tree left)) ≡ Ok (f all)
    each_from done [] e = ap (λ xs. Ok (f xs)) (sym (append-nil done) ∙ e)
    each_from done (x ∷ left) e =
        ap (λ r. under (decimal (length done)) r >>= λ next. each read (length done + 1) next (items_of (map tree left))) (one done x left e)
        ∙ ap (λ n. each read n (f (done ++ x ∷ [])) (items_of (map tree left))) (sym (length_one done x))
        ∙ each_from (done ++ x ∷ []) left (append_one done x left ∙ e)

    pub each_reads : each read 0 (f []) (items_of (map tree all)) ≡ Ok (f all)
    each_reads = each_from [] all refl

module _ {S V : Type 0} (f : List (List ℕ × V) → S) (all : List (List ℕ × V)) (read : List ℕ → S → Data → Result S BadCampaign) (tree : V → Data) (one : (done : List (List ℕ × V)) (x : List ℕ × V) (left : List (List ℕ × V)) → done ++ x ∷ left ≡ all → read x.0 (f done) (tree x.1) ≡ Ok (f (done ++ x ∷ []))) where
  members_from : (done left : List (List ℕ × V)) → done ++ left ≡ all → each_member read (f done) (named tree left) ≡ Ok (f all)
  members_from done [] e = ap (λ xs. Ok (f xs)) (sym (append-nil done) ∙ e)
  members_from done (x ∷ left) e =
      ap (λ r. under (escaped x.0) r >>= λ next. each_member read next (named tree left)) (one done x left e)
      ∙ members_from (done ++ x ∷ []) left (append_one done x left ∙ e)

  pub members_read : each_member read (f []) (named tree all) ≡ Ok (f all)
  members_read = members_from [] all refl

-- ---- how many they are

pub items_len-of : (ds : List Data) → items_len (items_of ds) ≡ length ds
items_len-of [] = refl
items_len-of (d ∷ ds) = ap suc (items_len-of ds)

pub length-map : {A B : Type 0} (f : A → B) (xs : List A) → length (map f xs) ≡ length xs
length-map f [] = refl
length-map f (x ∷ xs) = ap suc (length-map f xs)

pub members_len-of : {V : Type 0} (tree : V → Data) (all : List (List ℕ × V)) → members_len (named tree all) ≡ length all
members_len-of tree [] = refl
members_len-of tree (x ∷ all) = ap suc (members_len-of tree all)

pub in_range : (least most n : ℕ) → least ≤ n → n ≤ most → (nat_le least n && nat_le n most) ≡ true
in_range least most n low high = grind arith

pub list_reads : {A : Type 0} (least most : ℕ) (tree : A → Data) (all : List A) → least ≤ length all → length all ≤ most → kinds.list least most (list (map tree all)) ≡ Ok (items_of (map tree all))
list_reads least most tree all low high =
    let len : items_len (items_of (map tree all)) ≡ length all = items_len-of (map tree all) ∙ length-map tree all in
    ap (λ b. needed Range (cond b (Some (items_of (map tree all))) None))
    (in_range least most (items_len (items_of (map tree all))) (omega (arith, len, low)) (omega (arith, len, high)))

pub members_reads : {V : Type 0} (most : ℕ) (tree : V → Data) (all : List (List ℕ × V)) → length all ≤ most → kinds.members most (Data.object (named tree all)) ≡ Ok (named tree all)
members_reads most tree all high =
    let len : members_len (named tree all) ≡ length all = members_len-of tree all in
    let few : nat_le (members_len (named tree all)) most ≡ true = grind (arith, len) in
    rw few

-- ---- numbers

small : (n : ℕ) → n < 2 ^ 63 → integer_of (whole n) ≡ Some (pos n)
small n lt = let b : nat_lt n (2 ^ 63) ≡ true = grind arith in rw b

pub in_bounds : (least most n : ℕ) → (nat_le least n && nat_le n most) ≡ true → (least ≤ n) × (n ≤ most)
in_bounds least most n h = (le_of (and_first (nat_le least n) (nat_le n most) h), le_of (and_second (nat_le least n) (nat_le n most) h))
  where
    le_of : {a b : ℕ} → nat_le a b ≡ true → a ≤ b
    le_of {a} {b} e = grind (arith, nat_tests)

pub whole_reads : (least most n : ℕ) → most < 2 ^ 63 → (nat_le least n && nat_le n most) ≡ true → kinds.whole least most (whole n) ≡ Ok n
whole_reads least most n lt fits = rw (small n (let high = (in_bounds least most n fits).1 in omega (arith, lt, high)), fits)

pub integer_reads : (n : ℕ) → n < 2 ^ 63 → kinds.integer (whole n) ≡ Ok (pos n)
integer_reads n lt = rw (small n lt)

-- with a sign
pub signed_reads : (z : ℤ) → unsigned_abs z ≤ 20 → kinds.integer (integer z) ≡ Ok z
signed_reads (pos n) low = integer_reads n (omega (arith, low))
signed_reads (negsuc n) low = refl

pub items_reads : (ds : List Data) → kinds.items (list ds) ≡ Ok (items_of ds)
items_reads ds = refl

-- ---- texts

pub text_reads : (least most : ℕ) (bytes : List ℕ) → (nat_le least (length bytes) && nat_le (length bytes) most) ≡ true → kinds.text least most (Data.string bytes) ≡ Ok bytes
text_reads least most bytes h = rw h

-- ---- lists made in a loop

-- one more in a list of what a function gives for each number
pub one_more : {A : Type 0} (f : ℕ → A) (n : ℕ) (xs : List A) (x : A) → xs ≡ map f (range_with_len 0 n) → x ≡ f n → xs ++ x ∷ [] ≡ map f (range_with_len 0 (n + 1))
one_more f n xs x e is = (λ i. e i ++ is i ∷ []) ∙ sym (map-range_with_len_more f 0 n n (omega arith))

pub map_one_more : {V A : Type 0} (view : V → A) (f : ℕ → A) (n : ℕ) (vs ws : List V) (v : V) → ws ≡ vs ++ v ∷ [] → map view vs ≡ map f (range_with_len 0 n) → view v ≡ f n → map view ws ≡ map f (range_with_len 0 (n + 1))
map_one_more view f n vs ws v new e is = ap (map view) new ∙ map_snoc vs ∙ one_more f n (map view vs) (view v) e is
  where
    map_snoc : (xs : List _) → map view (xs ++ v ∷ []) ≡ map view xs ++ view v ∷ []
    map_snoc [] = refl
    map_snoc (x ∷ xs) = ap (λ l. view x ∷ l) (map_snoc xs)

pub take_next : {A : Type 0} (n : ℕ) (xs : List A) (x : A) → slice_get xs n ≡ Some x → take (suc n) xs ≡ take n xs ++ x ∷ []
take_next n [] x h = absurd cc
take_next zero (y ∷ xs) x h = let e : y ≡ x = cc in ap (λ z. z ∷ []) e
take_next (suc n) (y ∷ xs) x h = ap (λ l. y ∷ l) (take_next n xs x h)

map_append_one : {A B : Type 0} (f : A → B) (xs : List A) (x : A) → map f (xs ++ x ∷ []) ≡ map f xs ++ f x ∷ []
map_append_one f [] x = refl
map_append_one f (y ∷ xs) x = ap (λ l. f y ∷ l) (map_append_one f xs x)

-- one more in a list of what a function gives for each element
pub taken_one_more : {V A B : Type 0} (view : V → B) (f : A → B) (n : ℕ) (xs : List A) (x : A) (vs ws : List V) (v : V) → ws ≡ vs ++ v ∷ [] → slice_get xs n ≡ Some x → map view vs ≡ map f (take n xs) → view v ≡ f x → map view ws ≡ map f (take (n + 1) xs)
taken_one_more view f n xs x vs ws v new at e is =
    let next : suc n ≡ n + 1 = omega arith in
    ap (map view) new ∙ map_append_one view vs v ∙ (λ i. e i ++ is i ∷ []) ∙ sym (map_append_one f (take n xs) x) ∙ ap (map f) (sym (take_next n xs x at)) ∙ ap (λ k. map f (take k xs)) next

-- ---- what is told of each element

told_last : {A : Type 0} (P : A → Type 0) (ys : List A) (x : A) → AllByRecursion P ys → P x → AllByRecursion P (ys ++ x ∷ [])
told_last P [] x h is = (is, tt)
told_last P (y ∷ ys) x h is = (h.0, told_last P ys x h.1 is)

-- what holds of the first elements, and of the next one, holds of one more
pub told_one_more : {A : Type 0} (P : A → Type 0) (n : ℕ) (xs : List A) (x : A) → slice_get xs n ≡ Some x → AllByRecursion P (take n xs) → P x → AllByRecursion P (take (n + 1) xs)
told_one_more P n xs x at h is =
    let next : suc n ≡ n + 1 = omega arith in
    subst (λ k. AllByRecursion P (take k xs)) next (subst (AllByRecursion P) (sym (take_next n xs x at)) (told_last P (take n xs) x h is))

take_length : {A : Type 0} (ys : List A) → take (length ys) ys ≡ ys
take_length [] = refl
take_length (y ∷ ys) = ap (λ l. y ∷ l) (take_length ys)

-- as many as there are
pub whole_taken : {A : Type 0} (n : ℕ) (xs : List A) → n ≡ length xs → take n xs ≡ xs
whole_taken n xs count = ap (λ k. take k xs) count ∙ take_length xs
