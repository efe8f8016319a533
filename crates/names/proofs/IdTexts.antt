-- Reading an id's text, and writing it, undo each other.
use Rattle.std.proofs.Common.{◌≡◌, ℕ, suc, ◌+◌, ◌-◌, ◌*◌, ◌/◌, ◌%◌, ◌<◌, ◌≤◌, ◌≢◌, Bool, true, false, cond, not, ◌&&◌, leb, List, [], ◌∷◌, ◌++◌, length, take, drop, get_or, Some, None, Option, refl, sym, ◌∙◌, ap, arith, ◌⊎◌, inl, inr, ⊎_elim}
use Rattle.std.specs.Prelude.{option_map, unwrap_or}
use Rattle.std.specs.List.{before_first, after_first, position, position_or_len, list_all}
use Rattle.std.specs.Char.{is_ascii_digit}
use Rattle.std.specs.Fmt.{decimal}
use Rattle.std.proofs.lemmas.Bool.{cases_lt}
use Rattle.std.proofs.lemmas.Bool.Decides.{nat_tests, Decides-eqb}
use Rattle.std.proofs.lemmas.Fmt.{decimal_digit, decimal_step}
use Rattle.std.proofs.lemmas.List.Sums.{split_at_first, passes_at_first}
use Rattle.std.proofs.lemmas.List.{drop_all, length-drop, take_all}
use Rattle.std.proofs.Math.Seq.{take-append_seam, drop-append-add}
use Rattle.names.specs.declared.token_id.TokenId.{TokenId}
use Rattle.names.specs.Tag.{is_tag}
use Rattle.names.specs.TokenId.{colon, is_colon, number_of, maker_of, id_of, id_of_parts, id_text, IsTokenId}

-- ---- the maker's digits

-- one digit, or two
digits_of_maker : (m : ℕ) → m ≤ 32 → ((m < 10) × (decimal m ≡ (48 + m) ∷ [])) ⊎ ((10 ≤ m) × (decimal m ≡ (48 + m / 10) ∷ (48 + m % 10) ∷ []))
digits_of_maker m h = ⊎_elim
    (λ (small : m < 10). inl (small, decimal_digit m small))
    (λ (large : 10 ≤ m). inr (large, decimal_step m large (omega arith) ∙ ap (λ front. front ++ (48 + m % 10) ∷ []) (decimal_digit (m / 10) (omega arith))))
    (cases_lt m 10)

one_digit : (m : ℕ) → m < 10 → maker_of ((48 + m) ∷ []) ≡ Some m
unfolding maker_of
one_digit m h =
    let digit : is_ascii_digit (48 + m) ≡ true = grind (arith, nat_tests) in
    ap (λ t. cond t (Some (number_of 48 (48 + m))) None) digit ∙ ap (λ n. Some n) (omega arith)

two_digits : (tens ones : ℕ) → 1 ≤ tens → tens < 10 → ones < 10 → 10 * tens + ones ≤ 32 → maker_of ((48 + tens) ∷ (48 + ones) ∷ []) ≡ Some (10 * tens + ones)
unfolding maker_of
two_digits tens ones a b c d =
    let same : number_of (48 + tens) (48 + ones) ≡ 10 * tens + ones = omega arith in
    let fits : (is_ascii_digit (48 + tens) && is_ascii_digit (48 + ones) && leb 49 (48 + tens) && leb (number_of (48 + tens) (48 + ones)) 32) ≡ true = grind (arith, nat_tests) in
    ap (λ t. cond t (Some (number_of (48 + tens) (48 + ones))) None) fits ∙ ap (λ n. Some n) same

maker_of-decimal : (m : ℕ) → m ≤ 32 → maker_of (decimal m) ≡ Some m
maker_of-decimal m h = ⊎_elim
    (λ (p : (m < 10) × (decimal m ≡ (48 + m) ∷ [])). ap maker_of p.1 ∙ one_digit m p.0)
    (λ (p : (10 ≤ m) × (decimal m ≡ (48 + m / 10) ∷ (48 + m % 10) ∷ [])). let large : 10 ≤ m = p.0 in ap maker_of p.1 ∙ two_digits (m / 10) (m % 10) (omega arith) (omega arith) (omega arith) (omega arith) ∙ ap (λ n. Some n) (omega arith))
    (digits_of_maker m h)

some_of : (t : Bool) (n m : ℕ) → cond t (Some n) None ≡ Some m → (t ≡ true) × (n ≡ m)
some_of true n m h = (refl, ap (λ o. unwrap_or o 0) h)
some_of false n m h = cc

decimal-maker_of : (ds : List ℕ) (m : ℕ) → maker_of ds ≡ Some m → (decimal m ≡ ds) × (m ≤ 32)
unfolding maker_of
decimal-maker_of [] m h = cc
decimal-maker_of (ones ∷ []) m h =
    let p : (is_ascii_digit ones ≡ true) × (number_of 48 ones ≡ m) = some_of (is_ascii_digit ones) (number_of 48 ones) m h in
    let digit : is_ascii_digit ones ≡ true = p.0 in
    let range : (48 ≤ ones) × (ones ≤ 57) = grind (arith, nat_tests) in
    let back : 48 + m ≡ ones = omega (arith, p.1, range) in
    (decimal_digit m (omega (arith, p.1, range)) ∙ ap (λ n. n ∷ []) back, omega (arith, p.1, range))
decimal-maker_of (tens ∷ ones ∷ []) m h =
    let p : ((is_ascii_digit tens && is_ascii_digit ones && leb 49 tens && leb (number_of tens ones) 32) ≡ true) × (number_of tens ones ≡ m) = some_of _ (number_of tens ones) m h in
    let test : (is_ascii_digit tens && is_ascii_digit ones && leb 49 tens && leb (number_of tens ones) 32) ≡ true = p.0 in
    let range : (49 ≤ tens) × (tens ≤ 57) × (48 ≤ ones) × (ones ≤ 57) × (number_of tens ones ≤ 32) = grind (arith, nat_tests) in
    let large : 10 ≤ m = omega (arith, p.1, range) in
    let front : 48 + m / 10 ≡ tens = omega (arith, p.1, range) in
    let last : 48 + m % 10 ≡ ones = omega (arith, p.1, range) in (
      decimal_step m large (omega (arith, p.1, range))
          ∙ ap (λ ds. ds ++ (48 + m % 10) ∷ []) (decimal_digit (m / 10) (omega (arith, p.1, range)))
          ∙ (λ i. front i ∷ last i ∷ []),
      omega (arith, p.1, range),
    )
decimal-maker_of (tens ∷ ones ∷ more ∷ rest) m h = cc

-- ---- the first colon

and_first : (x y : Bool) → (x && y) ≡ true → x ≡ true
and_first true y h = refl
and_first false y h = h

and_second : (x y : Bool) → (x && y) ≡ true → y ≡ true
and_second true y h = h
and_second false y h = cc

first_colon : (ds tag : List ℕ) → list_all (λ b. not (is_colon b)) ds ≡ true → position_or_len is_colon (ds ++ colon ∷ tag) ≡ length ds
first_colon [] tag h = refl
first_colon (b ∷ bs) tag h =
    let rest : position_or_len is_colon (bs ++ colon ∷ tag) ≡ length bs = first_colon bs tag (and_second (not (is_colon b)) (list_all (λ b. not (is_colon b)) bs) h) in
    ap (λ t. cond t (1 + position_or_len is_colon (bs ++ colon ∷ tag)) 0) (and_first (not (is_colon b)) (list_all (λ b. not (is_colon b)) bs) h)
    ∙ omega (arith, rest)

no_colon : (m : ℕ) → m ≤ 32 → list_all (λ b. not (is_colon b)) (decimal m) ≡ true
no_colon m h = ⊎_elim
    (λ (p : (m < 10) × (decimal m ≡ (48 + m) ∷ [])). let small : m < 10 = p.0 in ap (list_all (λ b. not (is_colon b))) p.1 ∙ grind (arith, nat_tests))
    (λ (p : (10 ≤ m) × (decimal m ≡ (48 + m / 10) ∷ (48 + m % 10) ∷ [])). ap (list_all (λ b. not (is_colon b))) p.1 ∙ two_parts (m / 10) (m % 10) (omega arith) (omega arith))
    (digits_of_maker m h)
  where
    two_parts : (a b : ℕ) → a < 10 → b < 10 → list_all (λ b. not (is_colon b)) ((48 + a) ∷ (48 + b) ∷ []) ≡ true
    two_parts a b h k = grind (arith, nat_tests)

-- no tag is empty
tag_from_colon : (bytes : List ℕ) → is_tag (after_first is_colon bytes) ≡ true → position_or_len is_colon bytes < length bytes
unfolding is_tag
tag_from_colon bytes h = ⊎_elim
    (λ (k : position_or_len is_colon bytes < length bytes). k)
    (λ (k : length bytes ≤ position_or_len is_colon bytes). let none : after_first is_colon bytes ≡ [] = drop_all (position_or_len is_colon bytes + 1) bytes (omega arith) in let z : false ≡ true = sym (ap is_tag none) ∙ h in cc)
    (cases_lt (position_or_len is_colon bytes) (length bytes))

place_of : (t : Bool) (n m : ℕ) → cond t (Some n) None ≡ Some m → n ≡ m
place_of t n m h = (some_of t n m h).1

-- the code looks for the first colon, and reads what stands before and behind it
pub split_some : (bytes : List ℕ) (place : ℕ) → position is_colon bytes ≡ Some place → id_of_parts (take place bytes) (take (length bytes - (place + 1)) (drop (place + 1) bytes)) ≡ id_of bytes
unfolding id_of
split_some bytes place h =
    let at : position_or_len is_colon bytes ≡ place = place_of (leb (suc (position_or_len is_colon bytes)) (length bytes)) (position_or_len is_colon bytes) place h in
    ap (id_of_parts (take place bytes)) (take_all (length bytes - (place + 1)) (drop (place + 1) bytes) (omega (arith, length-drop (place + 1) bytes)))
    ∙ sym (λ i. id_of_parts (take (at i) bytes) (drop (at i + 1) bytes))

untagged : (maker tag : List ℕ) (t : Bool) → is_tag tag ≡ t → t ≡ false → id_of_parts maker tag ≡ None
unfolding id_of_parts
untagged maker tag t e h = ap (λ t. cond t (option_map (λ n. record { maker = n; tag = tag }) (maker_of maker)) None) (e ∙ h)

bool_cases : (t : Bool) → (t ≡ true) ⊎ (t ≡ false)
bool_cases true = inl refl
bool_cases false = inr refl

pub split_none : (bytes : List ℕ) → position is_colon bytes ≡ None → id_of bytes ≡ None
unfolding id_of
split_none bytes h = ⊎_elim
    (λ (tagged : is_tag (after_first is_colon bytes) ≡ true). let k : position_or_len is_colon bytes < length bytes = tag_from_colon bytes tagged in let found : leb (suc (position_or_len is_colon bytes)) (length bytes) ≡ true = grind (arith, nat_tests) in let z : Some (position_or_len is_colon bytes) ≡ None = sym (ap (λ t. cond t (Some (position_or_len is_colon bytes)) None) found) ∙ h in cc)
    (λ (not_tagged : is_tag (after_first is_colon bytes) ≡ false). untagged (before_first is_colon bytes) (after_first is_colon bytes) (is_tag (after_first is_colon bytes)) refl not_tagged)
    (bool_cases (is_tag (after_first is_colon bytes)))

-- ---- both ways

parts_of : (t : Bool) (m : Option ℕ) (tag : List ℕ) (id : TokenId) → cond t (option_map (λ n. record { maker = n; tag = tag }) m) None ≡ Some id → (t ≡ true) × (m ≡ Some id.maker) × (tag ≡ id.tag)
parts_of true (Some n) tag id h = (refl, ap (option_map (λ (i : TokenId). i.maker)) h, ap (λ o. unwrap_or (option_map (λ (i : TokenId). i.tag) o) []) h)
parts_of true None tag id h = cc
parts_of false m tag id h = cc

pub text_of_read : (bytes : List ℕ) (id : TokenId) → id_of bytes ≡ Some id → (id_text id ≡ bytes) × IsTokenId id
unfolding id_of id_of_parts id_text
text_of_read bytes id h =
    let before : List ℕ = before_first is_colon bytes in
    let after : List ℕ = after_first is_colon bytes in
    let parts : (is_tag after ≡ true) × (maker_of before ≡ Some id.maker) × (after ≡ id.tag) = parts_of (is_tag after) (maker_of before) after id h in
    let found : position_or_len is_colon bytes < length bytes = tag_from_colon bytes parts.0 in
    let middle : get_or bytes (position_or_len is_colon bytes) 0 ≡ colon = (Decides-eqb (get_or bytes (position_or_len is_colon bytes) 0) colon).0 (passes_at_first is_colon bytes 0 found) in
    let maker : (decimal id.maker ≡ before) × (id.maker ≤ 32) = decimal-maker_of before id.maker parts.1 in (
      (λ i. maker.0 i ++ sym middle i ∷ sym parts.2 i) ∙ sym (split_at_first is_colon bytes 0 found),
      record { maker = maker.1; tag = sym (ap is_tag parts.2) ∙ parts.0 },
    )

parts_read : (t : Bool) (m : Option ℕ) (id : TokenId) → t ≡ true → m ≡ Some id.maker → cond t (option_map (λ n. record { maker = n; tag = id.tag }) m) None ≡ Some id
parts_read t m id h k = λ i. cond (h i) (option_map (λ n. record { maker = n; tag = id.tag }) (k i)) None

pub id_of-id_text : (id : TokenId) → IsTokenId id → id_of (id_text id) ≡ Some id
unfolding id_of id_of_parts id_text
id_of-id_text id h =
    let digits : List ℕ = decimal id.maker in
    let at : position_or_len is_colon (digits ++ colon ∷ id.tag) ≡ length digits = first_colon digits id.tag (no_colon id.maker h.maker) in
    let before : before_first is_colon (digits ++ colon ∷ id.tag) ≡ digits = ap (λ n. take n (digits ++ colon ∷ id.tag)) at ∙ take-append_seam digits (colon ∷ id.tag) in
    let after : after_first is_colon (digits ++ colon ∷ id.tag) ≡ id.tag = ap (λ n. drop (n + 1) (digits ++ colon ∷ id.tag)) at ∙ drop-append-add digits (colon ∷ id.tag) 1 in
    (λ i. id_of_parts (before i) (after i)) ∙ parts_read (is_tag id.tag) (maker_of digits) id h.tag (maker_of-decimal id.maker h.maker)

pub none_read : (bytes : List ℕ) (id : TokenId) → id_of bytes ≡ None → IsTokenId id → id_text id ≢ bytes
none_read bytes id h valid e = let read : id_of (id_text id) ≡ Some id = id_of-id_text id valid in let same : id_of (id_text id) ≡ id_of bytes = ap id_of e in cc
