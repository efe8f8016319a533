-- The compact text of a value has no line feed.
use Rattle.std.proofs.Common.{◌≡◌, ◌≢◌, ◌∙◌, ℕ, zero, suc, ◌+◌, ◌/◌, ◌%◌, ◌==◌, nat_lt, Bool, true, false, cond, ◌||◌, List, [], ◌∷◌, ◌++◌, refl, sym, ap, arith, rules, pos, negsuc, decimal}
use Rattle.std.proofs.lemmas.Bool.{true≢false, false≢true}
use Rattle.std.specs.Fmt.{digits, digits_onto, digit_glyph}
use Rattle.std.specs.Char.{digit_char}
use Rattle.json.specs.Token.{Token}
use Rattle.json.specs.Print.{escape_byte, escape_letter, escape, quoted, token_text}
use Rattle.serde_json.specs.Data.{Num, unsigned, negative, float, Data, null, boolean, number, string, array, object, Items, no_items, item, Members, no_members, member}
use Rattle.serde_json.specs.Written.{number_text, comma_if, compact_text, items_text, members_text}
use Rattle.json_fields.specs.Lines.{IsOneLine}

pub IsOneLine-append : (xs ys : List ℕ) → IsOneLine xs → IsOneLine ys → IsOneLine (xs ++ ys)
IsOneLine-append [] ys p q = q
IsOneLine-append (x ∷ xs) ys p q = (p.0, IsOneLine-append xs ys p.1 q)

either_line : (b : Bool) (xs ys : List ℕ) → (b ≡ true → IsOneLine xs) → (b ≡ false → IsOneLine ys) → IsOneLine (cond b xs ys)
either_line true xs ys p q = p refl
either_line false xs ys p q = q refl

-- ---- numbers

-- a digit's byte, given whether it is below 10
glyph : (b : Bool) (d : ℕ) → cond b (48 + d) (87 + d) ≢ 10
glyph true d = omega arith
glyph false d = omega arith

IsOneLine-digits_onto : (k n : ℕ) (acc : List ℕ) → IsOneLine acc → IsOneLine (digits_onto k 10 false n acc)
IsOneLine-digits_onto zero n acc h = h
IsOneLine-digits_onto (suc k) n acc h =
    let d = n % 10 in
    let more : IsOneLine (digit_glyph false d ∷ acc) = (glyph (nat_lt d 10) d, h) in
    either_line (n / 10 == 0) (digit_glyph false d ∷ acc) _ (λ e. more) (λ e. IsOneLine-digits_onto k (n / 10) (digit_glyph false d ∷ acc) more)

pub IsOneLine-decimal : (n : ℕ) → IsOneLine (decimal n)
unfolding digits
IsOneLine-decimal n = IsOneLine-digits_onto 64 n [] tt

IsOneLine-number_text : (n : Num) → IsOneLine (number_text n)
IsOneLine-number_text (unsigned n) = IsOneLine-decimal n
IsOneLine-number_text (negative (pos n)) = IsOneLine-decimal n
IsOneLine-number_text (negative (negsuc n)) = (omega arith, IsOneLine-decimal (suc n))
IsOneLine-number_text (float x) = tt

-- ---- texts

-- a letter that stands for a byte under its tests is no line feed
letter : (quote backspace form_feed line_feed return tab : Bool) (x : ℕ) → (quote ≡ true → x ≢ 10)
    → cond quote x (cond backspace 98 (cond form_feed 102 (cond line_feed 110 (cond return 114 (cond tab 116 0))))) ≢ 10
letter true b f l r t x h = h refl
letter false true f l r t x h = omega arith
letter false false true l r t x h = omega arith
letter false false false true r t x h = omega arith
letter false false false false true t x h = omega arith
letter false false false false false true x h = omega arith
letter false false false false false false x h = omega arith

quote_or_backslash : (x : ℕ) → ((x == 34) || (x == 92)) ≡ true → x ≢ 10
quote_or_backslash x h e = absurd (false≢true (ap (λ y. (y == 34) || (y == 92)) (sym e) ∙ h))

escape_letter-no_line_feed : (x : ℕ) → escape_letter x ≢ 10
escape_letter-no_line_feed x = letter ((x == 34) || (x == 92)) (x == 8) (x == 12) (x == 10) (x == 13) (x == 9) x (quote_or_backslash x)

IsOneLine-escape_byte : (x : ℕ) → IsOneLine (escape_byte x)
unfolding escape_byte
IsOneLine-escape_byte x =
    either_line (nat_lt 0 (escape_letter x)) (92 ∷ escape_letter x ∷ []) _ (λ e. (omega arith, (escape_letter-no_line_feed x, tt)))
    (λ e. either_line (nat_lt x 32) (92 ∷ 117 ∷ 48 ∷ 48 ∷ digit_char (x / 16) ∷ digit_char (x % 16) ∷ []) (x ∷ [])
    (λ e. (omega arith, (omega arith, (omega arith, (omega arith, (glyph (nat_lt (x / 16) 10) (x / 16), (glyph (nat_lt (x % 16) 10) (x % 16), tt)))))))
    (λ e. (below x e, tt)))
  where
    below : (x : ℕ) → nat_lt x 32 ≡ false → x ≢ 10
    below x e is = absurd (true≢false (ap (λ y. nat_lt y 32) (sym is) ∙ e))

IsOneLine-escape : (s : List ℕ) → IsOneLine (escape s)
IsOneLine-escape [] = tt
IsOneLine-escape (x ∷ s) = IsOneLine-append (escape_byte x) (escape s) (IsOneLine-escape_byte x) (IsOneLine-escape s)

pub IsOneLine-quoted : (s : List ℕ) → IsOneLine (quoted s)
IsOneLine-quoted s = (omega arith, IsOneLine-append (escape s) (34 ∷ []) (IsOneLine-escape s) (omega arith, tt))

-- ---- values

IsOneLine-comma_if : (later : Bool) → IsOneLine (comma_if later)
IsOneLine-comma_if true = (omega arith, tt)
IsOneLine-comma_if false = tt

pub IsOneLine-boolean : (b : Bool) → IsOneLine (token_text (Token.boolean b))
IsOneLine-boolean true = search rules
IsOneLine-boolean false = search rules

mutual
  pub IsOneLine-compact_text : (d : Data) → IsOneLine (compact_text d)
  IsOneLine-compact_text null = search rules
  IsOneLine-compact_text (boolean b) = IsOneLine-boolean b
  IsOneLine-compact_text (number n) = IsOneLine-number_text n
  IsOneLine-compact_text (string s) = IsOneLine-quoted s
  IsOneLine-compact_text (array ds) = (omega arith, IsOneLine-items_text false ds)
  IsOneLine-compact_text (object ms) = (omega arith, IsOneLine-members_text false ms)

  pub IsOneLine-items_text : (later : Bool) (ds : Items) → IsOneLine (items_text later ds)
  IsOneLine-items_text later no_items = (omega arith, tt)
  IsOneLine-items_text later (item d ds) =
      IsOneLine-append (comma_if later) _ (IsOneLine-comma_if later) (IsOneLine-append (compact_text d) _ (IsOneLine-compact_text d) (IsOneLine-items_text true ds))

  pub IsOneLine-members_text : (later : Bool) (ms : Members) → IsOneLine (members_text later ms)
  IsOneLine-members_text later no_members = (omega arith, tt)
  IsOneLine-members_text later (member k d ms) =
      IsOneLine-append (comma_if later) _ (IsOneLine-comma_if later)
      (IsOneLine-append (quoted k) _ (IsOneLine-quoted k) (omega arith, IsOneLine-append (compact_text d) _ (IsOneLine-compact_text d) (IsOneLine-members_text true ms)))
