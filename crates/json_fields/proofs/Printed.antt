-- What `serde_json` writes of any value has no line feed, since a number is written as RFC 8259 has it.
use Rattle.std.proofs.Common.{◌≡◌, ◌≢◌, ◌∙◌, ℕ, suc, ◌+◌, ◌==◌, Bool, true, false, cond, ◌||◌, ◌⊎◌, inl, inr, List, [], ◌∷◌, drop, Option, Some, None, option_and_then, refl, sym, ap, subst, arith, rules}
use Rattle.std.proofs.lemmas.Bool.{false≢true, eqb-true, or_cases}
use Rattle.std.specs.Prelude.{⊤}
use Rattle.std.specs.List.{prefix_len}
use Rattle.std.specs.Char.{is_ascii_digit}
use Rattle.json.specs.Token.{Token, begin_object, end_object, begin_array, end_array, key, string, number, boolean, null, bad}
use Rattle.json.specs.Lex.{tokens}
use Rattle.json.specs.Word.{head, after_digits, after_minus, after_sign, after_whole, after_fraction, after_exponent, after_number}
use Rattle.json.specs.Print.{token_text, quoted, ends, separator, print, print_from, IsNumber, IsPrintableOrBad, ArePrintableOrBad}
use Rattle.json.proofs.Numbered.{ArePrintableOrBad-tokens}
use Rattle.json_fields.specs.Lines.{IsOneLine}
use Rattle.json_fields.proofs.OneLine.{IsOneLine-append, IsOneLine-quoted, IsOneLine-boolean}

-- ---- numbers

-- where what a part of the grammar leaves is one line, so is the text
abbrev Passes : List ℕ → Option (List ℕ) → Type 0
Passes t None = ⊤
Passes t (Some rest) = IsOneLine rest → IsOneLine t

further : (t u : List ℕ) (o : Option (List ℕ)) → (IsOneLine u → IsOneLine t) → Passes u o → Passes t o
further t u None e h = tt
further t u (Some rest) e h = λ p. e (h p)

either : (t : List ℕ) (test : Bool) (x y : Option (List ℕ)) → (test ≡ true → Passes t x) → Passes t y → Passes t (cond test x y)
either t true x y p q = p refl
either t false x y p q = q

then : (t : List ℕ) (f : List ℕ → Option (List ℕ)) → ((u : List ℕ) → Passes u (f u)) → (o : Option (List ℕ)) → Passes t o → Passes t (option_and_then f o)
then t f g None h = tt
then t f g (Some rest) h = further t rest (f rest) h (g rest)

byte : (c : ℕ) (t : List ℕ) → c ≢ 10 → (head t == c) ≡ true → IsOneLine (drop 1 t) → IsOneLine t
byte c [] other e h = tt
byte c (x ∷ xs) other e h = (λ is. other (sym (eqb-true x c e) ∙ is), h)

either_byte : (a b : ℕ) (t : List ℕ) → a ≢ 10 → b ≢ 10 → ((head t == a) || (head t == b)) ≡ true → IsOneLine (drop 1 t) → IsOneLine t
either_byte a b t p q e h = go (or_cases _ _ e)
  where
    go : ((head t == a) ≡ true) ⊎ ((head t == b) ≡ true) → IsOneLine t
    go (inl e) = byte a t p e h
    go (inr e) = byte b t q e h

optional : (t : List ℕ) (test : Bool) → (test ≡ true → IsOneLine (drop 1 t) → IsOneLine t) → IsOneLine (cond test (drop 1 t) t) → IsOneLine t
optional t true f h = f refl h
optional t false f h = h

digit : (x : ℕ) → is_ascii_digit x ≡ true → x ≢ 10
digit x h is = absurd (false≢true (ap is_ascii_digit (sym is) ∙ h))

digits_at : (test : Bool) (x : ℕ) (xs : List ℕ) (n : ℕ) → (test ≡ true → x ≢ 10) → (IsOneLine (drop n xs) → IsOneLine xs) → IsOneLine (drop (cond test (1 + n) 0) (x ∷ xs)) → IsOneLine (x ∷ xs)
digits_at false x xs n p more h = h
digits_at true x xs n p more h =
    let e : 1 + n ≡ suc n = omega arith in
    (p refl, more (subst (λ k. IsOneLine (drop k (x ∷ xs))) e h))

digits : (t : List ℕ) → IsOneLine (drop (prefix_len is_ascii_digit t) t) → IsOneLine t
digits [] h = tt
digits (x ∷ xs) h = digits_at (is_ascii_digit x) x xs (prefix_len is_ascii_digit xs) (digit x) (digits xs) h

Passes-after_digits : (t : List ℕ) → Passes t (after_digits t)
Passes-after_digits t = either t (prefix_len is_ascii_digit t == 0) None _ (λ e. tt) (digits t)

Passes-after_whole : (t : List ℕ) → Passes t (after_whole t)
Passes-after_whole t = either t (head t == 48) (Some (drop 1 t)) _ (λ e. byte 48 t (omega arith) e) (Passes-after_digits t)

Passes-after_fraction : (t : List ℕ) → Passes t (after_fraction t)
Passes-after_fraction t = either t (head t == 46) _ (Some t) (λ e. further t (drop 1 t) _ (byte 46 t (omega arith) e) (Passes-after_digits (drop 1 t))) (λ h. h)

Passes-after_exponent : (t : List ℕ) → Passes t (after_exponent t)
Passes-after_exponent t =
    let u = drop 1 t in
    either t ((head t == 101) || (head t == 69)) _ (Some t)
    (λ e. further t u _ (either_byte 101 69 t (omega arith) (omega arith) e)
    (further u (after_sign u) _ (optional u _ (either_byte 45 43 u (omega arith) (omega arith))) (Passes-after_digits (after_sign u)))) (λ h. h)

Passes-after_number : (t : List ℕ) → Passes t (after_number t)
unfolding after_number
Passes-after_number t =
    then t after_exponent Passes-after_exponent _ (then t after_fraction Passes-after_fraction _
    (further t (after_minus t) _ (optional t _ (byte 45 t (omega arith))) (Passes-after_whole (after_minus t))))

IsOneLine-number : (s : List ℕ) → IsNumber s → IsOneLine s
IsOneLine-number s h = subst (Passes s) h (Passes-after_number s) tt

-- ---- tokens

IsOneLine-token_text : (t : Token) → IsPrintableOrBad t → IsOneLine (token_text t)
IsOneLine-token_text begin_object h = (omega arith, tt)
IsOneLine-token_text end_object h = (omega arith, tt)
IsOneLine-token_text begin_array h = (omega arith, tt)
IsOneLine-token_text end_array h = (omega arith, tt)
IsOneLine-token_text (key s) h = IsOneLine-append (quoted s) (58 ∷ []) (IsOneLine-quoted s) (omega arith, tt)
IsOneLine-token_text (string s) h = IsOneLine-quoted s
IsOneLine-token_text (number s) h = IsOneLine-number s h
IsOneLine-token_text (boolean b) h = IsOneLine-boolean b
IsOneLine-token_text null h = search rules
IsOneLine-token_text bad h = tt

comma : (test : Bool) → IsOneLine (cond test (44 ∷ []) [])
comma true = (omega arith, tt)
comma false = tt

IsOneLine-print_from : (after_value : Bool) (ts : List Token) → ArePrintableOrBad ts → IsOneLine (print_from after_value ts)
unfolding print_from
IsOneLine-print_from after_value [] h = tt
IsOneLine-print_from after_value (t ∷ ts) h =
    IsOneLine-append (separator after_value t) _ (comma _) (IsOneLine-append (token_text t) _ (IsOneLine-token_text t h.0) (IsOneLine-print_from (ends t) ts h.1))

-- a text that is printed from its own tokens
pub one_line_printed : (text : List ℕ) → text ≡ print (tokens text) → IsOneLine text
one_line_printed text e = subst IsOneLine (sym e) (IsOneLine-print_from false (tokens text) (ArePrintableOrBad-tokens text))
