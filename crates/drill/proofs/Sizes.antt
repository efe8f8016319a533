-- How long the commands of a script are at most.
use Rattle.std.proofs.Common.{ℕ, zero, suc, ◌+◌, ◌*◌, ◌/◌, ◌%◌, ◌==◌, ◌≤◌, nat_lt, pos, negsuc, Bool, true, false, cond, List, [], ◌∷◌, ◌++◌, length, decimal, length-append, arith}
use Rattle.std.specs.Fmt.{digits, digits_onto, digit_glyph}
use Rattle.std.specs.Char.{digit_char}
use Rattle.json.specs.Token.{Token}
use Rattle.json.specs.Print.{escape_byte, escape_letter, escape, quoted, token_text}
use Rattle.serde_json.specs.Data.{Num, unsigned, negative, float, Data, null, boolean, number, string, array, object, Items, no_items, item, Members, no_members, member}
use Rattle.serde_json.specs.Written.{number_text, comma_if, compact_text, items_text, members_text}

either_length : (b : Bool) (xs ys : List ℕ) (most : ℕ) → length xs ≤ most → length ys ≤ most → length (cond b xs ys) ≤ most
either_length true xs ys most h k = h
either_length false xs ys most h k = k

-- ---- numbers

length-digits_onto : (k n : ℕ) (acc : List ℕ) → length (digits_onto k 10 false n acc) ≤ k + length acc
length-digits_onto zero n acc = omega arith
length-digits_onto (suc k) n acc =
    let more : List ℕ = digit_glyph false (n % 10) ∷ acc in
    either_length (n / 10 == 0) more (digits_onto k 10 false (n / 10) more) (suc k + length acc) (omega arith) (omega (arith, length-digits_onto k (n / 10) more))

pub length-decimal : (n : ℕ) → length (decimal n) ≤ 64
unfolding digits
length-decimal n = length-digits_onto 64 n []

length-number_text : (n : Num) → length (number_text n) ≤ 65
length-number_text (unsigned n) = omega (arith, length-decimal n)
length-number_text (negative (pos n)) = omega (arith, length-decimal n)
length-number_text (negative (negsuc n)) = omega (arith, length-decimal (suc n))
length-number_text (float x) = omega arith

-- ---- texts

length-escape_byte : (x : ℕ) → length (escape_byte x) ≤ 6
unfolding escape_byte
length-escape_byte x =
    either_length (nat_lt 0 (escape_letter x)) (92 ∷ escape_letter x ∷ []) _ 6 (omega arith)
    (either_length (nat_lt x 32) (92 ∷ 117 ∷ 48 ∷ 48 ∷ digit_char (x / 16) ∷ digit_char (x % 16) ∷ []) (x ∷ []) 6 (omega arith) (omega arith))

length-escape : (s : List ℕ) → length (escape s) ≤ 6 * length s
length-escape [] = omega arith
length-escape (x ∷ s) = omega (arith, length-append (escape_byte x) (escape s), length-escape_byte x, length-escape s)

length-quoted : (s : List ℕ) → length (quoted s) ≤ 6 * length s + 2
length-quoted s = omega (arith, length-append (escape s) (34 ∷ []), length-escape s)

-- ---- values

abbrev mutual
  pub room : Data → ℕ
  room null = 5
  room (boolean b) = 5
  room (number n) = 65
  room (string s) = 6 * length s + 2
  room (array ds) = suc (items_room ds)
  room (object ms) = suc (members_room ms)

  pub items_room : Items → ℕ
  items_room no_items = 1
  items_room (item d ds) = suc (room d + items_room ds)

  pub members_room : Members → ℕ
  members_room no_members = 1
  members_room (member k d ms) = 6 * length k + 4 + (room d + members_room ms)

length-boolean : (b : Bool) → length (token_text (Token.boolean b)) ≤ 5
length-boolean true = omega arith
length-boolean false = omega arith

length-comma_if : (later : Bool) → length (comma_if later) ≤ 1
length-comma_if true = omega arith
length-comma_if false = omega arith

mutual
  pub length-compact_text : (d : Data) → length (compact_text d) ≤ room d
  length-compact_text null = omega arith
  length-compact_text (boolean b) = length-boolean b
  length-compact_text (number n) = length-number_text n
  length-compact_text (string s) = length-quoted s
  length-compact_text (array ds) = omega (arith, length-items_text false ds)
  length-compact_text (object ms) = omega (arith, length-members_text false ms)

  length-items_text : (later : Bool) (ds : Items) → length (items_text later ds) ≤ items_room ds
  length-items_text later no_items = omega arith
  length-items_text later (item d ds) =
      omega (arith, length-comma_if later, length-append (comma_if later) (compact_text d ++ items_text true ds), length-append (compact_text d) (items_text true ds), length-compact_text d, length-items_text true ds)

  length-members_text : (later : Bool) (ms : Members) → length (members_text later ms) ≤ members_room ms
  length-members_text later no_members = omega arith
  length-members_text later (member k d ms) =
      let value : List ℕ = compact_text d ++ members_text true ms in
      omega (arith, length-comma_if later, length-append (comma_if later) (quoted k ++ 58 ∷ value), length-append (quoted k) (58 ∷ value), length-quoted k, length-append (compact_text d) (members_text true ms), length-compact_text d, length-members_text true ms)
