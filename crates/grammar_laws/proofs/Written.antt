-- The grammar of dice has just the writings of terms.
use Rattle.std.proofs.Common.{◌≡◌, ℕ, zero, suc, ◌+◌, ◌-◌, ◌*◌, ◌^◌, ◌<◌, ◌≤◌, Bool, true, false, if◌then◌else◌, List, [], ◌∷◌, ◌++◌, drop, get_or, length, Option, Some, None, refl, sym, ap, ◌∙◌, inl, inr, arith}
use Rattle.std.specs.Prelude.{nat_eq, decimal}
use Rattle.std.proofs.lemmas.Bool.Decides.{nat_tests}
use Rattle.std.proofs.Math.Nat.{pow-le-pow_right}
use Rattle.std.proofs.lemmas.Int.Digits.{digits_value-lt}
use Rattle.std.proofs.lemmas.Str.Parse.{IsDigitsTest, FoldsDigits, IsNumeralModel, numerals_by_fold}
use Rattle.std.proofs.lemmas.Fmt.{first_decimal, length-decimal-le, digits_decimal, digits_value-decimal, decimal-digits_value}
use Rattle.dice_parse.specs.declared.parts.Tail.{Tail}
use Rattle.dice_parse.specs.declared.parts.Tail.TheVariants.{Keep, Lose, Succeed}
use Rattle.dice_parse.specs.declared.parts.Part.{Part}
use Rattle.dice_parse.specs.declared.parts.Part.TheVariants.{Group as AGroup, Number as ANumber}
use Rattle.dice_parse.specs.declared.parts.Term.{Term}
use Rattle.dice_parse.specs.Grammar.{IsNum, IsCount, IsExplode, IsAgain, letter, IsTail, IsPart, sign, AreMore, IsDice}
use Rattle.reading.specs.Number.{AreDigits, value_after}
use Rattle.reading.proofs.Pairs.{eq_means}
use Rattle.grammar_laws.specs.Written.{IsShort, AgainIsShort, TailIsShort, PartIsShort, AreShort, CanBeWritten, tail_letter, tail_text, again_text, explode_text, count_text, die_text, part_text, sign_text, first, further_text, IsWriting}

-- ---- numbers

digits_test : IsDigitsTest AreDigits
digits_test = record { empty = tt; parts = λ c cs h. (h.0, h.1); more = λ c cs h g. (h, g) }

digits_fold : FoldsDigits value_after
digits_fold = record { empty = λ n. refl; more = λ n c cs h. let e : 10 * n + (c - 48) ≡ n * 10 + (c - 48) = omega arith in ap (λ k. value_after k cs) e }

numerals : IsNumeralModel AreDigits (value_after 0)
numerals = numerals_by_fold AreDigits digits_test value_after digits_fold

lead_value : (b : ℕ) (s : List ℕ) → value_after (b - 48) s ≡ value_after 0 (b ∷ s)
lead_value b s = let e : b - 48 ≡ 10 * 0 + (b - 48) = omega arith in ap (λ k. value_after k s) e

-- at most nine digits have a value of at most nine digits
nine_digits : (s : List ℕ) → AreDigits s → length s ≤ 9 → value_after 0 s < 10 ^ 9
nine_digits s h few =
    let digits = numerals.to s h in
    let less = digits_value-lt 10 s digits in
    let most = pow-le-pow_right {n = 10} (omega arith) few in
    rw (numerals.same s digits) (omega arith)

zero_text : decimal 0 ≡ 48 ∷ []
zero_text = decimal-digits_value numerals (48 ∷ []) ((omega arith, omega arith), tt) (omega arith) (λ zero_first. refl) (omega arith)

num_to : (s : List ℕ) (n : ℕ) → IsNum s n → (s ≡ decimal n) × IsShort n
num_to [] n h = absurd h
num_to (b ∷ s) n (inl (e, f, v)) = rw (e, f, v) (sym zero_text, omega arith)
num_to (b ∷ s) n (inr (low, high, h, few, v)) =
    let digits : AreDigits (b ∷ s) = ((omega arith, high), h) in
    let same : n ≡ value_after 0 (b ∷ s) = v ∙ lead_value b s in
    let small = nine_digits (b ∷ s) digits (omega arith) in
    let text = decimal-digits_value numerals (b ∷ s) digits (omega arith) (λ zero_first. absurd (omega arith)) (omega arith) in
    rw same (sym text, small)

by_text : (s : List ℕ) (n : ℕ) → AreDigits s → 48 < get_or s 0 0 → length s ≤ 9 → value_after 0 s ≡ n → IsNum s n
by_text [] n h low few v = absurd (omega arith)
by_text (b ∷ s) n h low few v = inr (omega arith, h.0.1, h.1, omega arith, sym v ∙ sym (lead_value b s))

num_from : (n : ℕ) → IsShort n → IsNum (decimal n) n
num_from zero h = rw zero_text (inl (refl, refl, refl))
num_from (suc k) h =
    let n : ℕ = suc k in
    let small : n < 2 ^ 64 = omega arith in
    by_text (decimal n) n (digits_decimal numerals n small) (first_decimal n (omega arith) small) (length-decimal-le 9 n (omega arith) h small) (digits_value-decimal numerals n small)

-- ---- a count, and what stands behind the d

count_to : (s : List ℕ) (n : ℕ) → IsCount s n → (bare : Bool) × (s ≡ count_text bare n) × IsShort n
count_to [] n h = rw h (true, refl, omega arith)
count_to (b ∷ s) n h = let k = num_to (b ∷ s) n h in (false, k.0, k.1)

counted : (s : List ℕ) (n : ℕ) → IsNum s n → IsCount s n
counted [] n h = absurd h
counted (b ∷ s) n h = h

left_out : (n : ℕ) (one : Bool) → nat_eq n 1 ≡ one → IsShort n → IsCount (if one then [] else decimal n) n
left_out n true e h = eq_means 1 n (let k : nat_eq 1 n ≡ true = grind (arith, nat_tests) in k)
left_out n false e h = counted (decimal n) n (num_from n h)

count_from : (bare : Bool) (n : ℕ) → IsShort n → IsCount (count_text bare n) n
count_from true n h = left_out n (nat_eq n 1) refl h
count_from false n h = counted (decimal n) n (num_from n h)

explode_to : (s : List ℕ) (e : Bool) → IsExplode s e → s ≡ explode_text e
explode_to s true h = h
explode_to s false h = h

explode_from : (e : Bool) → IsExplode (explode_text e) e
explode_from true = refl
explode_from false = refl

again_to : (s : List ℕ) (a : Option ℕ) → IsAgain s a → (s ≡ again_text a) × AgainIsShort a
again_to s None h = (h, tt)
again_to s (Some n) (t, e, h) = let k = num_to t n h in (e ∙ ap (λ w. 114 ∷ w) k.0, k.1)

again_from : (a : Option ℕ) → AgainIsShort a → IsAgain (again_text a) a
again_from None h = refl
again_from (Some n) h = (decimal n, refl, num_from n h)

letter_text : (k : Tail) (s : List ℕ) → tail_letter k ++ s ≡ letter k ∷ s
letter_text Keep s = refl
letter_text Lose s = refl
letter_text Succeed s = refl

tail_to : (s : List ℕ) (t : Option (Tail × ℕ)) → IsTail s t → (s ≡ tail_text t) × TailIsShort t
tail_to s None h = (h, tt)
tail_to s (Some x) (t, e, h) = let k = num_to t x.1 h in (e ∙ (ap (λ w. letter x.0 ∷ w) k.0 ∙ sym (letter_text x.0 (decimal x.1))), k.1)

tail_from : (t : Option (Tail × ℕ)) → TailIsShort t → IsTail (tail_text t) t
tail_from None h = refl
tail_from (Some x) h = (decimal x.1, letter_text x.0 (decimal x.1), num_from x.1 h)

-- ---- parts and terms

join : (a b c d : List ℕ) → a ≡ c → b ≡ d → a ++ b ≡ c ++ d
join a b c d e f = ap (λ w. w ++ b) e ∙ ap (λ w. c ++ w) f

part_to : (s : List ℕ) (p : Part) → IsPart s p → (bare : Bool) × (s ≡ part_text bare p) × PartIsShort p
part_to s (ANumber n) h = let k = num_to s n h in (false, k.0, k.1)
part_to s (AGroup g) h =
    let d = h.die-is in
    let c = count_to h.count g.count h.count-is in
    let sides = num_to d.sides g.sides d.sides-is in
    let e = explode_to d.explode g.explode d.explode-is in
    let a = again_to d.again g.again d.again-is in
    let t = tail_to d.tail g.tail d.tail-is in
    let suffixes = join d.explode (d.again ++ d.tail) (explode_text g.explode) (again_text g.again ++ tail_text g.tail) e (join d.again d.tail (again_text g.again) (tail_text g.tail) a.0 t.0) in
    let die = d.parts ∙ join d.sides (d.explode ++ (d.again ++ d.tail)) (decimal g.sides) (explode_text g.explode ++ (again_text g.again ++ tail_text g.tail)) sides.0 suffixes in
    (c.0, h.parts ∙ join h.count (100 ∷ h.die) (count_text c.0 g.count) (die_text g) c.1 (ap (λ w. 100 ∷ w) die), (c.2, sides.1, a.1, t.1))

part_from : (bare : Bool) (p : Part) → PartIsShort p → IsPart (part_text bare p) p
part_from bare (ANumber n) h = num_from n h
part_from bare (AGroup g) (c, s, a, t) = record {
  count = count_text bare g.count;
  die = decimal g.sides ++ (explode_text g.explode ++ (again_text g.again ++ tail_text g.tail));
  parts = refl;
  count-is = count_from bare g.count c;
  die-is = record {
    sides = decimal g.sides;
    explode = explode_text g.explode;
    again = again_text g.again;
    tail = tail_text g.tail;
    parts = refl;
    sides-is = num_from g.sides s;
    explode-is = explode_from g.explode;
    again-is = again_from g.again a;
    tail-is = tail_from g.tail t;
  };
}

signed : (minus : Bool) (s : List ℕ) → sign_text minus ++ s ≡ sign minus ∷ s
signed true s = refl
signed false s = refl

more_to : (s : List ℕ) (ts : List Term) → AreMore s ts → (bare : List Bool) × (s ≡ further_text bare ts) × AreShort ts
more_to s [] h = ([], h, tt)
more_to s (t ∷ ts) (a, b, e, p, m) =
    let k = part_to a t.part p in
    let l = more_to b ts m in
    let text = join a b (part_text k.0 t.part) (further_text l.0 ts) k.1 l.1 in
    (k.0 ∷ l.0, e ∙ (ap (λ w. sign t.minus ∷ w) text ∙ sym (signed t.minus (part_text k.0 t.part ++ further_text l.0 ts))), (k.2, l.2))

more_from : (bare : List Bool) (ts : List Term) → AreShort ts → AreMore (further_text bare ts) ts
more_from bare [] h = refl
more_from bare (t ∷ ts) h =
    (part_text (first bare) t.part, further_text (drop 1 bare) ts, signed t.minus (part_text (first bare) t.part ++ further_text (drop 1 bare) ts), part_from (first bare) t.part h.0, more_from (drop 1 bare) ts h.1)

pub dice_to_writing : (s : List ℕ) (ts : List Term) → IsDice s ts → CanBeWritten ts × IsWriting s ts
dice_to_writing s [] h = absurd h
dice_to_writing s (t ∷ ts) (plus, a, b, e, p, m) =
    let k = part_to a t.part p in
    let l = more_to b ts m in
    ((plus, (k.2, l.2)), (k.0 ∷ l.0, e ∙ join a b (part_text k.0 t.part) (further_text l.0 ts) k.1 l.1))

pub writing_to_dice : (s : List ℕ) (ts : List Term) → CanBeWritten ts → IsWriting s ts → IsDice s ts
writing_to_dice s [] h w = absurd h
writing_to_dice s (t ∷ ts) (plus, h) (bare, e) = (plus, part_text (first bare) t.part, further_text (drop 1 bare) ts, e, part_from (first bare) t.part h.0, more_from (drop 1 bare) ts h.1)
