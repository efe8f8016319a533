-- Numbers, dice and quoted texts: each is read as its grammar says, and each word is read again.
use Rattle.std.proofs.Common.{◌≡◌, ℕ, ◌+◌, ◌≤◌, Bool, true, false, ◌&&◌, ◌||◌, List, [], ◌∷◌, ◌++◌, length, Option, Some, None, refl, ap, ◌∙◌, append_assoc, append-nil, arith, inl, inr, ◌⊎◌}
use Rattle.std.specs.Prelude.{nat_eq, nat_le}
use Rattle.std.proofs.lemmas.Bool.Decides.{nat_tests}
use Rattle.reading.specs.Reading.{Read, done, bind, on_head, item, Begins}
use Rattle.reading.specs.Number.{IsNumber, is_digit, number_at}
use Rattle.reading.proofs.Pairs.{eq_means, Free, head_free, or_left, or_right}
use Rattle.reading.proofs.Laws.{Fate, Reads, Sequence, reads_done, reads_bind, reads_item, reads_head, IsItem}
use Rattle.reading.proofs.Combine.{only, Wrapped, reads_wrapped}
use Rattle.reading.proofs.Number.{reads_number, number_back}
use Rattle.reading.proofs.Placed.{bind_at_is, PlacedSequence, reads_bind_at}
use Rattle.dice_parse.specs.declared.parts.Group.{Group}
use Rattle.dice_parse.specs.Groups.{IsCounted}
use Rattle.dice_parse.specs.Readers.{die_at}
use Rattle.dice_parse.proofs.Words.{IsDieOf, die_of, reads_die}
use Rattle.dice_parse.proofs.Back.{is_suffix, die_back}
use Rattle.macro_grammar.specs.Tree.{Tree, Number, Dice, Quoted}
use Rattle.macro_grammar.specs.Grammar.{IsEscaped, is_quote, IsQuoted, IsLeaf}
use Rattle.macro_grammar.specs.Readers.{is_letter, is_name_byte, number_or_dice_at, inside_at, quoted_at}
use Rattle.macro_grammar.proofs.Names.{reads_cons}

-- ---- numbers and dice

pub and_right : (v w : Bool) → v && w ≡ true → w ≡ true
and_right true w h = h
and_right false w h = absurd cc

pub and_left : (v w : Bool) → v && w ≡ true → v ≡ true
and_left true w h = refl
and_left false w h = absurd cc

number_short : (s : List ℕ) (n : ℕ) → IsNumber 17 s n → length s ≤ 9 → IsNumber 8 s n
number_short [] n h le = absurd h
number_short (b ∷ s) n (inl h) le = inl h
number_short (b ∷ s) n (inr (lo, hi, d, l, v)) le = inr (lo, hi, d, omega arith, v)

number_long : (s : List ℕ) (n : ℕ) → IsNumber 8 s n → IsNumber 17 s n
number_long [] n h = absurd h
number_long (b ∷ s) n (inl h) = inl h
number_long (b ∷ s) n (inr (lo, hi, d, l, v)) = inr (lo, hi, d, omega arith, v)

nine_digits : (s : List ℕ) (n : ℕ) → IsNumber 8 s n → length s ≤ 9
nine_digits [] n h = absurd h
nine_digits (b ∷ s) n (inl (e, f, v)) = let len : length s ≡ 0 = ap length f in omega arith
nine_digits (b ∷ s) n (inr (lo, hi, d, l, v)) = omega arith

-- nothing, or a d and a die, where the number has nine digits at most
abbrev AfterNumber : ℕ → ℕ → ℕ → List ℕ → Tree → Type 0
AfterNumber at at2 n s t = ((s ≡ []) × (t ≡ Number at n)) ⊎ ((g : Group) × (die : List ℕ) × (s ≡ 100 ∷ die) × IsDieOf n die g × (t ≡ Dice at g) × (at2 ≤ at + 9))

least_die : (count : ℕ) → IsDieOf count (48 ∷ []) (die_of count 0 false None None)
least_die count = (record { sides = 48 ∷ []; explode = []; again = []; tail = []; parts = refl; sides-is = inl (refl, refl, refl); explode-is = refl; again-is = refl; tail-is = refl }, refl)

die_joins : (at at2 n : ℕ) → at2 ≤ at + 9 → Sequence (IsItem (nat_eq 100)) (λ _. Wrapped (Dice at) (IsDieOf n)) (AfterNumber at at2 n)
die_joins at at2 n le = record {
  then = λ a s b t g (d, h, v). let k = eq_means 100 b g.0 in let e = g.1 in inr (d, s, rw (e, k) refl, h, v, le);
  ends = λ a b g. (48 ∷ [], Dice at (die_of n 0 false None None), (die_of n 0 false None None, least_die n, refl));
}

at_most : (a b : ℕ) → nat_le a b ≡ true → a ≤ b
at_most a b h = grind (arith, nat_tests)

at_most_test : (a b : ℕ) → a ≤ b → nat_le a b ≡ true
at_most_test a b h = grind (arith, nat_tests)

reads_after_number : (at at2 n : ℕ) (s : List ℕ) → Reads (on_head (λ b. nat_eq 100 b && nat_le at2 (at + 9)) (bind (item (nat_eq 100)) (λ _. bind (die_at n) (λ g. done (Dice at g)))) (done (Number at n))) (AfterNumber at at2 n) s
reads_after_number at at2 n s = reads_head (λ b. nat_eq 100 b && nat_le at2 (at + 9)) (bind (item (nat_eq 100)) (λ _. bind (die_at n) (λ g. done (Dice at g)))) (done (Number at n)) (AfterNumber at at2 n) s
    (λ b t e. reads_bind (item (nat_eq 100)) (λ _. bind (die_at n) (λ g. done (Dice at g))) (IsItem (nat_eq 100)) (λ _. Wrapped (Dice at) (IsDieOf n)) (AfterNumber at at2 n)
    (die_joins at at2 n (at_most at2 (at + 9) (and_right (nat_eq 100 b) (nat_le at2 (at + 9)) e))) (b ∷ t)
    (reads_item (nat_eq 100) (only 100 refl) (b ∷ t)) (λ _. reads_wrapped (Dice at) (die_at n) (IsDieOf n) _ (reads_die n _)))
    (λ t. reads_done (AfterNumber at at2 n) (Number at n) t (inl (refl, refl)))

number_then : (at : ℕ) (a s : List ℕ) (n : ℕ) (t : Tree) → IsNumber 17 a n → AfterNumber at (at + length a) n s t → IsLeaf at (a ++ s) t
number_then at a s n t g (inl (e, v)) = rw (v, e, append-nil) (refl, g)
number_then at a s n t g (inr (d, die, e, (h, c), v, le)) =
    let k : IsNumber 8 a n = number_short a n g (omega arith) in
    rw v (refl, record { count = a; die = die; parts = ap (λ (w : List ℕ). a ++ w) e; count-is = rw c k; die-is = h })

number_joins : (at : ℕ) → PlacedSequence at (λ _. IsNumber 17) (AfterNumber at) IsLeaf
number_joins at = record { then = λ a s n t g h. number_then at a s n t g h; ends = λ a n g. ([], Number at n, inl (refl, refl)) }

pub reads_number_or_dice : (at : ℕ) (s : List ℕ) → Reads (number_or_dice_at at) (IsLeaf at) s
unfolding number_or_dice_at
reads_number_or_dice at s = reads_bind_at at (λ _. number_at 17) (λ at2 n. on_head (λ b. nat_eq 100 b && nat_le at2 (at + 9)) (bind (item (nat_eq 100)) (λ _. bind (die_at n) (λ g. done (Dice at g)))) (done (Number at n)))
    (λ _. IsNumber 17) (AfterNumber at) IsLeaf (number_joins at) s (reads_number 17 s) (λ at2 n r. reads_after_number at at2 n r)

-- ---- read again

not_letter_by : (c b : ℕ) (v : Bool) → nat_eq c b ≡ v → is_letter c ≡ true → is_letter b ≡ false → v ≡ false
not_letter_by c b false e l h = refl
not_letter_by c b true e l h = let same = eq_means c b e in let t : is_letter b ≡ true = rw same l in absurd cc

pub not_letter : (c b : ℕ) → is_letter c ≡ true → is_letter b ≡ false → nat_eq c b ≡ false
not_letter c b l h = not_letter_by c b (nat_eq c b) refl l h

no_suffix_by : (b : ℕ) → is_letter b ≡ false → is_digit b ≡ false → is_suffix b ≡ false
no_suffix_by b l d =
    let k = not_letter 107 b refl l in let m = not_letter 100 b refl l in let n = not_letter 115 b refl l in
    let x = not_letter 101 b refl l in let y = not_letter 114 b refl l in
    rw (d, k, m, n, x, y) refl

no_suffix : (b : ℕ) → is_name_byte b ≡ false → is_suffix b ≡ false
no_suffix b h = no_suffix_by b (or_left (is_letter b) _ h) (or_left (is_digit b) _ (or_right (is_letter b) _ h))

pub free_suffix : (r : List ℕ) → Free is_name_byte r → Free is_suffix r
free_suffix [] h = tt
free_suffix (b ∷ r) h = no_suffix b h

pub free_digit : (r : List ℕ) → Free is_name_byte r → Free is_digit r
free_digit [] h = tt
free_digit (b ∷ r) h = or_left (is_digit b) _ (or_right (is_letter b) _ h)

no_d : (r : List ℕ) (w : Bool) → Free is_name_byte r → Free (λ b. nat_eq 100 b && w) r
no_d [] w h = tt
no_d (b ∷ r) w h = let k = not_letter 100 b refl (or_left (is_letter b) _ h) in rw k refl

pub number_again : (at n : ℕ) (s r : List ℕ) → IsNumber 17 s n → Free is_name_byte r → number_or_dice_at at (s ++ r) ≡ (Some (Number at n), r)
unfolding number_or_dice_at
number_again at n s r h free =
    bind_at_is at (λ _. number_at 17) (λ at2 m. on_head (λ b. nat_eq 100 b && nat_le at2 (at + 9)) (bind (item (nat_eq 100)) (λ _. bind (die_at m) (λ g. done (Dice at g)))) (done (Number at m))) (s ++ r) s r n (number_back 17 s r n h (free_digit r free)) refl
    ∙ head_free (λ b. nat_eq 100 b && nat_le (at + length s) (at + 9)) (bind (item (nat_eq 100)) (λ _. bind (die_at n) (λ g. done (Dice at g)))) (Number at n) r (no_d r (nat_le (at + length s) (at + 9)) free)

pub dice_again : (at : ℕ) (s r : List ℕ) (g : Group) → IsCounted s g → Free is_name_byte r → number_or_dice_at at (s ++ r) ≡ (Some (Dice at g), r)
unfolding number_or_dice_at
dice_again at s r g c free =
    let p : s ++ r ≡ c.count ++ (100 ∷ (c.die ++ r)) = ap (λ (w : List ℕ). w ++ r) c.parts ∙ append_assoc c.count (100 ∷ c.die) r in
    let n = number_back 17 c.count (100 ∷ (c.die ++ r)) g.count (number_long c.count g.count c.count-is) refl in
    let digits = nine_digits c.count g.count c.count-is in
    let le : nat_le (at + length c.count) (at + 9) ≡ true = at_most_test (at + length c.count) (at + 9) (omega arith) in
    let d = die_back g.count c.die r g c.die-is refl (free_suffix r free) in
    bind_at_is at (λ _. number_at 17) (λ at2 m. on_head (λ b. nat_eq 100 b && nat_le at2 (at + 9)) (bind (item (nat_eq 100)) (λ _. bind (die_at m) (λ h. done (Dice at h)))) (done (Number at m))) (s ++ r) c.count (100 ∷ (c.die ++ r)) g.count (rw p n) p
    ∙ rw (le, d) refl

-- ---- quoted texts

-- what stands up to the closing quote; behind a backslash, a special byte comes first
abbrev Inside : Bool → List ℕ → List ℕ → Type 0
Inside false s m = (a : List ℕ) × (s ≡ a ++ (34 ∷ [])) × IsEscaped is_quote a m
Inside true s m = (c : ℕ) × (a : List ℕ) × (x : List ℕ) × (s ≡ c ∷ (a ++ (34 ∷ []))) × (is_quote c ≡ true) × (m ≡ c ∷ x) × IsEscaped is_quote a x

-- a byte more in front, which leaves the value
pub reads_front : {A : Type 0} (p q : Read A) (G H : List ℕ → A → Type 0) (b : ℕ) (s : List ℕ) → ((s2 : List ℕ) → q (b ∷ s2) ≡ p s2) → ((f : List ℕ) (o : Option A) → Fate G f o → Fate H (b ∷ f) o) → Reads p G s → Reads q H (b ∷ s)
reads_front p q G H b s step up r = record {
  outcome = r.outcome;
  rest = r.rest;
  front = b ∷ r.front;
  is = step s ∙ r.is;
  split = ap (λ (w : List ℕ). b ∷ w) r.split;
  one = λ c z z' h. step (r.front ++ (c ∷ z')) ∙ r.one c z z' h;
  fate = up r.front r.outcome r.fate;
}

pub front_fate : {A : Type 0} (G H : List ℕ → A → Type 0) (b : ℕ) → ((f : List ℕ) (x : A) → G f x → H (b ∷ f) x) → (f : List ℕ) (o : Option A) → Fate G f o → Fate H (b ∷ f) o
front_fate G H b up f None h = (h.0, h.1, up (f ++ h.0) h.1 h.2)
front_fate G H b up f (Some x) h = up f x h

-- a byte that is taken, or refused
pub reads_taken : {A : Type 0} (q : Read A) (H : List ℕ → A → Type 0) (b : ℕ) (s : List ℕ) (x : A) → ((s2 : List ℕ) → q (b ∷ s2) ≡ (Some x, s2)) → H (b ∷ []) x → Reads q H (b ∷ s)
reads_taken q H b s x step h = record { outcome = Some x; rest = s; front = b ∷ []; is = step s; split = refl; one = λ c z z' k. step (c ∷ z'); fate = h }

pub reads_refused : {A : Type 0} (q : Read A) (H : List ℕ → A → Type 0) (b : ℕ) (s : List ℕ) → ((s2 : List ℕ) → q (b ∷ s2) ≡ (None, b ∷ s2)) → Begins H [] → Reads q H (b ∷ s)
reads_refused q H b s step h = record { outcome = None; rest = b ∷ s; front = []; is = step s; split = refl; one = λ c z z' k. let same : b ≡ c = cc in rw (← same) (step z'); fate = h }

begins_inside : (v : Bool) → Begins (Inside v) []
begins_inside false = (34 ∷ [], [], ([], refl, refl))
begins_inside true = (34 ∷ (34 ∷ []), 34 ∷ [], (34, [], [], refl, refl, refl, refl))

behind_backslash : (b : ℕ) (f m : List ℕ) → b ≡ 92 → Inside true f m → Inside false (b ∷ f) m
behind_backslash b f m e (c, a, x, s, q, v, h) = rw v (92 ∷ (c ∷ a), rw (e, s) refl, (a, inr (q, refl), h))

inside_plain : (b : ℕ) (f m : List ℕ) → is_quote b ≡ false → Inside false f m → Inside false (b ∷ f) (b ∷ m)
inside_plain b f m q (a, e, h) = (b ∷ a, ap (λ (w : List ℕ). b ∷ w) e, (a, inl (q, refl), h))

inside_special : (b : ℕ) (f m : List ℕ) → is_quote b ≡ true → Inside false f m → Inside true (b ∷ f) (b ∷ m)
inside_special b f m q (a, e, h) = (b, a, m, ap (λ (w : List ℕ). b ∷ w) e, q, refl, h)

plain_quote : (v w : Bool) → v ≡ false → w ≡ false → v || w ≡ false
plain_quote v w e f = rw (e, f) refl

inside_by : (b : ℕ) (s : List ℕ) (v w : Bool) → nat_eq 34 b ≡ v → nat_eq 92 b ≡ w → Reads (inside_at true) (Inside true) s → Reads (inside_at false) (Inside false) s → Reads (inside_at false) (Inside false) (b ∷ s)
inside_by b s true w e f behind plain = reads_taken (inside_at false) (Inside false) b s [] (λ s2. rw e refl) ([], ap (λ (c : ℕ). c ∷ []) (eq_means 34 b e), refl)
inside_by b s false true e f behind plain = reads_front (inside_at true) (inside_at false) (Inside true) (Inside false) b s (λ s2. rw (e, f) refl) (front_fate (Inside true) (Inside false) b (λ g m h. behind_backslash b g m (eq_means 92 b f) h)) behind
inside_by b s false false e f behind plain = reads_cons is_quote (inside_at false) (inside_at false) (Inside false) (Inside false) b s (λ s2. rw (e, f) refl) (λ g m h. inside_plain b g m (plain_quote (nat_eq 34 b) (nat_eq 92 b) e f) h) plain

escaped_by : (b : ℕ) (s : List ℕ) (v : Bool) → is_quote b ≡ v → Reads (inside_at false) (Inside false) s → Reads (inside_at true) (Inside true) (b ∷ s)
escaped_by b s true e plain = reads_cons is_quote (inside_at false) (inside_at true) (Inside false) (Inside true) b s (λ s2. rw e refl) (λ g m h. inside_special b g m e h) plain
escaped_by b s false e plain = reads_refused (inside_at true) (Inside true) b s (λ s2. rw e refl) (begins_inside true)

reads_inside : (v : Bool) (s : List ℕ) → Reads (inside_at v) (Inside v) s
reads_inside false [] = record { outcome = None; rest = []; front = []; is = refl; split = refl; one = λ c z z' k. absurd cc; fate = begins_inside false }
reads_inside true [] = record { outcome = None; rest = []; front = []; is = refl; split = refl; one = λ c z z' k. absurd cc; fate = begins_inside true }
reads_inside false (b ∷ s) = inside_by b s (nat_eq 34 b) (nat_eq 92 b) refl refl (reads_inside true s) (reads_inside false s)
reads_inside true (b ∷ s) = escaped_by b s (is_quote b) refl (reads_inside false s)

quoted_joins : (at : ℕ) → Sequence (IsItem (nat_eq 34)) (λ _. Wrapped (Quoted at) (Inside false)) (IsLeaf at)
quoted_joins at = record {
  then = λ a s b t g (m, (c, e2, h), v). let k = eq_means 34 b g.0 in let e = g.1 in rw v (refl, (c, rw (e, k, e2) refl, h));
  ends = λ a b g. (34 ∷ [], Quoted at [], ([], ([], refl, refl), refl));
}

pub reads_quoted : (at : ℕ) (s : List ℕ) → Reads (quoted_at at) (IsLeaf at) s
unfolding quoted_at
reads_quoted at s = reads_bind (item (nat_eq 34)) (λ _. bind (inside_at false) (λ m. done (Quoted at m))) (IsItem (nat_eq 34)) (λ _. Wrapped (Quoted at) (Inside false)) (IsLeaf at) (quoted_joins at) s
    (reads_item (nat_eq 34) (only 34 refl) s) (λ _. reads_wrapped (Quoted at) (inside_at false) (Inside false) _ (reads_inside false _))

inside_again : (a r m : List ℕ) → IsEscaped is_quote a m → inside_at false (a ++ (34 ∷ r)) ≡ (Some m, r)
inside_again a r [] h = rw h refl
inside_again a r (c ∷ m) (x, inl (q, e), h) =
    let k = or_left (nat_eq 34 c) (nat_eq 92 c) q in let l = or_right (nat_eq 34 c) (nat_eq 92 c) q in
    let rest = inside_again x r m h in
    rw (e, k, l, rest) refl
inside_again a r (c ∷ m) (x, inr (q, e), h) = let rest = inside_again x r m h in rw (e, q, rest) refl

pub quoted_again : (at : ℕ) (s r m : List ℕ) → IsQuoted s m → quoted_at at (s ++ r) ≡ (Some (Quoted at m), r)
unfolding quoted_at
quoted_again at s r m (a, e, h) =
    let p : s ++ r ≡ 34 ∷ (a ++ (34 ∷ r)) = ap (λ (w : List ℕ). w ++ r) e ∙ ap (λ (w : List ℕ). 34 ∷ w) (append_assoc a (34 ∷ []) r) in
    let k = inside_again a r m h in
    rw (p, k) refl
