-- Blanks and names, as they are read against the grammar's.
use Rattle.std.proofs.Common.{◌≡◌, ℕ, zero, suc, ◌≤◌, Bool, true, false, ◌&&◌, ◌||◌, cond, List, [], ◌∷◌, ◌++◌, length, Option, Some, None, refl, sym, ap, ◌∙◌, arith, inl, inr, ◌⊎◌}
use Rattle.std.proofs.lemmas.Bool.Decides.{nat_tests}
use Rattle.std.specs.Prelude.{nat_eq}
use Rattle.reading.specs.Reading.{Read, done, carry, bind, item}
use Rattle.reading.specs.Number.{IsDigit, is_digit}
use Rattle.reading.specs.Placed.{many_at}
use Rattle.reading.proofs.Pairs.{eq_means, Free}
use Rattle.reading.proofs.Laws.{Fate, Reads, Sequence, reads_bind, reads_item, IsItem, SomeItem}
use Rattle.reading.proofs.Combine.{Wrapped, reads_wrapped}
use Rattle.reading.proofs.Number.{digit_means}
use Rattle.macro_grammar.specs.declared.words.Function.{Function}
use Rattle.macro_grammar.specs.declared.words.Function.TheVariants.{Prop, Own, Secret, Has, SetProp, SetOwn, Arg, Argc, Min, Max, Abs, Len, Num}
use Rattle.macro_grammar.specs.Grammar.{AreBlanks, IsLetter, AreNameBytes, IsName, function_name}
use Rattle.macro_grammar.specs.Readers.{is_blank, blanks_at, is_letter, is_name_byte, name_at, same_bytes, function_among, functions, function_of}

abbrev pub TheBlanks : List ℕ → List ℕ → Type 0
TheBlanks s x = AreBlanks s × (x ≡ s)

-- a byte more in front
pub cons_fate : (G H : List ℕ → List ℕ → Type 0) (b : ℕ) (f : List ℕ) (o : Option (List ℕ)) → ((s x : List ℕ) → G s x → H (b ∷ s) (b ∷ x)) → Fate G f o → Fate H (b ∷ f) (carry (λ bs. done (b ∷ bs)) o []).0
cons_fate G H b f None up h = (h.0, b ∷ h.1, up (f ++ h.0) h.1 h.2)
cons_fate G H b f (Some x) up h = up f x h

pub cons_is : (b : ℕ) (o : Option (List ℕ)) (r : List ℕ) → carry (λ bs. done (b ∷ bs)) o r ≡ ((carry (λ bs. done (b ∷ bs)) o []).0, r)
cons_is b None r = refl
cons_is b (Some x) r = refl

pub reads_cons : (test : ℕ → Bool) (p q : Read (List ℕ)) (G H : List ℕ → List ℕ → Type 0) (b : ℕ) (s : List ℕ)
    → ((s2 : List ℕ) → q (b ∷ s2) ≡ carry (λ bs. done (b ∷ bs)) (p s2).0 (p s2).1)
    → ((s x : List ℕ) → G s x → H (b ∷ s) (b ∷ x)) → Reads p G s → Reads q H (b ∷ s)
reads_cons test p q G H b s step up r = record {
  outcome = (carry (λ bs. done (b ∷ bs)) r.outcome []).0;
  rest = r.rest;
  front = b ∷ r.front;
  is = step s ∙ rw r.is (cons_is b r.outcome r.rest);
  split = ap (λ (w : List ℕ). b ∷ w) r.split;
  one = λ c z z' h. step (r.front ++ (c ∷ z')) ∙ rw (r.one c z z' h) (cons_is b r.outcome (c ∷ z'));
  fate = cons_fate G H b r.front r.outcome up r.fate;
}

reads_stop : (q : Read (List ℕ)) (H : List ℕ → List ℕ → Type 0) (b : ℕ) (s : List ℕ) → H [] [] → ((s2 : List ℕ) → q (b ∷ s2) ≡ (Some [], b ∷ s2)) → Reads q H (b ∷ s)
reads_stop q H b s h e = record {
  outcome = Some [];
  rest = b ∷ s;
  front = [];
  is = e s;
  split = refl;
  one = λ c z z' k. let same : b ≡ c = cc in rw (← same) (e z');
  fate = h;
}

reads_empty : (q : Read (List ℕ)) (H : List ℕ → List ℕ → Type 0) → H [] [] → q [] ≡ (Some [], []) → Reads q H []
reads_empty q H h e = record { outcome = Some []; rest = []; front = []; is = e; split = refl; one = λ c z z' k. absurd cc; fate = h }

blank_by : (b : ℕ) (s : List ℕ) (v : Bool) → is_blank b ≡ v → Reads blanks_at TheBlanks s → Reads blanks_at TheBlanks (b ∷ s)
blank_by b s true e r = reads_cons is_blank blanks_at blanks_at TheBlanks TheBlanks b s (λ s2. rw e refl) (λ f x g. ((sym (eq_means b 32 e), g.0), ap (λ (w : List ℕ). b ∷ w) g.1)) r
blank_by b s false e r = reads_stop blanks_at TheBlanks b s (tt, refl) (λ s2. rw e refl)

pub reads_blanks : (s : List ℕ) → Reads blanks_at TheBlanks s
reads_blanks [] = reads_empty blanks_at TheBlanks (tt, refl) refl
reads_blanks (b ∷ s) = blank_by b s (is_blank b) refl (reads_blanks s)

abbrev pub AllMeet : (ℕ → Bool) → List ℕ → Type 0
AllMeet test [] = Unit {0}
AllMeet test (b ∷ s) = (test b ≡ true) × AllMeet test s

abbrev pub TheMany : (ℕ → Bool) → ℕ → List ℕ → List ℕ → Type 0
TheMany test most s x = AllMeet test s × (length s ≤ most) × (x ≡ s)

many_by : (test : ℕ → Bool) (most b : ℕ) (s : List ℕ) (v : Bool) → test b ≡ v → Reads (many_at test most) (TheMany test most) s → Reads (many_at test (suc most)) (TheMany test (suc most)) (b ∷ s)
many_by test most b s true e r = reads_cons test (many_at test most) (many_at test (suc most)) (TheMany test most) (TheMany test (suc most)) b s (λ s2. rw e refl) (λ f x g. ((e, g.0), omega (arith, g.1), ap (λ (w : List ℕ). b ∷ w) g.2)) r
many_by test most b s false e r = reads_stop (many_at test (suc most)) (TheMany test (suc most)) b s (tt, omega arith, refl) (λ s2. rw e refl)

pub reads_many : (test : ℕ → Bool) (most : ℕ) (s : List ℕ) → Reads (many_at test most) (TheMany test most) s
reads_many test zero s = record { outcome = Some []; rest = s; front = []; is = refl; split = refl; one = λ b z z' e. refl; fate = (tt, omega arith, refl) }
reads_many test (suc most) [] = reads_empty (many_at test (suc most)) (TheMany test (suc most)) (tt, omega arith, refl) refl
reads_many test (suc most) (b ∷ s) = many_by test most b s (test b) refl (reads_many test most s)

pub letter_means : (b : ℕ) → is_letter b ≡ true → IsLetter b
letter_means b h = grind (arith, nat_tests)

name_byte_by : (b : ℕ) (v w : Bool) → is_letter b ≡ v → is_digit b ≡ w → v || (w || nat_eq b 95) ≡ true → IsLetter b ⊎ (IsDigit b ⊎ (b ≡ 95))
name_byte_by b true w e f h = inl (letter_means b e)
name_byte_by b false true e f h = inr (inl (digit_means b f))
name_byte_by b false false e f h = inr (inr (sym (eq_means b 95 h)))

name_bytes : (s : List ℕ) → AllMeet is_name_byte s → AreNameBytes s
name_bytes [] h = tt
name_bytes (b ∷ s) h = (name_byte_by b (is_letter b) (is_digit b) refl refl h.0, name_bytes s h.1)

abbrev pub TheName : List ℕ → List ℕ → Type 0
TheName s x = (s ≡ x) × IsName x

name_joins : Sequence (IsItem is_letter) (λ b. Wrapped (λ bs. b ∷ bs) (TheMany is_name_byte 23)) TheName
name_joins = record {
  then = λ a s b y g (bs, h, v).
      let e = g.1 in let f = h.2 in
      (rw (e, v, f) refl, rw (v, f) (letter_means b g.0, name_bytes s h.0, h.1));
  ends = λ a b g. ([], b ∷ [], ([], (tt, omega arith, refl), refl));
}

pub letters : SomeItem is_letter
letters = record { byte = 97; meets = refl }

pub reads_name : (s : List ℕ) → Reads name_at TheName s
unfolding name_at
reads_name s = reads_bind (item is_letter) (λ b. bind (many_at is_name_byte 23) (λ bs. done (b ∷ bs))) (IsItem is_letter) (λ b. Wrapped (λ bs. b ∷ bs) (TheMany is_name_byte 23)) TheName name_joins s
    (reads_item is_letter letters s) (λ b. reads_wrapped (λ bs. b ∷ bs) (many_at is_name_byte 23) (TheMany is_name_byte 23) _ (reads_many is_name_byte 23 _))

-- ---- read again

pub blanks_back : (w r : List ℕ) → AreBlanks w → Free is_blank r → blanks_at (w ++ r) ≡ (Some w, r)
blanks_back [] [] h free = refl
blanks_back [] (b ∷ r) h free = rw free refl
blanks_back (b ∷ w) r h free = let e = h.0 in let k = blanks_back w r h.1 free in rw (e, k) refl

pub name_byte_test : (b : ℕ) → IsLetter b ⊎ (IsDigit b ⊎ (b ≡ 95)) → is_name_byte b ≡ true
name_byte_test b (inl h) = let e : is_letter b ≡ true = grind (arith, nat_tests) in rw e refl
name_byte_test b (inr (inl h)) = grind (arith, nat_tests)
name_byte_test b (inr (inr h)) = rw h refl

pub many_back : (most : ℕ) (f r : List ℕ) → AreNameBytes f → length f ≤ most → Free is_name_byte r → many_at is_name_byte most (f ++ r) ≡ (Some f, r)
many_back zero [] r h l free = refl
many_back zero (b ∷ f) r h l free = absurd (omega arith)
many_back (suc most) [] [] h l free = refl
many_back (suc most) [] (b ∷ r) h l free = rw free refl
many_back (suc most) (b ∷ f) r h l free = let e = name_byte_test b h.0 in let k = many_back most f r h.1 (omega arith) free in rw (e, k) refl

pub letter_test : (b : ℕ) → IsLetter b → is_letter b ≡ true
letter_test b h = grind (arith, nat_tests)

pub letter_no_digit : (b : ℕ) → IsLetter b → is_digit b ≡ false
letter_no_digit b h = grind (arith, nat_tests)

pub name_back : (f r : List ℕ) → IsName f → Free is_name_byte r → name_at (f ++ r) ≡ (Some f, r)
unfolding name_at
name_back [] r h free = absurd h
name_back (b ∷ f) r h free = let e = letter_test b h.0 in let k = many_back 23 f r h.1 h.2 free in rw (e, k) refl

-- ---- functions

same_by : (b c : ℕ) (s t : List ℕ) (v : Bool) → nat_eq b c ≡ v → v && same_bytes s t ≡ true → (same_bytes s t ≡ true → s ≡ t) → (b ∷ s) ≡ (c ∷ t)
same_by b c s t true e k rest = let same = eq_means b c e in let f = rest k in rw (same, f) refl
same_by b c s t false e k rest = absurd cc

same_means : (s t : List ℕ) → same_bytes s t ≡ true → s ≡ t
same_means [] [] h = refl
same_means [] (c ∷ t) h = absurd cc
same_means (b ∷ s) [] h = absurd cc
same_means (b ∷ s) (c ∷ t) h = same_by b c s t (nat_eq b c) refl h (same_means s t)

among_by : (g f : Function) (fs : List Function) (name : List ℕ) (v : Bool) → same_bytes (function_name g) name ≡ v → cond v (Some g) (function_among fs name) ≡ Some f → (function_among fs name ≡ Some f → function_name f ≡ name) → function_name f ≡ name
among_by g f fs name true e h rest = let same : g ≡ f = cc in rw (← same) (same_means (function_name g) name e)
among_by g f fs name false e h rest = rest h

among_means : (fs : List Function) (f : Function) (name : List ℕ) → function_among fs name ≡ Some f → function_name f ≡ name
among_means [] f name h = absurd cc
among_means (g ∷ fs) f name h = among_by g f fs name (same_bytes (function_name g) name) refl h (among_means fs f name)

pub function_means : (f : Function) (name : List ℕ) → function_of name ≡ Some f → function_name f ≡ name
unfolding function_of
function_means f name h = among_means functions f name h

-- each name of the table is its function's, and of the grammar of names
pub function_named : (f : Function) → function_of (function_name f) ≡ Some f
unfolding function_of
function_named Prop = refl
function_named Own = refl
function_named Secret = refl
function_named Has = refl
function_named SetProp = refl
function_named SetOwn = refl
function_named Arg = refl
function_named Argc = refl
function_named Min = refl
function_named Max = refl
function_named Abs = refl
function_named Len = refl
function_named Num = refl
