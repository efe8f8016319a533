-- Each word of the grammar is read again, whatever follows it that doesn't make it longer.
use Rattle.std.proofs.Common.{◌≡◌, ℕ, zero, suc, ◌+◌, ◌<◌, Bool, true, false, ◌||◌, List, [], ◌∷◌, ◌++◌, length, Option, Some, None, refl, ap, append_assoc, arith}
use Rattle.std.proofs.lemmas.List.{length-append}
use Rattle.std.specs.Prelude.{nat_eq}
use Rattle.dice_parse.specs.declared.parts.Tail.{Tail}
use Rattle.dice_parse.specs.declared.parts.Tail.TheVariants.{Keep, Lose, Succeed}
use Rattle.dice_parse.specs.declared.parts.Group.{Group}
use Rattle.dice_parse.specs.declared.parts.Part.{Part}
use Rattle.dice_parse.specs.declared.parts.Part.TheVariants.{Group as AGroup, Number as ANumber}
use Rattle.dice_parse.specs.declared.parts.Term.{Term}
use Rattle.reading.specs.Reading.{done, bind, item}
use Rattle.dice_parse.specs.Grammar.{IsCount, IsExplode, IsAgain, IsTail, IsDie, IsPart, AreMore, IsDice, sign}
use Rattle.dice_parse.specs.Readers.{num_at, explode_at, again_at, is_kind, kind_of, tail_at, die_at, group_at, part_at, is_sign, more_at, dice_at}
use Rattle.reading.specs.Number.{is_digit}
use Rattle.reading.proofs.Pairs.{Free, head_free, or_left, or_right}
use Rattle.reading.proofs.Number.{number_back, lead_digit}

explode_back : (s r : List ℕ) (e : Bool) → IsExplode s e → Free (nat_eq 101) r → explode_at (s ++ r) ≡ (Some e, r)
unfolding explode_at
explode_back s r true h free = rw h refl
explode_back s r false h free = rw h (head_free (nat_eq 101) (bind (item (nat_eq 101)) (λ _. done true)) false r free)

again_back : (s r : List ℕ) (a : Option ℕ) → IsAgain s a → Free (nat_eq 114) r → Free is_digit r → again_at (s ++ r) ≡ (Some a, r)
unfolding again_at
again_back s r None h free f = rw h (head_free (nat_eq 114) (bind (item (nat_eq 114)) (λ _. bind num_at (λ n. done (Some n)))) None r free)
again_back s r (Some n) (t, e, h) free f = let k = number_back 8 t r n h f in rw (e, k) refl

tail_back : (s r : List ℕ) (x : Option (Tail × ℕ)) → IsTail s x → Free is_kind r → Free is_digit r → tail_at (s ++ r) ≡ (Some x, r)
unfolding tail_at
tail_back s r None h free f = rw h (head_free is_kind (bind (item is_kind) (λ b. bind num_at (λ n. done (Some (kind_of b, n))))) None r free)
tail_back s r (Some (Keep, n)) (t, e, h) free f = let k = number_back 8 t r n h f in rw (e, k) refl
tail_back s r (Some (Lose, n)) (t, e, h) free f = let k = number_back 8 t r n h f in rw (e, k) refl
tail_back s r (Some (Succeed, n)) (t, e, h) free f = let k = number_back 8 t r n h f in rw (e, k) refl

-- what makes a part longer
abbrev pub is_suffix : ℕ → Bool
is_suffix b = is_digit b || (is_kind b || (nat_eq 101 b || nat_eq 114 b))

record Ended (r : List ℕ) : Type 0 where
  digit : Free is_digit r
  kind : Free is_kind r
  explode : Free (nat_eq 101) r
  again : Free (nat_eq 114) r
  die : Free (nat_eq 100) r

suffix_free : (r : List ℕ) → Free is_suffix r → Ended r
suffix_free [] h = record { digit = tt; kind = tt; explode = tt; again = tt; die = tt }
suffix_free (b ∷ r) h =
    let k = or_right (is_digit b) _ h in
    let l = or_right (is_kind b) _ k in
    let kind = or_left (is_kind b) _ k in
    record {
      digit = or_left (is_digit b) _ h;
      kind = kind;
      explode = or_left (nat_eq 101 b) _ l;
      again = or_right (nat_eq 101 b) _ l;
      die = or_left (nat_eq 100 b) _ (or_right (nat_eq 107 b) _ kind);
    }

pub free_explode : (test : ℕ → Bool) (s r : List ℕ) (e : Bool) → test 101 ≡ false → IsExplode s e → Free test r → Free test (s ++ r)
free_explode test s r true t h free = rw h t
free_explode test s r false t h free = rw h free

pub free_again : (test : ℕ → Bool) (s r : List ℕ) (a : Option ℕ) → test 114 ≡ false → IsAgain s a → Free test r → Free test (s ++ r)
free_again test s r None t h free = rw h free
free_again test s r (Some n) t (u, e, h) free = rw e t

free_tail : (test : ℕ → Bool) (s r : List ℕ) (x : Option (Tail × ℕ)) → test 107 ≡ false → test 100 ≡ false → test 115 ≡ false → IsTail s x → Free test r → Free test (s ++ r)
free_tail test s r None k l m h free = rw h free
free_tail test s r (Some (Keep, n)) k l m (u, e, h) free = rw e k
free_tail test s r (Some (Lose, n)) k l m (u, e, h) free = rw e l
free_tail test s r (Some (Succeed, n)) k l m (u, e, h) free = rw e m

pub die_back : (count : ℕ) (s r : List ℕ) (g : Group) → IsDie s g → g.count ≡ count → Free is_suffix r → die_at count (s ++ r) ≡ (Some g, r)
unfolding die_at
die_back count s r g d c free =
    let f = suffix_free r free in
    let r3 = d.tail ++ r in
    let r2 = d.again ++ r3 in
    let r1 = d.explode ++ r2 in
    let digit3 = free_tail is_digit d.tail r g.tail refl refl refl d.tail-is f.digit in
    let digit2 = free_again is_digit d.again r3 g.again refl d.again-is digit3 in
    let digit1 = free_explode is_digit d.explode r2 g.explode refl d.explode-is digit2 in
    let e3 = free_tail (nat_eq 101) d.tail r g.tail refl refl refl d.tail-is f.explode in
    let e2 = free_again (nat_eq 101) d.again r3 g.again refl d.again-is e3 in
    let a3 = free_tail (nat_eq 114) d.tail r g.tail refl refl refl d.tail-is f.again in
    let p : s ++ r ≡ d.sides ++ r1 = rw d.parts (simp append_assoc) in
    let k0 = number_back 8 d.sides r1 g.sides d.sides-is digit1 in
    let k1 = explode_back d.explode r2 g.explode d.explode-is e2 in
    let k2 = again_back d.again r3 g.again d.again-is a3 digit3 in
    let k3 = tail_back d.tail r g.tail d.tail-is f.kind f.digit in
    rw (p, k0, k1, k2, k3, ← c) refl

group_back : (f r : List ℕ) (g : Group) (count die : List ℕ) → f ≡ count ++ (100 ∷ die) → IsCount count g.count → IsDie die g → Free is_suffix r → part_at (f ++ r) ≡ (Some (AGroup g), r)
unfolding part_at group_at
group_back f r g [] die e c d free =
    let k = die_back 1 die r g d c free in
    rw (e, k) refl
group_back f r g (b ∷ s) die e c d free =
    let p : f ++ r ≡ (b ∷ s) ++ (100 ∷ (die ++ r)) = rw e (simp append_assoc) in
    let l = lead_digit 8 b s g.count c in
    let n = number_back 8 (b ∷ s) (100 ∷ (die ++ r)) g.count c refl in
    let k = die_back g.count die r g d refl free in
    rw (p, l, n, k) refl

part_back : (f r : List ℕ) (x : Part) → IsPart f x → Free is_suffix r → part_at (f ++ r) ≡ (Some x, r)
unfolding part_at group_at
part_back [] r (ANumber n) h free = absurd h
part_back (b ∷ s) r (ANumber n) h free =
    let e = lead_digit 8 b s n h in
    let k = number_back 8 (b ∷ s) r n h (suffix_free r free).digit in
    let z = head_free (nat_eq 100) (bind (group_at n) (λ g. done (AGroup g))) (ANumber n) r (suffix_free r free).die in
    rw (e, k) z
part_back f r (AGroup g) h free = group_back f r g h.count h.die h.parts h.count-is h.die-is free

sign_test : (v : Bool) → is_sign (sign v) ≡ true
sign_test true = refl
sign_test false = refl

sign_free : (v : Bool) → is_suffix (sign v) ≡ false
sign_free true = refl
sign_free false = refl

sign_minus : (v : Bool) → nat_eq 45 (sign v) ≡ v
sign_minus true = refl
sign_minus false = refl

more_free : (s : List ℕ) (ts : List Term) → AreMore s ts → Free is_suffix s
more_free s [] h = rw h tt
more_free s (t ∷ ts) (a, b, e, p, m) = rw e (sign_free t.minus)

more_back : (turns : ℕ) (s : List ℕ) (ts : List Term) → AreMore s ts → length s < turns → more_at turns s ≡ (Some ts, [])
more_back zero s ts h lt = absurd (omega arith)
more_back (suc turns) s [] h lt = rw h refl
more_back (suc turns) s (t ∷ ts) (a, b, e, p, m) lt =
    let len : length s ≡ suc (length a + length b) = rw e (ap suc (length-append a b)) in
    let k = part_back a b t.part p (more_free b ts m) in
    let l = more_back turns b ts m (omega arith) in
    rw (e, sign_test t.minus, k, l, sign_minus t.minus) refl

pub dice_back : (turns : ℕ) (f : List ℕ) (ts : List Term) → IsDice f ts → length f < turns → dice_at turns f ≡ (Some ts, [])
unfolding dice_at
dice_back turns f [] h lt = absurd h
dice_back turns f (t ∷ ts) (v, a, b, e, p, m) lt =
    let len : length f ≡ length a + length b = rw e (length-append a b) in
    let k = part_back a b t.part p (more_free b ts m) in
    let l = more_back turns b ts m (omega arith) in
    rw (e, k, l, ← v) refl
