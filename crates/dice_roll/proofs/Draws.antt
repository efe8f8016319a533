-- Draws from a stream, against what dice mean.
use Rattle.std.proofs.Common.{◌≡◌, ℕ, zero, suc, ◌+◌, ◌-◌, ◌≤◌, ◌≢◌, true, false, [], ◌∷◌, ◌++◌, length, Some, refl, sym, ap, ◌∙◌, arith, inl, inr, ◌⊎◌, add-zero, zero-add, add_assoc, append_assoc, append-nil}
use Rattle.std.proofs.lemmas.List.Elements.{All-push}
use Rattle.std.proofs.lemmas.Bool.{le-leb}
use Rattle.std.proofs.lemmas.Bool.Decides.{nat_tests}
use Rattle.std.specs.Prelude.{nat_le, nat_eq, List, All}
use Rattle.dice_parse.specs.declared.parts.Group.{Group}
use Rattle.seat_random.specs.Stream.{Stream, word_of, after, shown}
use Rattle.seat_random.proofs.Ahead.{word_after, words_after, after_after}
use Rattle.dice_roll.specs.Rolling.{first_value, first_used, later, further, most_further, die_further, die_values, die_used, dice_values, dice_used}

pub again_yes : (s : Stream) (g : Group) (limit v : ℕ) → g.again ≡ Some limit → v ≡ shown (word_of s 0) g.sides → v ≤ limit
    → (shown (word_of (after s 1) 0) g.sides ≡ first_value (word_of s) g) × (after (after s 1) 1 ≡ after s (first_used (word_of s) g))
again_yes s g limit v e f le =
    let t : nat_le (shown (word_of s 0) g.sides) limit ≡ true = rw (← f) (le-leb v limit le) in
    (rw (e, t) (ap (λ (w : ℕ). shown w g.sides) (word_after s 1 0)), rw (e, t) (after_after s 1 1))

further_stop : (word : ℕ → ℕ) (sides most last : ℕ) → (most ≡ 0) ⊎ (last ≢ sides) → further word sides most last ≡ []
further_stop word sides zero last h = refl
further_stop word sides (suc most) last (inl h) = absurd (omega arith)
further_stop word sides (suc most) last (inr h) = let e : nat_eq last sides ≡ false = grind (arith, nat_tests) in rw e refl

further_more : (s : Stream) (sides most last v : ℕ) → most ≢ 0 → last ≡ sides → v ≡ shown (word_of s 0) sides
    → further (word_of s) sides most last ≡ v ∷ further (word_of (after s 1)) sides (most - 1) v
further_more s sides zero last v ne e f = absurd (ne refl)
further_more s sides (suc most) last v ne e f =
    let t : nat_eq last sides ≡ true = grind (arith, nat_tests) in
    let m : suc most - 1 ≡ most = omega arith in
    rw (t, words_after s 1, m, f) refl

abbrev pub Small : List ℕ → Type 0
Small values = All (λ x. x ≤ 1000) values

-- further values are drawn one by one: these are in the list, and as many words are used as came to it
pub record Exploding (first now : Stream) (g : Group) (left last : ℕ) (before values : List ℕ) : Type 0 where
  pub used : ℕ
  pub stream : now ≡ after first used
  pub words : die_used (word_of first) g ≡ used + length (further (word_of now) g.sides left last)
  pub shown-is : before ++ die_values (word_of first) g ≡ values ++ further (word_of now) g.sides left last
  pub small : Small before → Small values

pub exploding_first : (first now : Stream) (g : Group) (last most : ℕ) (before values : List ℕ) → now ≡ after first (first_used (word_of first) g) → last ≡ first_value (word_of first) g → last ≤ 1000 → most ≡ most_further g
    → values ≡ before ++ (last ∷ []) → Exploding first now g most last before values
exploding_first first now g last most before values s v le m e =
    let w : word_of now ≡ later (first_used (word_of first) g) (word_of first) = ap word_of s ∙ words_after first (first_used (word_of first) g) in
    record {
      used = first_used (word_of first) g;
      stream = s;
      words = rw (w, v, m) refl;
      shown-is = rw (w, e, v, m) (sym (append_assoc before (first_value (word_of first) g ∷ []) (die_further (word_of first) g)));
      small = λ h. rw e (All-push (λ x. x ≤ 1000) before last h le);
    }

pub exploding_next : (first now moved : Stream) (g : Group) (left last value : ℕ) (before values more : List ℕ) → Exploding first now g left last before values → left ≢ 0 → last ≡ g.sides
    → value ≡ shown (word_of now 0) g.sides → value ≤ 1000 → moved ≡ after now 1 → more ≡ values ++ (value ∷ []) → Exploding first moved g (left - 1) value before more
exploding_next first now moved g left last value before values more x ne same v le s e =
    let step = further_more now g.sides left last value ne same v in
    record {
      used = x.used + 1;
      stream = s ∙ (ap (λ (y : Stream). after y 1) x.stream ∙ after_after first x.used 1);
      words = x.words ∙ rw (step, s) (let one = length (further (word_of (after now 1)) g.sides (left - 1) value) in omega arith);
      shown-is = x.shown-is ∙ rw (step, s, e) (sym (append_assoc values (value ∷ []) (further (word_of (after now 1)) g.sides (left - 1) value)));
      small = λ h. rw e (All-push (λ y. y ≤ 1000) values value (x.small h) le);
    }

pub exploding_end : (first now : Stream) (g : Group) (left last : ℕ) (before values : List ℕ) → Exploding first now g left last before values → (left ≡ 0) ⊎ (last ≢ g.sides)
    → (values ≡ before ++ die_values (word_of first) g) × (now ≡ after first (die_used (word_of first) g))
exploding_end first now g left last before values x stop =
    let none = further_stop (word_of now) g.sides left last stop in
    let all = rw none at x.shown-is in
    let words = rw none at x.words in
    (sym (all ∙ append-nil values), x.stream ∙ ap (λ (n : ℕ). after first n) (sym (words ∙ add-zero x.used)))

-- dice are rolled one by one
pub record Rolling (first now : Stream) (g : Group) (count left : ℕ) (before values : List ℕ) : Type 0 where
  pub used : ℕ
  pub stream : now ≡ after first used
  pub words : dice_used (word_of first) g count ≡ used + dice_used (word_of now) g left
  pub shown-is : before ++ dice_values (word_of first) g count ≡ values ++ dice_values (word_of now) g left
  pub small : Small before → Small values

pub rolling_first : (s : Stream) (g : Group) (count left : ℕ) (values : List ℕ) → left ≡ count → Rolling s s g count left values values
unfolding after
rolling_first s g count left values same = record { used = 0; stream = refl; words = rw same (sym (zero-add (dice_used (word_of s) g count))); shown-is = rw same refl; small = λ h. h }

pub rolling_next : (first now moved : Stream) (g : Group) (count left : ℕ) (before values more : List ℕ) → Rolling first now g count left before values → left ≢ 0
    → moved ≡ after now (die_used (word_of now) g) → more ≡ values ++ die_values (word_of now) g → (Small values → Small more) → Rolling first moved g count (left - 1) before more
rolling_next first now moved g count zero before values more x ne s e small = absurd (ne refl)
rolling_next first now moved g count (suc left) before values more x ne s e small =
    let one : suc left - 1 ≡ left = omega arith in
    let w : word_of moved ≡ later (die_used (word_of now) g) (word_of now) = ap word_of s ∙ words_after now (die_used (word_of now) g) in
    record {
      used = x.used + die_used (word_of now) g;
      stream = s ∙ (ap (λ (y : Stream). after y (die_used (word_of now) g)) x.stream ∙ after_after first x.used (die_used (word_of now) g));
      words = x.words ∙ rw (w, one) (sym (add_assoc x.used (die_used (word_of now) g) (dice_used (later (die_used (word_of now) g) (word_of now)) g left)));
      shown-is = x.shown-is ∙ rw (w, one, e) (sym (append_assoc values (die_values (word_of now) g) (dice_values (later (die_used (word_of now) g) (word_of now)) g left)));
      small = λ h. small (x.small h);
    }

pub rolling_end : (first now : Stream) (g : Group) (count left : ℕ) (before values : List ℕ) → Rolling first now g count left before values → left ≡ 0
    → (values ≡ before ++ dice_values (word_of first) g count) × (now ≡ after first (dice_used (word_of first) g count))
rolling_end first now g count left before values x z =
    let all = rw z at x.shown-is in
    let words = rw z at x.words in
    (sym (all ∙ append-nil values), x.stream ∙ ap (λ (n : ℕ). after first n) (sym (words ∙ add-zero x.used)))
