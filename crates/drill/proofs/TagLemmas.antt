-- The tags of a drill's tokens: tags, and all different.
use Rattle.std.proofs.Common.{◌≡◌, ℕ, zero, suc, ◌+◌, ◌/◌, ◌%◌, ◌≤◌, ◌<◌, List, [], ◌∷◌, ◌++◌, map, refl, ap, ◌∙◌, arith, true, false, Bool, ◌||◌, ◌⊎◌, inl, inr}
use Rattle.std.specs.Prelude.{All, decimal}
use Rattle.std.proofs.lemmas.List.Elements.{All-nil, All-cons, All-head, All-tail}
use Rattle.std.specs.List.{range_with_len}
use Rattle.std.specs.Str.{bytes_eq}
use Rattle.std.proofs.lemmas.Bool.Decides.{nat_tests}
use Rattle.std.proofs.lemmas.Fmt.{decimal_digit, decimal_injective, decimal_step}
use Rattle.std.proofs.lemmas.Slice.Eq.{bytes_eq-Decides}
use Rattle.names.specs.Tag.{is_tag, is_tag_byte}
use Rattle.seats.specs.Book.{tag_used}
use Rattle.std.proofs.lemmas.List.FromFn.{map-range_with_len_more}
use Rattle.drill.specs.Numbered.{cell_at, cells_up_to, tag_at}
use Rattle.drill.specs.Campaign.{book_at}

-- ---- they are tags

one_digit : (d : ℕ) → d < 10 → is_tag_byte (48 + d) ≡ true
one_digit d lt = grind (arith, nat_tests)

pub tag_is_tag : (k : ℕ) → k < 40 → is_tag (tag_at k) ≡ true
unfolding is_tag
tag_is_tag k lt = elim (small k) [ inl one ↦ rw (decimal_digit k one, one_digit k one) refl | inr more ↦ two more ]
  where
    small : (k : ℕ) → (k < 10) ⊎ (10 ≤ k)
    small k = grind arith

    two : 10 ≤ k → is_tag (tag_at k) ≡ true
    two more =
        let tens : k / 10 < 10 = omega (arith, lt) in
        let ones : k % 10 < 10 = omega arith in
        rw (decimal_step k more (omega (arith, lt)), decimal_digit (k / 10) tens, one_digit (k / 10) tens, one_digit (k % 10) ones) refl

-- ---- and all different

pub tags_differ : (j k : ℕ) → j < 40 → k < 40 → (j ≡ k → ⊥) → bytes_eq (tag_at j) (tag_at k) ≡ false
tags_differ j k low high apart = by (bytes_eq (tag_at j) (tag_at k)) refl
  where
    by : (b : Bool) → bytes_eq (tag_at j) (tag_at k) ≡ b → b ≡ false
    by false e = refl
    by true e =
        let same : tag_at j ≡ tag_at k = (bytes_eq-Decides (tag_at j) (tag_at k)).0 e in
        let digits : decimal j ≡ decimal k = cc in
        absurd (apart (decimal_injective j k (omega (arith, low)) (omega (arith, high)) digits))

pub same_tag : (k : ℕ) → bytes_eq (tag_at k) (tag_at k) ≡ true
same_tag k = (bytes_eq-Decides (tag_at k) (tag_at k)).1 refl

-- the tag of a later number is none of these
pub none_used : (k i n : ℕ) → i + n ≤ k → k < 40 → tag_used (map tag_at (range_with_len i n)) (tag_at k) ≡ false
none_used k i zero few lt = refl
none_used k i (suc n) few lt = rw (tags_differ i k (omega (arith, few, lt)) lt (λ e. absurd (omega (arith, e, few)))) (none_used k (i + 1) n (omega (arith, few)) lt)

-- the tag of a number among these is one of them
pub one_used : (k i n : ℕ) → i ≤ k → k < i + n → k < 40 → tag_used (map tag_at (range_with_len i n)) (tag_at k) ≡ true
one_used k i zero low high lt = absurd (omega (arith, low, high))
one_used k i (suc n) low high lt = elim (first i k) [ inl same ↦ at same | inr later ↦ after (one_used k (i + 1) n (omega (arith, low, later)) (omega (arith, high)) lt) ]
  where
    first : (i k : ℕ) → (i ≡ k) ⊎ (i ≡ k → ⊥)
    first i k = grind arith

    or_true : (b : Bool) → (b || true) ≡ true
    or_true true = refl
    or_true false = refl

    at : i ≡ k → tag_used (map tag_at (range_with_len i (suc n))) (tag_at k) ≡ true
    at same = ap (λ t. bytes_eq t (tag_at k) || tag_used (map tag_at (range_with_len (i + 1) n)) (tag_at k)) (ap tag_at same) ∙ ap (λ b. b || tag_used (map tag_at (range_with_len (i + 1) n)) (tag_at k)) (same_tag k)

    after : tag_used (map tag_at (range_with_len (i + 1) n)) (tag_at k) ≡ true → tag_used (map tag_at (range_with_len i (suc n))) (tag_at k) ≡ true
    after rest = ap (λ b. bytes_eq (tag_at i) (tag_at k) || b) rest ∙ or_true (bytes_eq (tag_at i) (tag_at k))

-- ---- one tag more

pub tags_more : (k : ℕ) → map tag_at (range_with_len 0 (k + 1)) ≡ map tag_at (range_with_len 0 k) ++ tag_at k ∷ []
tags_more k = map-range_with_len_more tag_at 0 k k (omega arith)

-- ---- one book more, one cell more

pub books_more : (k : ℕ) → map book_at (range_with_len 0 (k + 1)) ≡ map book_at (range_with_len 0 k) ++ book_at k ∷ []
books_more k = map-range_with_len_more book_at 0 k k (omega arith)

pub cells_more : (n k : ℕ) → cells_up_to n (k + 1) ≡ cells_up_to n k ++ cell_at n k ∷ []
cells_more n k = map-range_with_len_more (cell_at n) 0 k k (omega arith)

pub all_push : {A : Type 0} (P : A → Type 0) (xs : List A) (x : A) → All P xs → P x → All P (xs ++ x ∷ [])
all_push P [] x h p = All-cons P x [] p (All-nil P)
all_push P (y ∷ xs) x h p = All-cons P y (xs ++ x ∷ []) (All-head P y xs h) (all_push P xs x (All-tail P y xs h) p)
