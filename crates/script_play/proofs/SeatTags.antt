-- A seat's number in decimal.
use Rattle.std.proofs.Common.{◌≡◌, ℕ, ◌+◌, ◌/◌, ◌%◌, ◌<◌, ◌≤◌, Bool, true, false, [], ◌∷◌, ◌++◌, drop, nat_lt, cond, refl, sym, ◌∙◌, ap, arith}
use Rattle.std.specs.Prelude.{decimal}
use Rattle.std.proofs.lemmas.Fmt.{decimal_digit, decimal_step}
use Rattle.std.proofs.lemmas.Bool.Decides.{nat_tests}
use Rattle.script_play.specs.Tagged.{seat_tag}

one_digit : (n : ℕ) → n < 10 → (48 + n % 10) ∷ 9 ∷ [] ≡ seat_tag n
one_digit n small =
    let same : n % 10 ≡ n = omega (arith, small) in
    ap (λ d. (48 + d) ∷ 9 ∷ []) same ∙ ap (λ ds. ds ++ 9 ∷ []) (sym (decimal_digit n small))

two_digits : (n : ℕ) → 10 ≤ n → n ≤ 32 → (48 + n / 10) ∷ (48 + n % 10) ∷ 9 ∷ [] ≡ seat_tag n
two_digits n large small =
    let tens : decimal (n / 10) ≡ (48 + n / 10) ∷ [] = decimal_digit (n / 10) (omega (arith, small)) in
    let all : decimal n ≡ decimal (n / 10) ++ (48 + n % 10) ∷ [] = decimal_step n large (omega (arith, small)) in
    sym (ap (λ ds. ds ++ 9 ∷ []) (all ∙ ap (λ ds. ds ++ (48 + n % 10) ∷ []) tens))

-- both digits and TAB, behind the tens where these are 0
pub tag_digits : (n first : ℕ) → n ≤ 32 → first ≡ cond (nat_lt n 10) 1 0 → drop first ((48 + n / 10) ∷ (48 + n % 10) ∷ 9 ∷ []) ≡ seat_tag n
tag_digits n first small is = ap (λ k. drop k ((48 + n / 10) ∷ (48 + n % 10) ∷ 9 ∷ [])) is ∙ by_size (nat_lt n 10) refl
  where
    by_size : (one : Bool) → nat_lt n 10 ≡ one → drop (cond one 1 0) ((48 + n / 10) ∷ (48 + n % 10) ∷ 9 ∷ []) ≡ seat_tag n
    by_size true h = one_digit n (grind (arith, nat_tests))
    by_size false h = two_digits n (grind (arith, nat_tests)) small
