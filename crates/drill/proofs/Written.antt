-- The campaign text takes a drill's world.
use Rattle.std.proofs.Common.{◌≡◌, ℕ, zero, suc, ◌+◌, ◌/◌, ◌≤◌, ◌<◌, ◌++◌, refl, arith, true, Bool, ◌&&◌, ◌⊎◌, inl, inr}
use Rattle.std.specs.Prelude.{codes, decimal, map}
use Rattle.std.specs.List.{list_all, range_with_len}
use Rattle.std.proofs.lemmas.Fmt.{decimal_digit, decimal_step}
use Rattle.tokens.specs.declared.token.Token.{Token}
use Rattle.campaign_writing.specs.Written.{IsOfFirst, IsWritten, are_written_keys, are_written_macros, is_written_key, is_written_token}
use Rattle.world.proofs.TokenRules.{all_put}
use Rattle.drill.specs.Numbered.{tag_at}
use Rattle.drill.specs.Campaign.{book_at, drill_world, token_at, tokens_up_to, world_with}

short_name : (k : ℕ) → k < 40 → is_written_token (tag_at k) 1 ≡ true
short_name k lt = elim (small k) [ inl one ↦ rw (decimal_digit k one) refl | inr more ↦ two more ]
  where
    small : (k : ℕ) → (k < 10) ⊎ (10 ≤ k)
    small k = grind arith

    two : 10 ≤ k → is_written_token (tag_at k) 1 ≡ true
    two more =
        let tens : k / 10 < 10 = omega (arith, lt) in
        rw (decimal_step k more (omega (arith, lt)), decimal_digit (k / 10) tens) refl

abbrev is_written : Token → Bool
is_written t = is_written_token t.name t.size

written_token : (n k : ℕ) → k < 40 → is_written (token_at n k) ≡ true
unfolding token_at
written_token n k lt = short_name k lt

written_tokens : (n k : ℕ) → k ≤ 40 → list_all is_written (tokens_up_to n k) ≡ true
unfolding tokens_up_to
written_tokens n zero most = refl
written_tokens n (suc k) most = all_put is_written (token_at n k) (tokens_up_to n k) (written_token n k (omega (arith, most))) (written_tokens n k (omega (arith, most)))

short_key : (k : ℕ) → k < 10 → is_written_key (codes "k" ++ decimal k) ≡ true
short_key k lt = rw (decimal_digit k lt) refl

short_keys : (n from : ℕ) → from + n ≤ 10 → are_written_keys (map book_at (range_with_len from n)) ≡ true
unfolding book_at
short_keys zero from few = refl
short_keys (suc n) from few =
    let one = short_key from (omega (arith, few)) in
    let others = short_keys n (from + 1) (omega (arith, few)) in
    λ i. one i && others i

no_macros : (n from : ℕ) → are_written_macros (map book_at (range_with_len from n)) ≡ true
unfolding book_at
no_macros zero from = refl
no_macros (suc n) from = no_macros n (from + 1)

pub drill_is_written : (n : ℕ) → IsWritten (drill_world n)
unfolding world_with
drill_is_written n = record {
  tokens = written_tokens n 40 (omega arith);
  keys = short_keys 5 0 (omega arith);
  macros = no_macros 5 0;
}

pub drill_is_of_first : (n : ℕ) → IsOfFirst (drill_world n)
unfolding world_with
drill_is_of_first n = record { trails = refl; darknesses = refl }
