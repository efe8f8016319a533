-- Worked examples of runs, over given words.
use Rattle.std.proofs.Common.{◌≡◌, [], ◌∷◌, refl}
use Rattle.std.specs.Prelude.{Ok, Err, codes}
use Rattle.std.specs.Fmt.{digits}
use Rattle.macro_eval.specs.declared.stop.MacroStop.TheVariants.{Fault}
use Rattle.macro_eval.specs.declared.stop.FaultKind.TheVariants.{DivZero}
use Rattle.macro_eval.specs.Nodes.{value_of}
use Rattle.macro_grammar.specs.Readers.{macro_at, roll_at, options_at, branch_word_at, address_word_at, statement_at, compare_operator_at, inner_at, atom_at, group_at, word_at, arguments_at, quoted_at, number_or_dice_at, function_of, name_at}
use Rattle.reading.specs.Number.{number_at}
use Rattle.dice_parse.specs.Readers.{die_at, explode_at, again_at, tail_at}
use Rattle.macro_parse.specs.Answers.{macro_of}
use Rattle.macro_eval.specs.Runs.{run_of}
use Rattle.macro_eval.specs.Examples.{to_all, shown_to_all, hit, by_zero, decided_by_the_left, remainder_below_zero, whispered_rounds}

pub hit_shows : run_of to_all (λ k. 2917185654) hit ≡ Ok (record { texts = codes "14 hit " ∷ (codes " hit 14" ∷ (codes " hit " ∷ [])); intents = []; used = 1 })
unfolding run_of value_of digits
hit_shows = refl

pub by_zero_stops : run_of to_all (λ k. 0) (shown_to_all by_zero) ≡ Err (Fault DivZero 6)
unfolding run_of value_of
by_zero_stops = refl

pub left_decides : run_of to_all (λ k. 0) (shown_to_all decided_by_the_left) ≡ Ok (record { texts = codes "0" ∷ (codes "0" ∷ (codes "0" ∷ [])); intents = []; used = 0 })
unfolding run_of value_of digits
left_decides = refl

pub remainder_has_the_sign_of_the_dividend : run_of to_all (λ k. 0) (shown_to_all remainder_below_zero) ≡ Ok (record { texts = codes "-1" ∷ (codes "-1" ∷ (codes "-1" ∷ [])); intents = []; used = 0 })
unfolding run_of value_of digits
remainder_has_the_sign_of_the_dividend = refl

pub one_seat_is_whispered_to : run_of to_all (λ k. 0) whispered_rounds ≡ Ok (record { texts = [] ∷ ([] ∷ (codes "1, 2, 3" ∷ [])); intents = []; used = 0 })
unfolding run_of value_of digits
one_seat_is_whispered_to = refl

-- ---- what their texts spell

pub hit_is_read : macro_of (codes "[h: x = 1d20][g: x] hit [s: x]") ≡ Ok hit
unfolding macro_of macro_at roll_at options_at branch_word_at address_word_at statement_at compare_operator_at inner_at atom_at group_at word_at arguments_at quoted_at number_or_dice_at function_of name_at number_at die_at explode_at again_at tail_at
hit_is_read = refl

pub by_zero_is_read : macro_of (codes "[r: 1 / 0]") ≡ Ok (shown_to_all by_zero)
unfolding macro_of macro_at roll_at options_at branch_word_at address_word_at statement_at compare_operator_at inner_at atom_at group_at word_at arguments_at quoted_at number_or_dice_at function_of name_at number_at die_at explode_at again_at tail_at
by_zero_is_read = refl

pub decided_by_the_left_is_read : macro_of (codes "[r: 0 && 1 / 0]") ≡ Ok (shown_to_all decided_by_the_left)
unfolding macro_of macro_at roll_at options_at branch_word_at address_word_at statement_at compare_operator_at inner_at atom_at group_at word_at arguments_at quoted_at number_or_dice_at function_of name_at number_at die_at explode_at again_at tail_at
decided_by_the_left_is_read = refl

pub remainder_below_zero_is_read : macro_of (codes "[r: -7 % 3]") ≡ Ok (shown_to_all remainder_below_zero)
unfolding macro_of macro_at roll_at options_at branch_word_at address_word_at statement_at compare_operator_at inner_at atom_at group_at word_at arguments_at quoted_at number_or_dice_at function_of name_at number_at die_at explode_at again_at tail_at
remainder_below_zero_is_read = refl

pub whispered_rounds_is_read : macro_of (codes "[w(2),count(3): count + 1]") ≡ Ok whispered_rounds
unfolding macro_of macro_at roll_at options_at branch_word_at address_word_at statement_at compare_operator_at inner_at atom_at group_at word_at arguments_at quoted_at number_or_dice_at function_of name_at number_at die_at explode_at again_at tail_at
whispered_rounds_is_read = refl
