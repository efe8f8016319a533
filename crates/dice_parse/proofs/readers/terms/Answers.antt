use Rattle.std.proofs.Common.{◌≡◌, List, [], ◌∷◌, ℕ, length, arith, ◌≢◌, true, false, eqb, refl}
use Rattle.std.proofs.lemmas.Bool.Decides.{nat_tests}
use Rattle.dice_parse.proofs.Turns.{so_far_first, so_far_next, so_far_end, so_far_no_sign, so_far_no_part, dice_none, sign_shorter, part_shorter}
use Rattle.dice_parse.proofs.readers.terms.Goals as goal

not_empty : (s : List ℕ) → false ≡ eqb (length s) 0 → s ≢ []
not_empty [] h e = absurd cc
not_empty (b ∷ s) h e = cc

is_empty : (s : List ℕ) → true ≡ eqb (length s) 0 → s ≡ []
is_empty [] h = refl
is_empty (b ∷ s) h = absurd (grind (arith, nat_tests))

pub returns-in_default-clause-value : goal.returns-in_default-clause-value
returns-in_default-clause-value c = λ turns lt. dice_none turns c.args.cursor.now.rest.now c.part.new.cursor.rest.now c.in_default.ensures

pub loop-cursor-init : goal.loop-cursor-init
loop-cursor-init c =
    let k = so_far_first c.args.cursor.now.rest.now c.part.new.cursor.rest.now c.in-Some.part c.in-Some.ensures in
    rw (c.in_ok-push.ensures.items, c.new-terms.ensures.items) k

pub returns-in_default-sign-clause-value : goal.returns-in_default-sign-clause-value
returns-in_default-sign-clause-value c = so_far_no_sign c.args.cursor.now.rest.now c.loop-cursor.cursor.rest.now c.sign.new.cursor.rest.now c.loop-cursor.terms.items c.loop-cursor.invariant
    (not_empty c.loop-cursor.cursor.rest.now c.loop-cursor-test.ensures) c.in_default-sign.ensures

pub returns-in_default-part-clause-value : goal.returns-in_default-part-clause-value
returns-in_default-part-clause-value c = so_far_no_part c.args.cursor.now.rest.now c.loop-cursor.cursor.rest.now c.sign.new.cursor.rest.now c.part-in-loop-cursor.new.cursor.rest.now c.loop-cursor.terms.items c.in-Some-sign.minus c.loop-cursor.invariant c.in-Some-sign.ensures c.in_default-part.ensures

pub loop-cursor-smaller : goal.loop-cursor-smaller
loop-cursor-smaller c =
    let a = part_shorter c.sign.new.cursor.rest.now c.part-in-loop-cursor.new.cursor.rest.now c.in-Some-part.part c.in-Some-part.ensures in
    let b = sign_shorter c.loop-cursor.cursor.rest.now c.sign.new.cursor.rest.now c.in-Some-sign.minus c.in-Some-sign.ensures in
    omega arith

pub loop-cursor-preserved : goal.loop-cursor-preserved
loop-cursor-preserved c =
    let k = so_far_next c.args.cursor.now.rest.now c.loop-cursor.cursor.rest.now c.sign.new.cursor.rest.now c.part-in-loop-cursor.new.cursor.rest.now c.loop-cursor.terms.items c.in-Some-sign.minus c.in-Some-part.part c.loop-cursor.invariant c.in-Some-sign.ensures c.in-Some-part.ensures in
    rw c.in_ok-push-2.ensures.items k

pub returns-clause-value : goal.returns-clause-value
returns-clause-value c = let z = is_empty c.loop-cursor.cursor.rest.now c.loop-cursor-test.ensures in
    rw z (so_far_end c.args.cursor.now.rest.now c.loop-cursor.cursor.rest.now c.loop-cursor.terms.items c.loop-cursor.invariant z)
