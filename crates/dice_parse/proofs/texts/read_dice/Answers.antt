use Rattle.std.proofs.Common.{◌≡◌, ◌∙◌, sym, Bool, true, false}
use Rattle.dice_parse.proofs.Exact.{found_dice, no_dice}
use Rattle.dice_parse.proofs.Limits.{same_test, dice_fit, dice_too_much, dice_bad}
use Rattle.dice_parse.proofs.texts.read_dice.Goals as goal

pub overflow_sub-place : goal.overflow_sub-place
overflow_sub-place c =
    let a = rw c.in_default-found.is at c.in-Ok.ensures.value in
    (no_dice c.as_bytes-bytes.result.now c.terms.new.cursor.rest.now a).0

pub returns-in_default-found-clause-fault : goal.returns-in_default-found-clause-fault
returns-in_default-found-clause-fault c =
    let a = rw c.in_default-found.is at c.in-Ok.ensures.value in
    let k = no_dice c.as_bytes-bytes.result.now c.terms.new.cursor.rest.now a in
    rw (← c.as_bytes-bytes.ensures.value, c.in-Ok-try_from.ensures.1) (k.1, k.2)

pub returns-then-not-within-clause-fault : goal.returns-then-not-within-clause-fault
returns-then-not-within-clause-fault c =
    let a = rw c.in-Some.is at c.in-Ok.ensures.value in
    let b = rw c.in-Some.is at c.in-Ok.ensures.ended in
    let a2 = rw b at a in
    let k = found_dice c.as_bytes-bytes.result.now c.in-Some.terms.items a2 in
    (c.in-Some.terms.items, rw (← c.as_bytes-bytes.ensures.value) k, (λ w. let f : ◌≡◌ {A = Bool} false true = c.if-not-within.ensures.1 (rw c.deref.ensures.value w) in absurd cc))

pub returns-clause-read : goal.returns-clause-read
returns-clause-read c =
    let a = rw c.in-Some.is at c.in-Ok.ensures.value in
    let b = rw c.in-Some.is at c.in-Ok.ensures.ended in
    let a2 = rw b at a in
    rw (← c.as_bytes-bytes.ensures.value) (found_dice c.as_bytes-bytes.result.now c.in-Some.terms.items a2)

pub returns-in_default-found-clause-refused : goal.returns-in_default-found-clause-refused
returns-in_default-found-clause-refused c =
    let a = rw c.in_default-found.is at c.in-Ok.ensures.value in
    rw (← c.as_bytes-bytes.ensures.value) (dice_bad c.as_bytes-bytes.result.now c.terms.new.cursor.rest.now c.in-Ok-try_from.at a c.in-Ok-try_from.ensures.1)

pub returns-then-not-within-clause-refused : goal.returns-then-not-within-clause-refused
returns-then-not-within-clause-refused c =
    let a = rw c.in-Some.is at c.in-Ok.ensures.value in
    let b = rw c.in-Some.is at c.in-Ok.ensures.ended in
    let a2 = rw b at a in
    let off = rw c.deref.ensures.value at (same_test c.deref.result.now c.within.result c.within.ensures) in
    rw (← c.as_bytes-bytes.ensures.value) (dice_too_much c.as_bytes-bytes.result.now c.in-Some.terms.items a2 (sym off ∙ c.if-not-within.true))

pub returns-clause-ok : goal.returns-clause-ok
returns-clause-ok c =
    let a = rw c.in-Some.is at c.in-Ok.ensures.value in
    let b = rw c.in-Some.is at c.in-Ok.ensures.ended in
    let a2 = rw b at a in
    let fit = rw c.deref.ensures.value at (same_test c.deref.result.now c.within.result c.within.ensures) in
    rw (← c.as_bytes-bytes.ensures.value) (dice_fit c.as_bytes-bytes.result.now c.in-Some.terms.items a2 (sym fit ∙ c.if-not-within.false))
