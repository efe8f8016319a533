use Rattle.std.proofs.Common.{◌≡◌, ◌-◌, ℕ, suc, Err, refl, sym, subst, ◌∙◌, arith}
use Rattle.macro_grammar.specs.Grammar.{arity}
use Rattle.macro_grammar.specs.Readers.{unary_at, sum_at, compared_with, number_or_dice_at, quoted_at, group_at, expression_at, expr_at}
use Rattle.macro_parse.specs.Flat.{Puts, PutsCall, Grows, place}
use Rattle.macro_parse.specs.Levels.{operand_of, more_of, Steps, nests, nested_at}
use Rattle.macro_parse.proofs.FlatTrees.{grows_grows}
use Rattle.macro_parse.proofs.Finding.{finds_as, finds_residual, finds_weaker, puts_then_grows}
use Rattle.macro_parse.proofs.Loops.{so_far_next, so_far_end, so_far_stop}
use Rattle.macro_parse.proofs.Chains.{step_found, step_stops, step_residual, compare_stops, compare_none, compare_found}
use Rattle.macro_parse.proofs.Inside.{inner_of, atom_of, word_of, unary_finds, inner_atom, inner_atom_stops, sign_stops, negated_found, inverted_found, atom_digit, atom_quote, atom_group, atom_word, atom_end, no_digit, not_same, no_group, group_closed, group_open, group_stops}
use Rattle.macro_parse.proofs.CallsFound.{word_stops, word_kept, word_calls, args_of, nothing_open, nothing_closed, first_stops, one_closed, second_stops, two_closed, third_stops, three_closed}
use Rattle.macro_parse.proofs.reader.Reader.+chain.Goals as goal

-- ---- levels

pub chain-returns-clause-value : goal.chain-returns-clause-value
chain-returns-clause-value t c =
    puts_then_grows (λ turns. operand_of c.args.level (unary_at turns c.args.depth) turns) (λ turns. more_of c.args.level (unary_at turns c.args.depth) turns) c.args.self.now.end c.operand.new.self.end c.in_ok-left.left c.more.result
    c.args.self.now.cursor.rest.now c.operand.new.self.cursor.rest.now c.more.new.self.cursor.rest.now c.args.self.now.nodes.items c.operand.new.self.nodes.items c.more.new.self.nodes.items
    c.requires c.operand.ensures.shrinks c.operand.ensures.end c.in_ok-left.ensures.value c.more.ensures.value

pub compared-returns-clause-value : goal.compared-returns-clause-value
compared-returns-clause-value t c =
    puts_then_grows (λ turns. sum_at (unary_at turns c.args.depth) turns) (λ turns. compared_with (sum_at (unary_at turns c.args.depth) turns) turns) c.args.self.now.end c.chain.new.self.end c.in_ok-left.left c.compared_with.result
    c.args.self.now.cursor.rest.now c.chain.new.self.cursor.rest.now c.compared_with.new.self.cursor.rest.now c.args.self.now.nodes.items c.chain.new.self.nodes.items c.compared_with.new.self.nodes.items
    c.requires c.chain.ensures.shrinks c.chain.ensures.end c.in_ok-left.ensures.value c.compared_with.ensures.value

pub operand-returns-in-Product-clause-value : goal.operand-returns-in-Product-clause-value
operand-returns-in-Product-clause-value t c = rw c.in-Product.is c.unary.ensures.value

pub step-returns-clause-value : goal.step-returns-clause-value
step-returns-clause-value t c =
    step_found c.args.level c.args.depth c.args.self.now.end c.args.self.now.end c.at-at.result c.in_ok-whole.whole c.args.left c.in_ok-right.right c.in-Found.operator c.args.self.now.cursor.rest.now c.operator.new.cursor.rest.now c.operand.new.self.cursor.rest.now
    c.args.self.now.nodes.items c.operand.new.self.nodes.items c.keep.new.nodes.items c.in-Found.ensures.value c.requires c.operand.ensures.shrinks refl c.at-at.ensures c.in_ok-right.ensures.value c.in_ok-whole.ensures.kept

pub step-returns-in_err-right-clause-value : goal.step-returns-in_err-right-clause-value
step-returns-in_err-right-clause-value t c =
    λ x shown.
    step_residual c.args.level c.args.depth c.args.self.now.end x c.args.self.now.nodes.items c.operand.new.self.nodes.items c.from_residual.result c.in_err-right.field-0.0 c.args.self.now.cursor.rest.now c.operand.new.self.cursor.rest.now c.from_residual.ensures.1
    (step_stops c.args.level c.args.depth c.args.self.now.end c.args.self.now.end c.in_err-right.field-0.0 c.in-Found.operator c.args.self.now.cursor.rest.now c.operator.new.cursor.rest.now c.operand.new.self.cursor.rest.now c.args.self.now.nodes.items c.operand.new.self.nodes.items c.operand.new.self.nodes.items c.in-Found.ensures.value c.requires refl c.in_err-right.ensures.value x)

pub compared_with-returns-in_err-step-clause-value : goal.compared_with-returns-in_err-step-clause-value
compared_with-returns-in_err-step-clause-value t c =
    λ x shown.
    finds_residual (Grows x c.args.self.now.nodes.items c.step.new.self.nodes.items) (λ turns. compared_with (sum_at (unary_at turns c.args.depth) turns) turns (place c.args.self.now.end c.args.self.now.cursor.rest.now) x) c.from_residual.result c.in_err-step.field-0.0 c.args.self.now.cursor.rest.now c.step.new.self.cursor.rest.now c.from_residual.ensures.1
    (compare_stops c.args.depth c.args.self.now.end x c.args.self.now.cursor.rest.now c.step.new.self.cursor.rest.now c.args.self.now.nodes.items c.step.new.self.nodes.items c.in_err-step.field-0.0 (c.in_err-step.ensures.value x shown))

pub compared_with-returns-in-None-clause-value : goal.compared_with-returns-in-None-clause-value
compared_with-returns-in-None-clause-value t c =
    λ x shown.
    let h = rw c.in-None.is at (c.in_ok-step.ensures.value x shown) in
    compare_none c.args.depth c.args.self.now.end x c.args.self.now.cursor.rest.now c.step.new.self.cursor.rest.now c.args.self.now.nodes.items c.step.new.self.nodes.items c.args.left shown h

pub compared_with-returns-in-Some-clause-value : goal.compared_with-returns-in-Some-clause-value
compared_with-returns-in-Some-clause-value t c =
    λ x shown.
    let h = rw c.in-Some.is at (c.in_ok-step.ensures.value x shown) in
    compare_found c.args.depth c.args.self.now.end x c.args.self.now.cursor.rest.now c.step.new.self.cursor.rest.now c.args.self.now.nodes.items c.step.new.self.nodes.items c.in-Some.whole h

pub more-loop-next-preserved : goal.more-loop-next-preserved
more-loop-next-preserved t c =
    record {
      told = λ x h.
          let i = c.loop-next.invariant.told x h in
          let g = rw (c.in-Some.is, c.loop-next.invariant.end) at (c.in_ok-next.ensures.value i.0 i.1.puts.shows) in
          (g.0, grows_grows c.args.self.now.nodes.items c.loop-next.self.nodes.items c.step.new.self.nodes.items c.loop-next.whole c.in-Some.next x i.0 g.0 i.1 g.1, so_far_next c.args.level c.args.depth c.args.self.now.end c.args.self.now.cursor.rest.now c.loop-next.self.cursor.rest.now c.step.new.self.cursor.rest.now x i.0 g.0 i.2 g.2 g.3);
      end = c.step.ensures.end ∙ c.loop-next.invariant.end;
      shrinks = omega (arith, c.step.ensures.shrinks, c.loop-next.invariant.shrinks);
    }

pub more-returns-clause-value : goal.more-returns-clause-value
more-returns-clause-value t c =
    λ x h.
    let i = c.loop-next.invariant.told x h in
    let g = rw (c.in_default.is, c.loop-next.invariant.end) at (c.in_ok-next.ensures.value i.0 i.1.puts.shows) in
    let same = g.0 in
    let kept = g.1 in
    (i.0, rw kept i.1, λ turns lt. rw same (so_far_end c.args.level c.args.depth c.args.self.now.end c.args.self.now.cursor.rest.now c.loop-next.self.cursor.rest.now x i.0 i.2 g.2 turns lt))

pub more-returns-in_err-next-clause-value : goal.more-returns-in_err-next-clause-value
more-returns-in_err-next-clause-value t c =
    λ x h.
    let i = c.loop-next.invariant.told x h in
    let g = subst (λ (e : ℕ). Steps c.args.level c.args.depth e i.0 c.loop-next.self.nodes.items c.step.new.self.nodes.items (Err c.in_err-next.field-0.0) c.loop-next.self.cursor.rest.now c.step.new.self.cursor.rest.now) c.loop-next.invariant.end (c.in_err-next.ensures.value i.0 i.1.puts.shows) in
    finds_residual (Grows x c.args.self.now.nodes.items c.step.new.self.nodes.items) (λ turns. more_of c.args.level (unary_at turns c.args.depth) turns (place c.args.self.now.end c.args.self.now.cursor.rest.now) x) c.from_residual.result c.in_err-next.field-0.0 c.args.self.now.cursor.rest.now c.step.new.self.cursor.rest.now c.from_residual.ensures.1
    (so_far_stop c.args.level c.args.depth c.args.self.now.end c.args.self.now.cursor.rest.now c.loop-next.self.cursor.rest.now c.step.new.self.cursor.rest.now x i.0 c.args.self.now.nodes.items c.loop-next.self.nodes.items c.step.new.self.nodes.items c.in_err-next.field-0.0 i.2 g)

-- ---- unaries

pub unary-returns-clause-value : goal.unary-returns-clause-value
unary-returns-clause-value t c =
    unary_finds (Puts c.args.self.now.nodes.items c.inner.new.self.nodes.items) c.args.depth c.args.self.now.end c.inner.result c.args.self.now.cursor.rest.now c.blanks.new.cursor.rest.now c.inner.new.self.cursor.rest.now c.requires c.blanks.ensures.shrinks c.blanks.ensures.value c.inner.ensures.value

pub inner-returns-in_err-atom-clause-value : goal.inner-returns-in_err-atom-clause-value
inner-returns-in_err-atom-clause-value t c =
    finds_residual (Puts c.args.self.now.nodes.items c.atom.new.self.nodes.items) (λ turns. inner_of c.args.depth turns (place c.args.self.now.end c.args.self.now.cursor.rest.now)) c.from_residual.result c.in_err-atom.field-0.0 c.args.self.now.cursor.rest.now c.atom.new.self.cursor.rest.now c.from_residual.ensures.1
    (inner_atom_stops (Puts c.args.self.now.nodes.items c.atom.new.self.nodes.items) c.args.depth c.args.self.now.end c.in_err-atom.field-0.0 c.args.self.now.cursor.rest.now c.prefix.new.cursor.rest.now c.atom.new.self.cursor.rest.now c.in_default.ensures.value c.in_err-atom.ensures.value)

pub inner-returns-in_default-clause-value : goal.inner-returns-in_default-clause-value
inner-returns-in_default-clause-value t c =
    inner_atom (Puts c.args.self.now.nodes.items c.atom.new.self.nodes.items) c.args.depth c.args.self.now.end c.in_ok-atom.atom c.args.self.now.cursor.rest.now c.prefix.new.cursor.rest.now c.atom.new.self.cursor.rest.now c.blanks.new.cursor.rest.now c.in_default.ensures.value c.blanks.ensures.value c.in_ok-atom.ensures.value

pub inner-returns-in_err-of-clause-value : goal.inner-returns-in_err-of-clause-value
inner-returns-in_err-of-clause-value t c =
    finds_residual (Puts c.args.self.now.nodes.items c.unary.new.self.nodes.items) (λ turns. inner_of c.args.depth turns (place c.args.self.now.end c.args.self.now.cursor.rest.now)) c.from_residual-in_err-of.result c.in_err-of.field-0.0 c.args.self.now.cursor.rest.now c.unary.new.self.cursor.rest.now c.from_residual-in_err-of.ensures.1
    (sign_stops c.args.depth c.args.self.now.end c.args.self.now.cursor.rest.now c.prefix.new.cursor.rest.now c.unary.new.self.cursor.rest.now c.requires (Puts c.args.self.now.nodes.items c.unary.new.self.nodes.items) (Puts c.args.self.now.nodes.items c.unary.new.self.nodes.items) c.in-Some.prefix c.in_err-of.field-0.0 c.in-Some.ensures.value c.in_err-of.ensures.value)

pub inner-returns-in-Minus-clause-value : goal.inner-returns-in-Minus-clause-value
inner-returns-in-Minus-clause-value t c =
    let sign = rw c.in-Minus.is at c.in-Some.ensures.value in
    negated_found c.args.depth c.args.self.now.end c.args.self.now.cursor.rest.now c.prefix.new.cursor.rest.now c.unary.new.self.cursor.rest.now c.requires c.args.self.now.nodes.items c.unary.new.self.nodes.items c.keep.new.nodes.items c.at-at.result c.in_ok-of.of c.keep.result sign c.at-at.ensures c.in_ok-of.ensures.value c.keep.ensures.kept c.keep.ensures.memory

pub inner-returns-in-Not-clause-value : goal.inner-returns-in-Not-clause-value
inner-returns-in-Not-clause-value t c =
    let sign = rw c.in-Not.is at c.in-Some.ensures.value in
    inverted_found c.args.depth c.args.self.now.end c.args.self.now.cursor.rest.now c.prefix.new.cursor.rest.now c.unary.new.self.cursor.rest.now c.requires c.args.self.now.nodes.items c.unary.new.self.nodes.items c.keep-in-Not.new.nodes.items c.at-at.result c.in_ok-of.of c.keep-in-Not.result sign c.at-at.ensures c.in_ok-of.ensures.value c.keep-in-Not.ensures.kept c.keep-in-Not.ensures.memory

-- ---- atoms

pub atom-returns-in_default-clause-value : goal.atom-returns-in_default-clause-value
atom-returns-in_default-clause-value t c =
    λ turns lt. atom_end (nests c.args.depth) (expression_at (nested_at turns c.args.depth) turns) (place c.args.self.now.end c.args.self.now.cursor.rest.now) c.args.self.now.cursor.rest.now c.in_default.ensures.cases

pub atom-returns-then-first-le57-clause-value : goal.atom-returns-then-first-le57-clause-value
atom-returns-then-first-le57-clause-value t c =
    finds_as (Puts c.args.self.now.nodes.items c.number.new.self.nodes.items) (λ turns. number_or_dice_at (place c.args.self.now.end c.args.self.now.cursor.rest.now)) (λ turns. atom_of c.args.depth turns (place c.args.self.now.end c.args.self.now.cursor.rest.now)) c.number.result c.args.self.now.cursor.rest.now c.args.self.now.cursor.rest.now c.number.new.self.cursor.rest.now (omega arith)
    (λ turns. atom_digit (nests c.args.depth) (expression_at (nested_at turns c.args.depth) turns) (place c.args.self.now.end c.args.self.now.cursor.rest.now) c.in-Some.first.now c.args.self.now.cursor.rest.now c.in-Some.field-0-1.now c.in-Some.ensures.cases.0 c.if-first-ge48.true c.if-first-le57.true) c.number.ensures.value

pub atom-returns-then-first-eq34-clause-value : goal.atom-returns-then-first-eq34-clause-value
atom-returns-then-first-eq34-clause-value t c =
    finds_as (Puts c.args.self.now.nodes.items c.text.new.self.nodes.items) (λ turns. quoted_at (place c.args.self.now.end c.args.self.now.cursor.rest.now)) (λ turns. atom_of c.args.depth turns (place c.args.self.now.end c.args.self.now.cursor.rest.now)) c.text.result c.args.self.now.cursor.rest.now c.args.self.now.cursor.rest.now c.text.new.self.cursor.rest.now (omega arith)
    (λ turns. atom_quote (nests c.args.depth) (expression_at (nested_at turns c.args.depth) turns) (place c.args.self.now.end c.args.self.now.cursor.rest.now) c.in-Some.first.now c.args.self.now.cursor.rest.now c.in-Some.field-0-1.now c.in-Some.ensures.cases.0 c.if-first-eq34.true) c.text.ensures.value

pub atom-returns-then-depth-gt0-clause-value : goal.atom-returns-then-depth-gt0-clause-value
atom-returns-then-depth-gt0-clause-value t c =
    finds_as (Puts c.args.self.now.nodes.items c.group.new.self.nodes.items) (λ turns. group_at (expr_at (c.args.depth - 1) turns) (place c.args.self.now.end c.args.self.now.cursor.rest.now)) (λ turns. atom_of c.args.depth turns (place c.args.self.now.end c.args.self.now.cursor.rest.now)) c.group.result c.args.self.now.cursor.rest.now c.args.self.now.cursor.rest.now c.group.new.self.cursor.rest.now (omega arith)
    (λ turns. atom_group c.args.depth (c.args.depth - 1) turns (place c.args.self.now.end c.args.self.now.cursor.rest.now) c.in-Some.first.now c.args.self.now.cursor.rest.now c.in-Some.field-0-1.now c.in-Some.ensures.cases.0 c.if-first-eq40.true (omega arith)) c.group.ensures.value

pub atom-returns-clause-value : goal.atom-returns-clause-value
atom-returns-clause-value t c =
    finds_as (Puts c.args.self.now.nodes.items c.word.new.self.nodes.items) (λ turns. word_of c.args.depth turns (place c.args.self.now.end c.args.self.now.cursor.rest.now)) (λ turns. atom_of c.args.depth turns (place c.args.self.now.end c.args.self.now.cursor.rest.now)) c.word.result c.args.self.now.cursor.rest.now c.args.self.now.cursor.rest.now c.word.new.self.cursor.rest.now (omega arith)
    (λ turns. atom_word (nests c.args.depth) (expression_at (nested_at turns c.args.depth) turns) (place c.args.self.now.end c.args.self.now.cursor.rest.now) c.in-Some.first.now c.args.self.now.cursor.rest.now c.in-Some.field-0-1.now c.in-Some.ensures.cases.0 (no_digit c.in-Some.first.now c.else-first-ge48.either) (not_same 34 c.in-Some.first.now c.if-first-eq34.false) (no_group c.args.depth c.in-Some.first.now c.else-first-eq40.either)) c.word.ensures.value

pub group-returns-in_err-inner-clause-value : goal.group-returns-in_err-inner-clause-value
group-returns-in_err-inner-clause-value t c =
    finds_residual (Puts c.args.self.now.nodes.items c.argument.new.self.nodes.items) (λ turns. group_at (expr_at c.args.depth turns) (place c.args.self.now.end c.args.self.now.cursor.rest.now)) c.from_residual.result c.in_err-inner.field-0.0 c.args.self.now.cursor.rest.now c.argument.new.self.cursor.rest.now c.from_residual.ensures.1
    (group_stops c.args.depth c.args.self.now.end c.args.self.now.cursor.rest.now c.argument.new.self.cursor.rest.now c.argument.new.self.cursor.rest.now c.args.self.now.nodes.items c.argument.new.self.nodes.items c.requires c.in_err-inner.field-0.0 c.in_err-inner.ensures.value)

pub group-returns-then-not-takes-clause-value : goal.group-returns-then-not-takes-clause-value
group-returns-then-not-takes-clause-value t c =
    group_open c.args.depth c.args.self.now.end c.args.self.now.cursor.rest.now c.argument.new.self.cursor.rest.now c.takes.new.self.rest.now c.args.self.now.nodes.items c.argument.new.self.nodes.items c.requires c.in_ok-inner.inner c.in_ok-inner.ensures.value c.if-not-takes.ensures.value

pub group-returns-clause-value : goal.group-returns-clause-value
group-returns-clause-value t c =
    group_closed c.args.depth c.args.self.now.end c.args.self.now.cursor.rest.now c.argument.new.self.cursor.rest.now c.takes.new.self.rest.now c.args.self.now.nodes.items c.argument.new.self.nodes.items c.requires c.in_ok-inner.inner c.in_ok-inner.ensures.value c.if-not-takes.ensures.value

-- ---- words

pub word-returns-in_err-name-clause-value : goal.word-returns-in_err-name-clause-value
word-returns-in_err-name-clause-value t c =
    finds_residual (Puts c.args.self.now.nodes.items c.name.new.self.nodes.items) (λ turns. word_of c.args.depth turns (place c.args.self.now.end c.args.self.now.cursor.rest.now)) c.from_residual.result c.in_err-name.field-0.0 c.args.self.now.cursor.rest.now c.name.new.self.cursor.rest.now c.from_residual.ensures.1
    (word_stops c.args.depth c.args.self.now.end c.args.self.now.cursor.rest.now c.name.new.self.cursor.rest.now c.requires (Puts c.args.self.now.nodes.items c.name.new.self.nodes.items) c.in_err-name.field-0.0 c.in_err-name.ensures.value)

pub word-returns-in_default-clause-value : goal.word-returns-in_default-clause-value
word-returns-in_default-clause-value t c =
    let k = rw c.name.ensures.nodes at c.keep.ensures.kept in
    let none = rw c.as_slice.ensures.value at c.in_default.ensures in
    word_kept c.args.depth c.args.self.now.end c.args.self.now.cursor.rest.now c.name.new.self.cursor.rest.now c.requires c.args.self.now.nodes.items c.keep.new.nodes.items c.at-at.result c.in_ok-name.name c.keep.result c.name.ensures.shrinks c.at-at.ensures c.in_ok-name.ensures.value none k c.keep.ensures.memory

pub word-returns-clause-value : goal.word-returns-clause-value
word-returns-clause-value t c =
    let g = rw (c.name.ensures.nodes, c.name.ensures.end, c.at-at.ensures) at c.arguments.ensures.value in
    let some = rw c.as_slice.ensures.value at c.in-Some.ensures in
    finds_weaker (PutsCall c.args.self.now.nodes.items c.arguments.new.self.nodes.items) (Puts c.args.self.now.nodes.items c.arguments.new.self.nodes.items) (λ turns. word_of c.args.depth turns (place c.args.self.now.end c.args.self.now.cursor.rest.now)) c.arguments.result c.args.self.now.cursor.rest.now c.arguments.new.self.cursor.rest.now (λ i t p. p.puts)
    (word_calls c.args.depth c.args.self.now.end c.args.self.now.cursor.rest.now c.name.new.self.cursor.rest.now c.requires (PutsCall c.args.self.now.nodes.items c.arguments.new.self.nodes.items) c.in_ok-name.name c.in-Some.function (place c.args.self.now.end c.args.self.now.cursor.rest.now) c.arguments.result c.arguments.new.self.cursor.rest.now c.name.ensures.shrinks refl c.in_ok-name.ensures.value some g)

-- ---- arguments

pub arguments-returns-then-not-takes-clause-value : goal.arguments-returns-then-not-takes-clause-value
arguments-returns-then-not-takes-clause-value t c =
    nothing_open c.args.depth c.args.at c.args.function c.args.self.now.end c.args.self.now.cursor.rest.now c.takes.new.self.rest.now c.args.self.now.nodes.items c.args.self.now.nodes.items c.requires.place (sym c.arity-count.ensures ∙ c.if-count-eq0.true) c.if-not-takes.ensures.value

pub arguments-returns-then-count-eq0-clause-value : goal.arguments-returns-then-count-eq0-clause-value
arguments-returns-then-count-eq0-clause-value t c =
    nothing_closed c.args.depth c.args.at c.args.function c.args.self.now.end c.args.self.now.cursor.rest.now c.takes.new.self.rest.now c.args.self.now.nodes.items c.close.new.self.nodes.items c.requires.place c.close.result c.close.new.self.cursor.rest.now (sym c.arity-count.ensures ∙ c.if-count-eq0.true) c.if-not-takes.ensures.value c.close.ensures.value

pub arguments-returns-in_err-first-clause-value : goal.arguments-returns-in_err-first-clause-value
arguments-returns-in_err-first-clause-value t c =
    let nest : c.args.depth ≡ suc (c.args.depth - 1) = omega (arith, c.arity-count.ensures, c.requires.nests) in
    finds_residual (PutsCall c.args.self.now.nodes.items c.argument.new.self.nodes.items) (λ turns. args_of c.args.depth c.args.at c.args.function turns (place c.args.self.now.end c.args.self.now.cursor.rest.now)) c.from_residual.result c.in_err-first.field-0.0 c.args.self.now.cursor.rest.now c.argument.new.self.cursor.rest.now c.from_residual.ensures.1
    (first_stops c.args.depth c.args.at c.args.function c.args.self.now.end c.args.self.now.cursor.rest.now c.argument.new.self.cursor.rest.now c.args.self.now.nodes.items c.argument.new.self.nodes.items c.requires.place (PutsCall c.args.self.now.nodes.items c.argument.new.self.nodes.items) (c.args.depth - 1) (arity c.args.function - 1) c.in_err-first.field-0.0 nest (omega (arith, c.arity-count.ensures)) c.in_err-first.ensures.value)

pub arguments-returns-then-count-eq1-clause-value : goal.arguments-returns-then-count-eq1-clause-value
arguments-returns-then-count-eq1-clause-value t c =
    let nest : c.args.depth ≡ suc (c.args.depth - 1) = omega (arith, c.arity-count.ensures, c.requires.nests) in
    one_closed c.args.depth c.args.at c.args.function c.args.self.now.end c.args.self.now.cursor.rest.now c.argument.new.self.cursor.rest.now c.args.self.now.nodes.items c.argument.new.self.nodes.items c.requires.place (c.args.depth - 1) c.in_ok-first.first nest c.in_ok-first.ensures.value c.argument.new.self.end c.argument.ensures.end c.close-then-count-eq1.result c.close-then-count-eq1.new.self.cursor.rest.now c.close-then-count-eq1.new.self.nodes.items (sym c.arity-count.ensures ∙ c.if-count-eq1.true) c.close-then-count-eq1.ensures.value

pub arguments-returns-in_err-second-clause-value : goal.arguments-returns-in_err-second-clause-value
arguments-returns-in_err-second-clause-value t c =
    let nest : c.args.depth ≡ suc (c.args.depth - 1) = omega (arith, c.arity-count.ensures, c.requires.nests) in
    finds_residual (PutsCall c.args.self.now.nodes.items c.argument-2.new.self.nodes.items) (λ turns. args_of c.args.depth c.args.at c.args.function turns (place c.args.self.now.end c.args.self.now.cursor.rest.now)) c.from_residual-in_err-second.result c.in_err-second.field-0.0 c.args.self.now.cursor.rest.now c.argument-2.new.self.cursor.rest.now c.from_residual-in_err-second.ensures.1
    (second_stops c.args.depth c.args.at c.args.function c.args.self.now.end c.args.self.now.cursor.rest.now c.argument.new.self.cursor.rest.now c.args.self.now.nodes.items c.argument.new.self.nodes.items c.requires.place (c.args.depth - 1) c.in_ok-first.first nest c.in_ok-first.ensures.value c.argument.new.self.end c.argument.ensures.end (omega (arith, c.requires.place, c.argument.ensures.shrinks)) c.argument-2.new.self.cursor.rest.now c.argument-2.new.self.nodes.items (PutsCall c.args.self.now.nodes.items c.argument-2.new.self.nodes.items) (arity c.args.function - 2) c.in_err-second.field-0.0 (omega (arith, c.arity-count.ensures)) c.in_err-second.ensures.value)

pub arguments-returns-then-count-eq2-clause-value : goal.arguments-returns-then-count-eq2-clause-value
arguments-returns-then-count-eq2-clause-value t c =
    let nest : c.args.depth ≡ suc (c.args.depth - 1) = omega (arith, c.arity-count.ensures, c.requires.nests) in
    two_closed c.args.depth c.args.at c.args.function c.args.self.now.end c.args.self.now.cursor.rest.now c.argument.new.self.cursor.rest.now c.args.self.now.nodes.items c.argument.new.self.nodes.items c.requires.place (c.args.depth - 1) c.in_ok-first.first nest c.in_ok-first.ensures.value c.argument.new.self.end c.argument.ensures.end (omega (arith, c.requires.place, c.argument.ensures.shrinks)) c.argument-2.new.self.cursor.rest.now c.argument-2.new.self.nodes.items c.in_ok-second.second c.in_ok-second.ensures.value c.close-then-count-eq2.result c.close-then-count-eq2.new.self.cursor.rest.now c.close-then-count-eq2.new.self.nodes.items (sym c.arity-count.ensures ∙ c.if-count-eq2.true) c.close-then-count-eq2.ensures.value

pub arguments-returns-in_err-third-clause-value : goal.arguments-returns-in_err-third-clause-value
arguments-returns-in_err-third-clause-value t c =
    let nest : c.args.depth ≡ suc (c.args.depth - 1) = omega (arith, c.arity-count.ensures, c.requires.nests) in
    finds_residual (PutsCall c.args.self.now.nodes.items c.argument-3.new.self.nodes.items) (λ turns. args_of c.args.depth c.args.at c.args.function turns (place c.args.self.now.end c.args.self.now.cursor.rest.now)) c.from_residual-in_err-third.result c.in_err-third.field-0.0 c.args.self.now.cursor.rest.now c.argument-3.new.self.cursor.rest.now c.from_residual-in_err-third.ensures.1
    (third_stops c.args.depth c.args.at c.args.function c.args.self.now.end c.args.self.now.cursor.rest.now c.argument.new.self.cursor.rest.now c.args.self.now.nodes.items c.argument.new.self.nodes.items c.requires.place (c.args.depth - 1) c.in_ok-first.first nest c.in_ok-first.ensures.value c.argument.new.self.end c.argument.ensures.end (omega (arith, c.requires.place, c.argument.ensures.shrinks)) c.argument-2.new.self.cursor.rest.now c.argument-2.new.self.nodes.items c.in_ok-second.second c.in_ok-second.ensures.value (arity c.args.function - 3) c.argument-2.new.self.end c.argument-2.ensures.end (omega (arith, c.requires.place, c.argument.ensures.shrinks, c.argument-2.ensures.shrinks)) c.argument-3.new.self.cursor.rest.now c.argument-3.new.self.nodes.items (omega (arith, c.arity-count.ensures)) (PutsCall c.args.self.now.nodes.items c.argument-3.new.self.nodes.items) c.in_err-third.field-0.0 c.in_err-third.ensures.value)

pub arguments-returns-clause-value : goal.arguments-returns-clause-value
arguments-returns-clause-value t c =
    let nest : c.args.depth ≡ suc (c.args.depth - 1) = omega (arith, c.arity-count.ensures, c.requires.nests) in
    three_closed c.args.depth c.args.at c.args.function c.args.self.now.end c.args.self.now.cursor.rest.now c.argument.new.self.cursor.rest.now c.args.self.now.nodes.items c.argument.new.self.nodes.items c.requires.place (c.args.depth - 1) c.in_ok-first.first nest c.in_ok-first.ensures.value c.argument.new.self.end c.argument.ensures.end (omega (arith, c.requires.place, c.argument.ensures.shrinks)) c.argument-2.new.self.cursor.rest.now c.argument-2.new.self.nodes.items c.in_ok-second.second c.in_ok-second.ensures.value (arity c.args.function - 3) c.argument-2.new.self.end c.argument-2.ensures.end (omega (arith, c.requires.place, c.argument.ensures.shrinks, c.argument-2.ensures.shrinks)) c.argument-3.new.self.cursor.rest.now c.argument-3.new.self.nodes.items (omega (arith, c.arity-count.ensures)) c.in_ok-third.third c.close-2.result c.close-2.new.self.cursor.rest.now c.close-2.new.self.nodes.items c.in_ok-third.ensures.value c.close-2.ensures.value
