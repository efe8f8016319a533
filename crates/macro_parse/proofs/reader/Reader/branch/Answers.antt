use Rattle.std.proofs.Common.{◌-◌, arith}
use Rattle.macro_grammar.specs.Readers.{branch_word_at}
use Rattle.macro_grammar.specs.Limits.{BranchFits}
use Rattle.macro_parse.specs.Flat.{place}
use Rattle.macro_parse.specs.FlatPieces.{ShowsBranch, Adds}
use Rattle.macro_parse.proofs.Finding.{finds_residual}
use Rattle.macro_parse.proofs.RollsFound.{if_found, count_found, if_stops, count_stops, if_word_stops, count_word_stops}
use Rattle.macro_parse.proofs.reader.Reader.branch.Goals as goal

pub returns-in_err-spell_if-clause-value : goal.returns-in_err-spell_if-clause-value
returns-in_err-spell_if-clause-value c =
    finds_residual (Adds ShowsBranch BranchFits c.args.self.now.nodes.items c.args.self.now.nodes.items) (λ turns. branch_word_at (c.args.depth - 1) turns (place c.args.self.now.end c.args.self.now.cursor.rest.now)) c.from_residual.result c.in_err-spell_if.field-0.0 c.args.self.now.cursor.rest.now c.spell_if.new.cursor.rest.now c.from_residual.ensures.1
    (if_word_stops (c.args.depth - 1) c.args.self.now.end c.args.self.now.cursor.rest.now c.spell_if.new.cursor.rest.now (Adds ShowsBranch BranchFits c.args.self.now.nodes.items c.args.self.now.nodes.items) c.in_err-spell_if.field-0.0 c.if-next_is.ensures c.in_err-spell_if.ensures.value)

pub returns-in_err-condition-clause-value : goal.returns-in_err-condition-clause-value
returns-in_err-condition-clause-value c =
    finds_residual (Adds ShowsBranch BranchFits c.args.self.now.nodes.items c.group.new.self.nodes.items) (λ turns. branch_word_at (c.args.depth - 1) turns (place c.args.self.now.end c.args.self.now.cursor.rest.now)) c.from_residual-in_err-condition.result c.in_err-condition.field-0.0 c.args.self.now.cursor.rest.now c.group.new.self.cursor.rest.now c.from_residual-in_err-condition.ensures.1
    (if_stops c.args.depth (c.args.depth - 1) c.args.self.now.end c.args.self.now.cursor.rest.now c.spell_if.new.cursor.rest.now c.group.new.self.cursor.rest.now c.args.self.now.nodes.items c.group.new.self.nodes.items (omega (arith, c.requires.nests)) c.requires.place c.spell_if.ensures.shrinks (Adds ShowsBranch BranchFits c.args.self.now.nodes.items c.group.new.self.nodes.items) c.in_err-condition.field-0.0 c.if-next_is.ensures c.in_ok-spell_if.ensures.value c.in_err-condition.ensures.value)

pub returns-then-next_is-clause-value : goal.returns-then-next_is-clause-value
returns-then-next_is-clause-value c =
    if_found c.args.depth (c.args.depth - 1) c.args.self.now.end c.args.self.now.cursor.rest.now c.spell_if.new.cursor.rest.now c.group.new.self.cursor.rest.now c.args.self.now.nodes.items c.group.new.self.nodes.items (omega (arith, c.requires.nests)) c.requires.place c.spell_if.ensures.shrinks c.at-at.result c.in_ok-condition.condition c.at-at.ensures c.if-next_is.ensures c.in_ok-spell_if.ensures.value c.in_ok-condition.ensures.value

pub returns-in_err-spell_count-clause-value : goal.returns-in_err-spell_count-clause-value
returns-in_err-spell_count-clause-value c =
    finds_residual (Adds ShowsBranch BranchFits c.args.self.now.nodes.items c.args.self.now.nodes.items) (λ turns. branch_word_at (c.args.depth - 1) turns (place c.args.self.now.end c.args.self.now.cursor.rest.now)) c.from_residual-in_err-spell_count.result c.in_err-spell_count.field-0.0 c.args.self.now.cursor.rest.now c.spell_count.new.cursor.rest.now c.from_residual-in_err-spell_count.ensures.1
    (count_word_stops (c.args.depth - 1) c.args.self.now.end c.args.self.now.cursor.rest.now c.spell_count.new.cursor.rest.now (Adds ShowsBranch BranchFits c.args.self.now.nodes.items c.args.self.now.nodes.items) c.in_err-spell_count.field-0.0 c.if-next_is.ensures c.in_err-spell_count.ensures.value)

pub returns-in_err-times-clause-value : goal.returns-in_err-times-clause-value
returns-in_err-times-clause-value c =
    finds_residual (Adds ShowsBranch BranchFits c.args.self.now.nodes.items c.group-2.new.self.nodes.items) (λ turns. branch_word_at (c.args.depth - 1) turns (place c.args.self.now.end c.args.self.now.cursor.rest.now)) c.from_residual-in_err-times.result c.in_err-times.field-0.0 c.args.self.now.cursor.rest.now c.group-2.new.self.cursor.rest.now c.from_residual-in_err-times.ensures.1
    (count_stops c.args.depth (c.args.depth - 1) c.args.self.now.end c.args.self.now.cursor.rest.now c.spell_count.new.cursor.rest.now c.group-2.new.self.cursor.rest.now c.args.self.now.nodes.items c.group-2.new.self.nodes.items (omega (arith, c.requires.nests)) c.requires.place c.spell_count.ensures.shrinks (Adds ShowsBranch BranchFits c.args.self.now.nodes.items c.group-2.new.self.nodes.items) c.in_err-times.field-0.0 c.if-next_is.ensures c.in_ok-spell_count.ensures.value c.in_err-times.ensures.value)

pub returns-clause-value : goal.returns-clause-value
returns-clause-value c =
    count_found c.args.depth (c.args.depth - 1) c.args.self.now.end c.args.self.now.cursor.rest.now c.spell_count.new.cursor.rest.now c.group-2.new.self.cursor.rest.now c.args.self.now.nodes.items c.group-2.new.self.nodes.items (omega (arith, c.requires.nests)) c.requires.place c.spell_count.ensures.shrinks c.at-at.result c.in_ok-times.times c.at-at.ensures c.if-next_is.ensures c.in_ok-spell_count.ensures.value c.in_ok-times.ensures.value
