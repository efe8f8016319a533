use Rattle.macro_parse.specs.declared.nodes.Node.TheVariants.{Number as NumberNode, Dice as DiceNode}
use Rattle.macro_grammar.specs.Tree.{Number, Dice}
use Rattle.macro_grammar.specs.Grammar.{IsLeaf}
use Rattle.macro_grammar.specs.Readers.{number_or_dice_at}
use Rattle.macro_parse.specs.Found.{numeral_tree}
use Rattle.macro_parse.specs.Flat.{Puts, place}
use Rattle.macro_parse.proofs.FlatTrees.{put_number, put_dice}
use Rattle.macro_parse.proofs.Finding.{read_shrinks, finds_kept}
use Rattle.macro_grammar.proofs.Leaves.{reads_number_or_dice}
use Rattle.macro_parse.proofs.reader.Reader.number.Goals as goal

pub returns-in-None-clause-shrinks : goal.returns-in-None-clause-shrinks
returns-in-None-clause-shrinks c = read_shrinks (number_or_dice_at 0) (IsLeaf 0) c.args.self.now.cursor.rest.now c.number_or_dice.new.cursor.rest.now (numeral_tree 0 c.number_or_dice.result) (reads_number_or_dice 0 c.args.self.now.cursor.rest.now) (c.number_or_dice.ensures 0)

pub returns-in-Some-Number-clause-shrinks : goal.returns-in-Some-Number-clause-shrinks
returns-in-Some-Number-clause-shrinks c = read_shrinks (number_or_dice_at 0) (IsLeaf 0) c.args.self.now.cursor.rest.now c.number_or_dice.new.cursor.rest.now (numeral_tree 0 c.number_or_dice.result) (reads_number_or_dice 0 c.args.self.now.cursor.rest.now) (c.number_or_dice.ensures 0)

pub returns-in-Some-Dice-clause-shrinks : goal.returns-in-Some-Dice-clause-shrinks
returns-in-Some-Dice-clause-shrinks c = read_shrinks (number_or_dice_at 0) (IsLeaf 0) c.args.self.now.cursor.rest.now c.number_or_dice.new.cursor.rest.now (numeral_tree 0 c.number_or_dice.result) (reads_number_or_dice 0 c.args.self.now.cursor.rest.now) (c.number_or_dice.ensures 0)

pub returns-in-Some-Number-clause-value : goal.returns-in-Some-Number-clause-value
returns-in-Some-Number-clause-value c =
    let old = c.args.self.now.nodes.items in
    let new = c.keep.new.nodes.items in
    let at = c.at-at.result in
    let n = c.in-Some-Number.value in
    let e = rw c.in-Some-Number.field-0-is at (c.in-Some-Number.ensures (place c.args.self.now.end c.args.self.now.cursor.rest.now)) in
    finds_kept old new (NumberNode at n) (Puts old new) (λ _. number_or_dice_at (place c.args.self.now.end c.args.self.now.cursor.rest.now)) c.keep.result c.args.self.now.cursor.rest.now c.number_or_dice.new.cursor.rest.now (Number at n)
    c.keep.ensures.kept c.keep.ensures.memory (λ i k. put_number old new i at n k) (λ turns lt. rw c.at-at.ensures e)

pub returns-in-Some-Dice-clause-value : goal.returns-in-Some-Dice-clause-value
returns-in-Some-Dice-clause-value c =
    let old = c.args.self.now.nodes.items in
    let new = c.keep-in-Some-Dice.new.nodes.items in
    let at = c.at-at.result in
    let g = c.in-Some-Dice.group in
    let e = rw c.in-Some-Dice.field-0-is at (c.in-Some-Dice.ensures (place c.args.self.now.end c.args.self.now.cursor.rest.now)) in
    finds_kept old new (DiceNode at g) (Puts old new) (λ _. number_or_dice_at (place c.args.self.now.end c.args.self.now.cursor.rest.now)) c.keep-in-Some-Dice.result c.args.self.now.cursor.rest.now c.number_or_dice.new.cursor.rest.now (Dice at g)
    c.keep-in-Some-Dice.ensures.kept c.keep-in-Some-Dice.ensures.memory (λ i k. put_dice old new i at g k) (λ turns lt. rw c.at-at.ensures e)
