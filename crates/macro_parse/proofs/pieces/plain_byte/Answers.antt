use Rattle.std.proofs.Common.{◌≡◌, true, refl, arith}
use Rattle.macro_grammar.specs.Grammar.{is_bracket}
use Rattle.macro_parse.proofs.PiecesFound.{plain_itself, plain_escaped}
use Rattle.macro_parse.proofs.pieces.plain_byte.Goals.{else-second-ne91-via-then-second-ne91+then-second-ne93+else-second-ne92, else-second-ne91-via-then-second-ne91+else-second-ne93, else-second-ne91-via-else-second-ne91}
use Rattle.macro_parse.proofs.pieces.plain_byte.Goals as goal

pub returns-then-first-ne92-clause-step : goal.returns-then-first-ne92-clause-step
returns-then-first-ne92-clause-step c = plain_itself c.in-Some.first.now c.args.cursor.now.rest.now c.in-Some.rest.now c.in-Some.ensures.cases.0 (λ z. omega arith) (λ z. omega arith) (λ z. omega arith)

pub returns-clause-step : goal.returns-clause-step
returns-clause-step c =
    let k : is_bracket c.in-Some-split_first.second.now ≡ true = elim c.else-second-ne91.branch [
      | else-second-ne91-via-then-second-ne91+then-second-ne93+else-second-ne92 w ↦ rw w.if-second-ne92.false refl
      | else-second-ne91-via-then-second-ne91+else-second-ne93 w ↦ rw w.if-second-ne93.false refl
      | else-second-ne91-via-else-second-ne91 w ↦ rw w.if-second-ne91.false refl
    ] in
    plain_escaped c.in-Some.first.now c.in-Some-split_first.second.now c.args.cursor.now.rest.now c.in-Some.rest.now c.in-Some-split_first.rest.now c.in-Some.ensures.cases.0 c.if-first-ne92.false c.in-Some-split_first.ensures.cases.0 k
