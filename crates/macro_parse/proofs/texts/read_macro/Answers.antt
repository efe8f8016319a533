use Rattle.std.proofs.Common.{◌≡◌, Bool, true, false, Err, refl, sym, subst, arith}
use Rattle.macro_parse.specs.declared.reader.Stop.{Stop}
use Rattle.macro_parse.specs.Turns.{FindsPieces}
use Rattle.macro_parse.proofs.Trees.{shown_pieces}
use Rattle.macro_parse.specs.Faults.{IsReadFrom}
use Rattle.macro_parse.proofs.MacrosFound.{text_read, text_off, told_off, text_longest, pieces_fit}
use Rattle.macro_parse.proofs.Limits.{macro_fit, macro_too_much, macro_bad}
use Rattle.macro_grammar.specs.Limits.{PiecesFit}
use Rattle.macro_parse.specs.Answers.{macro_of}
use Rattle.macro_parse.specs.Trees.{pieces_at}
use Rattle.std.specs.Prelude.{Ok}
use Rattle.macro_parse.proofs.texts.read_macro.Goals as goal

pub returns-in-Err-Off-clause-fault : goal.returns-in-Err-Off-clause-fault
returns-in-Err-Off-clause-fault c =
    let h = subst (λ (e : Stop). FindsPieces 31 c.in-Ok.end c.new.result.items c.pieces.new.self.nodes.items (Err e) c.as_bytes-bytes.result.now c.pieces.new.self.cursor.rest.now) c.in-Err-Off.field-0-is c.in-Err-Off.ensures.value in
    let place = rw c.pieces.ensures.end at c.at-at.ensures in
    let off = text_off 31 c.in-Ok.end c.as_bytes-bytes.result.now c.pieces.new.self.cursor.rest.now c.new.result.items c.pieces.new.self.nodes.items c.in-Ok.ensures.1 c.new.ensures.items h in
    let longest = text_longest 31 c.in-Ok.end c.as_bytes-bytes.result.now c.pieces.new.self.cursor.rest.now c.new.result.items c.pieces.new.self.nodes.items c.in-Ok.ensures.1 c.new.ensures.items c.at-at.result place h in
    rw (← c.as_bytes-bytes.ensures.value) (off, longest)

pub returns-then-not-all_fit-clause-fault : goal.returns-then-not-all_fit-clause-fault
returns-then-not-all_fit-clause-fault c =
    let k = text_read 31 c.in-Ok.end c.as_bytes-bytes.result.now c.pieces.new.self.cursor.rest.now c.new.result.items c.pieces.new.self.nodes.items c.in-Ok.ensures.1 c.new.ensures.items c.in-Ok-pieces.pieces c.in-Ok-pieces.ensures.value in
    (k.0, rw (← c.as_bytes-bytes.ensures.value) k.1, λ w. let f : ◌≡◌ {A = Bool} false true = c.if-not-all_fit.ensures.1 (rw c.deref.ensures.value (k.3 w)) in absurd cc)

pub returns-clause-read : goal.returns-clause-read
returns-clause-read c =
    let k = text_read 31 c.in-Ok.end c.as_bytes-bytes.result.now c.pieces.new.self.cursor.rest.now c.new.result.items c.pieces.new.self.nodes.items c.in-Ok.ensures.1 c.new.ensures.items c.in-Ok-pieces.pieces c.in-Ok-pieces.ensures.value in
    let fit = rw c.deref.ensures.value at (c.if-not-all_fit.ensures.0 refl) in
    let shown = shown_pieces c.pieces.new.self.nodes.items c.in-Ok-pieces.pieces.items k.0 k.2 in
    subst (IsReadFrom c.args.text.now) (sym shown.0) (rw (← c.as_bytes-bytes.ensures.value) k.1, pieces_fit c.pieces.new.self.nodes.items c.in-Ok-pieces.pieces.items k.0 fit k.2)

pub invariant_of-result : goal.invariant_of-result
invariant_of-result c =
    let k = text_read 31 c.in-Ok.end c.as_bytes-bytes.result.now c.pieces.new.self.cursor.rest.now c.new.result.items c.pieces.new.self.nodes.items c.in-Ok.ensures.1 c.new.ensures.items c.in-Ok-pieces.pieces c.in-Ok-pieces.ensures.value in
    let fit = rw c.deref.ensures.value at (c.if-not-all_fit.ensures.0 refl) in
    record { each = (shown_pieces c.pieces.new.self.nodes.items c.in-Ok-pieces.pieces.items k.0 k.2).1; fits = fit }

pub returns-in-Err-Off-clause-refused : goal.returns-in-Err-Off-clause-refused
returns-in-Err-Off-clause-refused c =
    let h = subst (λ (e : Stop). FindsPieces 31 c.in-Ok.end c.new.result.items c.pieces.new.self.nodes.items (Err e) c.as_bytes-bytes.result.now c.pieces.new.self.cursor.rest.now) c.in-Err-Off.field-0-is c.in-Err-Off.ensures.value in
    let place = rw c.pieces.ensures.end at c.at-at.ensures in
    let off = told_off 31 c.in-Ok.end c.as_bytes-bytes.result.now c.pieces.new.self.cursor.rest.now c.new.result.items c.pieces.new.self.nodes.items c.in-Ok.ensures.1 c.new.ensures.items h in
    rw (← c.as_bytes-bytes.ensures.value) (macro_bad c.as_bytes-bytes.result.now c.pieces.new.self.cursor.rest.now c.at-at.result off (let whole = c.in-Ok.ensures.1 in omega (arith, whole, place)))

pub returns-then-not-all_fit-clause-refused : goal.returns-then-not-all_fit-clause-refused
returns-then-not-all_fit-clause-refused c =
    let k = text_read 31 c.in-Ok.end c.as_bytes-bytes.result.now c.pieces.new.self.cursor.rest.now c.new.result.items c.pieces.new.self.nodes.items c.in-Ok.ensures.1 c.new.ensures.items c.in-Ok-pieces.pieces c.in-Ok-pieces.ensures.value in
    let off : PiecesFit k.0 → ⊥ = λ w. let f : ◌≡◌ {A = Bool} false true = c.if-not-all_fit.ensures.1 (rw c.deref.ensures.value (k.3 w)) in absurd cc in
    rw (← c.as_bytes-bytes.ensures.value) (macro_too_much c.as_bytes-bytes.result.now k.0 k.4 off)

pub returns-clause-ok : goal.returns-clause-ok
returns-clause-ok c =
    let k = text_read 31 c.in-Ok.end c.as_bytes-bytes.result.now c.pieces.new.self.cursor.rest.now c.new.result.items c.pieces.new.self.nodes.items c.in-Ok.ensures.1 c.new.ensures.items c.in-Ok-pieces.pieces c.in-Ok-pieces.ensures.value in
    let fit = rw c.deref.ensures.value at (c.if-not-all_fit.ensures.0 refl) in
    let shown = shown_pieces c.pieces.new.self.nodes.items c.in-Ok-pieces.pieces.items k.0 k.2 in
    let whole = macro_fit c.as_bytes-bytes.result.now k.0 k.4 (pieces_fit c.pieces.new.self.nodes.items c.in-Ok-pieces.pieces.items k.0 fit k.2) in
    subst (λ ps. macro_of c.args.text.now ≡ Ok ps) (sym shown.0) (rw (← c.as_bytes-bytes.ensures.value) whole)
