use Rattle.std.proofs.Common.{arith, ◌≡◌, ◌∙◌, sym, ap, List, ℕ, length, take, drop, Some}
use Rattle.std.proofs.lemmas.List.{take_rest, length-take}
use Rattle.line_io.proofs.BufferLemmas.{copied_front}
use Rattle.tabletop.proofs.quiet.ScriptTextSource.read.Goals as goal

pub returns-clause-ok : goal.returns-clause-ok
returns-clause-ok c =
    let bytes : List ℕ = c.self.inside.bytes in
    let start : ℕ = c.self.inside.start in
    let count : ℕ = c.min-count.result in
    let copied : c.copy_from_slice.new.self ≡ take count (drop start bytes) = c.copy_from_slice.ensures.after ∙ ap (take count) (take_rest c.bytes.result.now start ∙ ap (drop start) c.bytes.ensures) in
    let long : length c.copy_from_slice.new.self ≡ count = omega (arith, c.copy_from_slice.ensures.len, length-take count c.args.piece.now) in
    ap Some (sym c.self.view_is ∙ copied_front bytes c.args.piece.now c.copy_from_slice.new.self start count copied long)
