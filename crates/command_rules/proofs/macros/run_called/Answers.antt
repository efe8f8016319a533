use Rattle.std.proofs.Common.{◌≡◌, ◌∙◌, ap, subst}
use Rattle.std.specs.Prelude.{IfOk}
use Rattle.seat_random.specs.Stream.{Stream}
use Rattle.seats.specs.Book.{stream_of}
use Rattle.macro_parse.specs.Answers.{macro_of as pieces_of_text}
use Rattle.command_rules.specs.MacroRules.{Call, call_in, by_pieces}
use Rattle.command_rules.proofs.RunLemmas.{runs}
use Rattle.command_rules.proofs.macros.run_called.Goals as goal

-- the text that stands in the book is run
pub returns : goal.returns
returns c =
    let table = c.args.readable.now in
    let book = c.args.book.now in
    let text = c.in-Some.text.now in
    let call : Call = record { name = c.in-Macro.name; args = c.in-Macro.args; to = c.in-Macro.to } in
    let same : c.new-stream.result ≡ stream_of book = c.new-stream.ensures ∙ (λ i. record { seed = c.seed.ensures i; drawn = c.drawn.ensures.value i }) in
    runs table c.args.seat book.macros (stream_of book) c.args.command.now call text c.run_text.result (ap call_in c.in-Macro.is) c.in-Some.ensures
    (subst (λ (stream : Stream). IfOk c.run_text.result (λ ran. ran ≡ by_pieces table c.args.seat stream call (pieces_of_text text))) same (c.run_text.ensures call.name))
