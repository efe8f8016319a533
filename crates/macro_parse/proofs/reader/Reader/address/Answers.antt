use Rattle.std.proofs.Common.{◌-◌, arith}
use Rattle.macro_grammar.specs.Readers.{address_word_at}
use Rattle.macro_grammar.specs.Limits.{AddressFits}
use Rattle.macro_parse.specs.Flat.{place}
use Rattle.macro_parse.specs.FlatPieces.{ShowsAddress, Adds}
use Rattle.macro_parse.proofs.Finding.{finds_residual}
use Rattle.macro_parse.proofs.RollsFound.{receivers_found, hidden_found, runner_found, both_found, master_found, whisper_found, whisper_stops, address_end, address_off}
use Rattle.macro_parse.proofs.reader.Reader.address.Goals as goal

pub returns-in_default-clause-value : goal.returns-in_default-clause-value
returns-in_default-clause-value c =
    λ turns lt. address_end (c.args.depth - 1) turns (place c.args.self.now.end c.args.self.now.cursor.rest.now) c.args.self.now.cursor.rest.now c.in_default.ensures.cases

pub returns-in-114-clause-value : goal.returns-in-114-clause-value
returns-in-114-clause-value c =
    receivers_found (c.args.depth - 1) c.args.self.now.end c.at-at.result c.in-Some.first.now c.args.self.now.cursor.rest.now c.in-Some.rest.now c.args.self.now.nodes.items c.in-Some.ensures.cases.0 c.at-at.ensures c.in-114.is

pub returns-in-104-clause-value : goal.returns-in-104-clause-value
returns-in-104-clause-value c =
    hidden_found (c.args.depth - 1) c.args.self.now.end c.at-at.result c.in-Some.first.now c.args.self.now.cursor.rest.now c.in-Some.rest.now c.args.self.now.nodes.items c.in-Some.ensures.cases.0 c.at-at.ensures c.in-104.is

pub returns-in-115-clause-value : goal.returns-in-115-clause-value
returns-in-115-clause-value c =
    runner_found (c.args.depth - 1) c.args.self.now.end c.at-at.result c.in-Some.first.now c.args.self.now.cursor.rest.now c.in-Some.rest.now c.args.self.now.nodes.items c.in-Some.ensures.cases.0 c.at-at.ensures c.in-115.is

pub returns-then-takes-clause-value : goal.returns-then-takes-clause-value
returns-then-takes-clause-value c =
    both_found (c.args.depth - 1) c.args.self.now.end c.at-at.result c.in-Some.first.now c.args.self.now.cursor.rest.now c.in-Some.rest.now c.args.self.now.nodes.items c.in-Some.ensures.cases.0 c.at-at.ensures c.takes.new.self.rest.now c.in-103.is c.if-takes.ensures.value

pub returns-else-takes-clause-value : goal.returns-else-takes-clause-value
returns-else-takes-clause-value c =
    master_found (c.args.depth - 1) c.args.self.now.end c.at-at.result c.in-Some.first.now c.args.self.now.cursor.rest.now c.in-Some.rest.now c.takes.new.self.rest.now c.args.self.now.nodes.items c.in-Some.ensures.cases.0 c.at-at.ensures c.in-103.is c.if-takes.ensures.value

pub returns-in_err-seat-in-119-clause-value : goal.returns-in_err-seat-in-119-clause-value
returns-in_err-seat-in-119-clause-value c =
    finds_residual (Adds ShowsAddress AddressFits c.args.self.now.nodes.items c.group.new.self.nodes.items) (λ turns. address_word_at (c.args.depth - 1) turns (place c.args.self.now.end c.args.self.now.cursor.rest.now)) c.from_residual.result c.in_err-seat-in-119.field-0.0 c.args.self.now.cursor.rest.now c.group.new.self.cursor.rest.now c.from_residual.ensures.1
    (whisper_stops c.args.depth (c.args.depth - 1) c.args.self.now.end c.in-Some.first.now c.args.self.now.cursor.rest.now c.in-Some.rest.now c.group.new.self.cursor.rest.now c.args.self.now.nodes.items c.group.new.self.nodes.items (omega (arith, c.requires.nests)) c.requires.place c.in-Some.ensures.cases.0 c.in-119.is (Adds ShowsAddress AddressFits c.args.self.now.nodes.items c.group.new.self.nodes.items) c.in_err-seat-in-119.field-0.0 c.in_err-seat-in-119.ensures.value)

pub returns-in_ok-seat-in-119-clause-value : goal.returns-in_ok-seat-in-119-clause-value
returns-in_ok-seat-in-119-clause-value c =
    whisper_found c.args.depth (c.args.depth - 1) c.args.self.now.end c.in-Some.first.now c.args.self.now.cursor.rest.now c.in-Some.rest.now c.group.new.self.cursor.rest.now c.args.self.now.nodes.items c.group.new.self.nodes.items (omega (arith, c.requires.nests)) c.requires.place c.in-Some.ensures.cases.0 c.in-119.is c.at-at.result c.in_ok-seat-in-119.seat c.at-at.ensures c.in_ok-seat-in-119.ensures.value

pub returns-in_default-first-clause-value : goal.returns-in_default-first-clause-value
returns-in_default-first-clause-value c =
    λ turns lt. address_off (c.args.depth - 1) turns (place c.args.self.now.end c.args.self.now.cursor.rest.now) c.in-Some.first.now c.args.self.now.cursor.rest.now c.in-Some.rest.now c.in-Some.ensures.cases.0 (λ z. omega arith) (λ z. omega arith) (λ z. omega arith) (λ z. omega arith) (λ z. omega arith)
