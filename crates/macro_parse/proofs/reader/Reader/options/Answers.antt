use Rattle.std.proofs.Common.{◌-◌, ℕ, Err, subst}
use Rattle.macro_grammar.specs.Readers.{address_word_at, branch_word_at, between_at, options_at}
use Rattle.macro_grammar.specs.Limits.{AddressFits, BranchFits, FirstFits, OptionsFit}
use Rattle.macro_parse.specs.Flat.{Finds, place}
use Rattle.macro_parse.specs.FlatPieces.{ShowsAddress, ShowsBranch, ShowsFirst, ShowsOptions, Adds}
use Rattle.macro_parse.proofs.Finding.{finds_residual}
use Rattle.macro_parse.proofs.RollsWhole.{first_stops_options, address_alone, branch_alone, address_then, branch_then, address_then_stops, branch_then_stops}
use Rattle.macro_parse.proofs.reader.Reader.options.Goals as goal

pub returns-in_err-address-clause-value : goal.returns-in_err-address-clause-value
returns-in_err-address-clause-value c =
    finds_residual (Adds ShowsOptions OptionsFit c.args.self.now.nodes.items c.first_between_blanks.new.self.nodes.items) (λ turns. options_at (c.args.depth - 1) turns (place c.args.self.now.end c.args.self.now.cursor.rest.now)) c.from_residual.result c.in_err-address.field-0.0 c.args.self.now.cursor.rest.now c.first_between_blanks.new.self.cursor.rest.now c.from_residual.ensures.1
    (first_stops_options (c.args.depth - 1) c.args.self.now.end c.args.self.now.cursor.rest.now c.first_between_blanks.new.self.cursor.rest.now c.args.self.now.nodes.items c.first_between_blanks.new.self.nodes.items c.requires.place c.first_between_blanks.ensures.shrinks (Adds ShowsFirst FirstFits c.args.self.now.nodes.items c.first_between_blanks.new.self.nodes.items) (Adds ShowsOptions OptionsFit c.args.self.now.nodes.items c.first_between_blanks.new.self.nodes.items) c.in_err-address.field-0.0 c.in_err-address.ensures.value)

pub returns-then-not-takes-clause-value : goal.returns-then-not-takes-clause-value
returns-then-not-takes-clause-value c =
    let h = rw c.in-ForWhom.is at c.in_ok-address.ensures.value in
    address_alone (c.args.depth - 1) c.args.self.now.end c.args.self.now.cursor.rest.now c.first_between_blanks.new.self.cursor.rest.now c.args.self.now.nodes.items c.first_between_blanks.new.self.nodes.items c.requires.place c.first_between_blanks.ensures.shrinks c.takes.new.self.rest.now c.in-ForWhom.address h c.if-not-takes.ensures.value

pub returns-in_err-branch-in-ForWhom-clause-value : goal.returns-in_err-branch-in-ForWhom-clause-value
returns-in_err-branch-in-ForWhom-clause-value c =
    let h = rw c.in-ForWhom.is at c.in_ok-address.ensures.value in
    let g = subst (λ (e : ℕ). Finds (Adds ShowsBranch BranchFits c.first_between_blanks.new.self.nodes.items c.branch_between_blanks.new.self.nodes.items) (λ turns. between_at (branch_word_at (c.args.depth - 1) turns) (place e c.takes.new.self.rest.now)) (Err c.in_err-branch-in-ForWhom.field-0.0) c.takes.new.self.rest.now c.branch_between_blanks.new.self.cursor.rest.now) c.first_between_blanks.ensures.end c.in_err-branch-in-ForWhom.ensures.value in
    finds_residual (Adds ShowsOptions OptionsFit c.args.self.now.nodes.items c.branch_between_blanks.new.self.nodes.items) (λ turns. options_at (c.args.depth - 1) turns (place c.args.self.now.end c.args.self.now.cursor.rest.now)) c.from_residual-in_err-branch-in-ForWhom.result c.in_err-branch-in-ForWhom.field-0.0 c.args.self.now.cursor.rest.now c.branch_between_blanks.new.self.cursor.rest.now c.from_residual-in_err-branch-in-ForWhom.ensures.1
    (address_then_stops (c.args.depth - 1) c.args.self.now.end c.args.self.now.cursor.rest.now c.first_between_blanks.new.self.cursor.rest.now c.args.self.now.nodes.items c.first_between_blanks.new.self.nodes.items c.requires.place c.first_between_blanks.ensures.shrinks c.takes.new.self.rest.now c.branch_between_blanks.new.self.cursor.rest.now c.branch_between_blanks.new.self.nodes.items c.if-not-takes.ensures.value (Adds ShowsOptions OptionsFit c.args.self.now.nodes.items c.branch_between_blanks.new.self.nodes.items) c.in-ForWhom.address c.in_err-branch-in-ForWhom.field-0.0 h g)

pub returns-in_ok-branch-in-ForWhom-clause-value : goal.returns-in_ok-branch-in-ForWhom-clause-value
returns-in_ok-branch-in-ForWhom-clause-value c =
    let h = rw c.in-ForWhom.is at c.in_ok-address.ensures.value in
    let g = rw c.first_between_blanks.ensures.end at c.in_ok-branch-in-ForWhom.ensures.value in
    address_then (c.args.depth - 1) c.args.self.now.end c.args.self.now.cursor.rest.now c.first_between_blanks.new.self.cursor.rest.now c.args.self.now.nodes.items c.first_between_blanks.new.self.nodes.items c.requires.place c.first_between_blanks.ensures.shrinks c.takes.new.self.rest.now c.branch_between_blanks.new.self.cursor.rest.now c.branch_between_blanks.new.self.nodes.items c.if-not-takes.ensures.value c.in-ForWhom.address c.in_ok-branch-in-ForWhom.branch h g

pub returns-then-not-takes-2-clause-value : goal.returns-then-not-takes-2-clause-value
returns-then-not-takes-2-clause-value c =
    let h = rw c.in-OnWhat.is at c.in_ok-address.ensures.value in
    branch_alone (c.args.depth - 1) c.args.self.now.end c.args.self.now.cursor.rest.now c.first_between_blanks.new.self.cursor.rest.now c.args.self.now.nodes.items c.first_between_blanks.new.self.nodes.items c.requires.place c.first_between_blanks.ensures.shrinks c.takes-in-OnWhat.new.self.rest.now c.in-OnWhat.branch h c.if-not-takes-2.ensures.value

pub returns-in_err-address-in-OnWhat-clause-value : goal.returns-in_err-address-in-OnWhat-clause-value
returns-in_err-address-in-OnWhat-clause-value c =
    let h = rw c.in-OnWhat.is at c.in_ok-address.ensures.value in
    let g = subst (λ (e : ℕ). Finds (Adds ShowsAddress AddressFits c.first_between_blanks.new.self.nodes.items c.address_between_blanks.new.self.nodes.items) (λ turns. between_at (address_word_at (c.args.depth - 1) turns) (place e c.takes-in-OnWhat.new.self.rest.now)) (Err c.in_err-address-in-OnWhat.field-0.0) c.takes-in-OnWhat.new.self.rest.now c.address_between_blanks.new.self.cursor.rest.now) c.first_between_blanks.ensures.end c.in_err-address-in-OnWhat.ensures.value in
    finds_residual (Adds ShowsOptions OptionsFit c.args.self.now.nodes.items c.address_between_blanks.new.self.nodes.items) (λ turns. options_at (c.args.depth - 1) turns (place c.args.self.now.end c.args.self.now.cursor.rest.now)) c.from_residual-in_err-address-in-OnWhat.result c.in_err-address-in-OnWhat.field-0.0 c.args.self.now.cursor.rest.now c.address_between_blanks.new.self.cursor.rest.now c.from_residual-in_err-address-in-OnWhat.ensures.1
    (branch_then_stops (c.args.depth - 1) c.args.self.now.end c.args.self.now.cursor.rest.now c.first_between_blanks.new.self.cursor.rest.now c.args.self.now.nodes.items c.first_between_blanks.new.self.nodes.items c.requires.place c.first_between_blanks.ensures.shrinks c.takes-in-OnWhat.new.self.rest.now c.address_between_blanks.new.self.cursor.rest.now c.address_between_blanks.new.self.nodes.items c.if-not-takes-2.ensures.value (Adds ShowsOptions OptionsFit c.args.self.now.nodes.items c.address_between_blanks.new.self.nodes.items) c.in-OnWhat.branch c.in_err-address-in-OnWhat.field-0.0 h g)

pub returns-in_ok-address-in-OnWhat-clause-value : goal.returns-in_ok-address-in-OnWhat-clause-value
returns-in_ok-address-in-OnWhat-clause-value c =
    let h = rw c.in-OnWhat.is at c.in_ok-address.ensures.value in
    let g = rw c.first_between_blanks.ensures.end at c.in_ok-address-in-OnWhat.ensures.value in
    branch_then (c.args.depth - 1) c.args.self.now.end c.args.self.now.cursor.rest.now c.first_between_blanks.new.self.cursor.rest.now c.args.self.now.nodes.items c.first_between_blanks.new.self.nodes.items c.requires.place c.first_between_blanks.ensures.shrinks c.takes-in-OnWhat.new.self.rest.now c.address_between_blanks.new.self.cursor.rest.now c.address_between_blanks.new.self.nodes.items c.if-not-takes-2.ensures.value c.in-OnWhat.branch c.in_ok-address-in-OnWhat.address h g
