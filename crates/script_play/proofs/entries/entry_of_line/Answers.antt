use Rattle.std.proofs.Common.{◌≡◌, ◌≤◌, ◌∙◌, ◌-◌, true, Some, drop, length, nat_lt, sym, ap, subst, arith, rules}
use Rattle.std.proofs.lemmas.Bool.Decides.{nat_tests}
use Rattle.line_io.specs.Script.{IsScriptLine, script_parts}
use Rattle.campaign_law.specs.Law.{world_of}
use Rattle.script_play.specs.Script.{entry_of}
use Rattle.script_play.proofs.EntryLines.{seats_of_replay}
use Rattle.script_play.proofs.ScriptLines.{command_behind, entry_found}
use Rattle.script_play.proofs.entries.entry_of_line.Goals as goal

pub length_before-front-requires : goal.length_before-front-requires
length_before-front-requires g c =
    let shorter : length c.in-Some.command.now ≤ length c.bytes-2.result.now = subst (λ l. length c.in-Some.command.now ≤ length l) (sym c.bytes-2.ensures)
    (command_behind c.args.line c.in-Some.seat c.in-Some.command.now (subst (λ l. IsScriptLine l c.in-Some.seat c.in-Some.command.now) c.bytes.ensures c.in-Some.ensures.text)).shorter in
    grind (arith, shorter, c.in-Some.command-is)

pub returns : goal.returns
returns g c =
    let w = world_of c.args.campaign.now in
    let line = c.args.line in
    let words = c.in-Some.command.now in
    let parts : script_parts line ≡ Some (c.in-Some.seat, words) = ap script_parts (sym c.bytes.ensures) ∙ c.in-Some.ensures.parts in
    let behind = command_behind line c.in-Some.seat words (subst (λ l. IsScriptLine l c.in-Some.seat words) c.bytes.ensures c.in-Some.ensures.text) in
    let front : c.length_before-front.result ≡ length line - length words = search rules in
    let command : drop c.length_before-front.result line ≡ words = ap (λ n. drop n line) front ∙ behind.is in
    let made : c.in_ok-entry.entry ≡ entry_of w c.in-Some.seat (drop c.length_before-front.result line) = search rules in
    let within : nat_lt c.in-Some.seat (length w.seats) ≡ true = grind (arith, nat_tests, c.if-number-seats.false, c.number.ensures.value, c.requires, seats_of_replay c.args.campaign.now.origin c.args.campaign.now.history) in
    entry_found w line c.in-Some.seat words (drop c.length_before-front.result line) c.in_ok-entry.entry parts within made command
