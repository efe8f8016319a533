use Rattle.std.proofs.Common.{◌∙◌, ap, length, List, ℕ}
use Rattle.campaign_law.specs.declared.answer.Answer.{Answer}
use Rattle.campaign_law.specs.Law.{world_of}
use Rattle.script_play.specs.Played.{entries_since}
use Rattle.script_play.proofs.AfterEntry.{entered_written, nothing_since, prefix_none}
use Rattle.script_play.specs.declared.run.Played.TheVariants.{Memory}
use Rattle.script_play.proofs.Fronts.{wrote_nothing}
use Rattle.std.specs.Prelude.{is_some}
use Rattle.script_play.specs.declared.tally.Tally.{Tally}
use Rattle.script_play.specs.Counting.{with_sent}
use Rattle.script_play.specs.Sending.{lines_below}
use Rattle.script_play.proofs.LineRuns.{on_ok}
use Rattle.script_play.proofs.Counts.{adds_line, entered_line, entered_lines, few_refused}
use Rattle.script_play.proofs.run.enter.Goals as goal

pub returns-in-Ok-clause-written : goal.returns-in-Ok-clause-written
returns-in-Ok-clause-written g c =
    entered_written c.send_all.result c.args.campaign.now c.step.new.self c.args.entry c.seat-acting.result c.in-Ok.answer.line _ _
    c.in-Ok.ensures.origin c.in-Ok.ensures.history c.requires.opening c.requires.line c.requires.quiet c.send_all.ensures.few c.seat-acting.ensures
    (ap (λ (a : Answer). a.line) c.in-Ok.ensures.answer) c.send_all.ensures.sends

pub returns-clause-stopped : goal.returns-clause-stopped
returns-clause-stopped g c = prefix_none _ _ (ap (entries_since c.args.campaign.now) c.in-Err.ensures.unchanged ∙ nothing_since c.args.campaign.now)

pub returns-clause-written : goal.returns-clause-written
returns-clause-written g c = wrote_nothing Memory (world_of c.args.campaign.now) _ _ (ap (entries_since c.args.campaign.now) c.in-Err.ensures.unchanged ∙ nothing_since c.args.campaign.now)

pub returns-in-Ok-clause-counted : goal.returns-in-Ok-clause-counted
returns-in-Ok-clause-counted g c =
    let old = c.args.campaign.now in
    let new = c.step.new.self in
    let lines : List (List ℕ) = lines_below new c.seat-acting.result c.in-Ok.answer.line (length new.origin.seats) in
    on_ok c.send_all.result
    (λ is. adds_line old new c.args.entry c.in-Ok.ensures.history c.args.tally.now c.send_all.new.tally c.is_some.result lines
    (entered_line (world_of old) c.args.entry c.requires.line)
    (c.is_some.ensures ∙ ap (λ (a : Answer). is_some a.refusal) c.in-Ok.ensures.answer)
    (entered_lines old new c.args.entry c.in-Ok.ensures.history c.seat-acting.result c.in-Ok.answer.line c.in-Ok.ensures.origin c.requires.opening c.requires.line c.requires.quiet c.send_all.ensures.few c.seat-acting.ensures
    (ap (λ (a : Answer). a.line) c.in-Ok.ensures.answer))
    c.step.ensures.looks (is ∙ ap (λ t. with_sent t lines) c.count_line.ensures))
    c.send_all.ensures.counted

pub returns-in-Ok-clause-lines : goal.returns-in-Ok-clause-lines
returns-in-Ok-clause-lines g c =
    let new = c.step.new.self in
    let lines : List (List ℕ) = lines_below new c.seat-acting.result c.in-Ok.answer.line (length new.origin.seats) in
    on_ok c.send_all.result (λ is. ap (λ (t : Tally). t.lines) (is ∙ ap (λ t. with_sent t lines) c.count_line.ensures)) c.send_all.ensures.counted

pub returns-in-Ok-clause-refused : goal.returns-in-Ok-clause-refused
returns-in-Ok-clause-refused g c =
    let new = c.step.new.self in
    let lines : List (List ℕ) = lines_below new c.seat-acting.result c.in-Ok.answer.line (length new.origin.seats) in
    on_ok c.send_all.result (λ is. few_refused c.args.tally.now c.send_all.new.tally c.is_some.result lines c.requires.refused (is ∙ ap (λ t. with_sent t lines) c.count_line.ensures)) c.send_all.ensures.counted
