use Rattle.std.proofs.Common.{rules, ◌≡◌, ◌∙◌, [], sym, subst, ap, ℕ}
use Rattle.std.specs.Prelude.{Ok, Err}
use Rattle.std.proofs.lemmas.List.{append-nil}
use Rattle.campaign_law.specs.Law.{Course, world_of}
use Rattle.campaign_law.specs.declared.answer.Answer.{Answer}
use Rattle.script_play.specs.declared.run.Played.{Played}
use Rattle.script_play.specs.Played.{entries_since, HasWritten}
use Rattle.script_play.proofs.AfterEntry.{entered_written, since_is, prefix_none}
use Rattle.script_play.proofs.Fronts.{wrote_nothing}
use Rattle.log_play.specs.declared.logged.Logged.{Logged}
use Rattle.log_play.specs.Logged.{as_played}
use Rattle.log_play.proofs.Sizes.{line_short}
use Rattle.log_play.proofs.Stops.{by_played}
use Rattle.log_play.proofs.entering.enter.Goals as goal

none_since : (old new : Course) → new.history ≡ old.history → entries_since old new ≡ []
none_since old new same = since_is old new [] (same ∙ sym (append-nil old.history))

pub log_entry-requires-clause-short : goal.log_entry-requires-clause-short
log_entry-requires-clause-short g c = line_short (world_of c.args.campaign.now) c.args.entry c.requires.line

pub returns-in-Ok-send_all-clause-written : goal.returns-in-Ok-send_all-clause-written
returns-in-Ok-send_all-clause-written g c =
    entered_written (Ok c.in-Ok-send_all.due) c.args.campaign.now c.log_entry.new.campaign c.args.entry c.seat-acting.result c.in-Ok.answer.line _ _
    c.in-Ok.ensures.origin c.in-Ok.ensures.history c.requires.opening c.requires.line c.requires.quiet c.send_all.ensures.few c.seat-acting.ensures
    (ap (λ (a : Answer). a.line) c.in-Ok.ensures.answer) c.in-Ok-send_all.ensures.sends

pub returns-in-Ok-clause-written : goal.returns-in-Ok-clause-written
returns-in-Ok-clause-written g c =
    let old = c.args.campaign.now in
    let new = c.log_entry.new.campaign in
    let stop : Played = c.in-Err-send_all.stop in
    let IsWritten : Played → Type 0 = λ p. HasWritten p (world_of old) (entries_since old new) (g.O.Sink.written c.args.out.now) (g.O.Sink.written c.send_all.new.out) in
    subst (λ (s : Logged). IsWritten (as_played s)) (sym c.logged_by.ensures)
    (subst IsWritten (sym (by_played stop))
    (entered_written {A = ℕ} (Err stop) old new c.args.entry c.seat-acting.result c.in-Ok.answer.line _ _
    c.in-Ok.ensures.origin c.in-Ok.ensures.history c.requires.opening c.requires.line c.requires.quiet c.send_all.ensures.few c.seat-acting.ensures
    (ap (λ (a : Answer). a.line) c.in-Ok.ensures.answer) c.in-Err-send_all.ensures.sends))

pub returns-clause-stopped : goal.returns-clause-stopped
returns-clause-stopped g c =
    let same : c.log_entry.new.campaign.history ≡ c.args.campaign.now.history = search rules in
    prefix_none _ _ (none_since c.args.campaign.now c.log_entry.new.campaign same)

pub returns-clause-written : goal.returns-clause-written
returns-clause-written g c =
    let same : c.log_entry.new.campaign.history ≡ c.args.campaign.now.history = search rules in
    wrote_nothing _ _ _ _ (none_since c.args.campaign.now c.log_entry.new.campaign same)
