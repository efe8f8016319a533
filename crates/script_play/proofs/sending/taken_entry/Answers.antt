use Rattle.std.proofs.Common.{◌∙◌, sym}
use Rattle.script_play.proofs.SendingLemmas.{no_taken, one_taken}
use Rattle.script_play.proofs.sending.taken_entry.Goals as goal

pub returns-then-none_wait : goal.returns-then-none_wait
returns-then-none_wait g c = no_taken c.args.campaign.now c.args.seat c.requires.opening (sym c.if-none_wait.true ∙ c.requires.none)

pub returns : goal.returns
returns g c = one_taken c.args.campaign.now c.args.seat c.queued.result c.requires.opening (sym c.if-none_wait.false ∙ c.requires.none) c.queued.ensures
