use Rattle.std.proofs.Common.{◌∙◌}
use Rattle.std.proofs.lemmas.List.{append-nil}
use Rattle.serving.proofs.endings.dump_now.Goals as goal

pub returns-clause-own : goal.returns-clause-own
returns-clause-own g c = c.act_quietly.ensures.turn.own_is ∙ append-nil c.args.pass.now.own
