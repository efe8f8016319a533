use Rattle.std.proofs.Common.{◌∙◌}
use Rattle.command_effects.proofs.Settling.{are_seen, is_settled, seen_count}
use Rattle.command_effects.proofs.sight.settle.Goals as goal

pub returns-clause-settled : goal.returns-clause-settled
returns-clause-settled c =
    is_settled c.args.players c.args.scene.now c.join_each.new.self c.deref.result.now c.requires.others c.in_ok-found.ensures.fitting
    (c.deref.ensures.value ∙ c.in_ok-found.ensures.value) c.join_each.ensures

pub returns-clause-seen : goal.returns-clause-seen
returns-clause-seen c = are_seen c.args.players c.args.scene.now c.join_each.new.self c.in_ok-found.found.items c.in_ok-found.ensures.value (returns-clause-settled c)

pub returns-clause-count : goal.returns-clause-count
returns-clause-count c = seen_count c.args.players c.args.scene.now c.join_each.new.self c.in_ok-found.found.items c.in_ok-found.ensures.value (returns-clause-settled c)
