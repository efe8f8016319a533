use Rattle.std.proofs.Common.{sym, subst}
use Rattle.command_effects.specs.Setting.{MaySetAll}
use Rattle.command_effects.proofs.IntentLemmas.{next_may, set_more}
use Rattle.command_effects.proofs.intents.with_intents.Goals as goal

-- the property was set
pub loop-intent-preserved : goal.loop-intent-preserved
loop-intent-preserved c =
    set_more c.args.seat c.args.scene.now c.intents-list.result.now c.loop-intent.intent-index c.loop-intent.after c.set_allowed.new.scene c.intent-item.result c.loop-intent.invariant
    c.loop-intent-test.true c.intent-item.is
    (next_may c.args.seat c.args.scene.now c.intents-list.result.now c.loop-intent.intent-index c.loop-intent.after c.intent-item.result (subst (MaySetAll c.args.scene.now c.args.seat) (sym c.intents-list.ensures.value) c.requires) c.loop-intent.invariant c.loop-intent-test.true c.intent-item.is)
    c.in_ok-set_allowed.ensures
