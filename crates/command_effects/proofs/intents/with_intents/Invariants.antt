use Rattle.command_effects.proofs.IntentLemmas.{IsSetTo}
use Rattle.command_effects.proofs.intents.with_intents.Given as goal

abbrev pub invariant-loop-intent : goal.invariant-loop-intent
invariant-loop-intent l = IsSetTo l.seat l.fn.scene l.list l.intent-index l.after
