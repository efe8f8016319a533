-- The properties of a run, which a seat may set in a scene.
use Rattle.std.specs.Prelude.{◌≡◌, ℕ, List, Option, None, option_map}
use Rattle.names.specs.declared.token_id.TokenId.{TokenId}
use Rattle.macro_eval.specs.declared.intent.Intent.{Intent}
use Rattle.world.specs.Scene.{Scene}
use Rattle.player_view.specs.Asked.{Mine, mine_of}
use Rattle.command_rules.specs.declared.refusal.Refusal.{Refusal}
use Rattle.command_rules.specs.Rules.{setprop_rule}
use Rattle.command_rules.specs.MacroRules.{intents_rule}
use Rattle.command_effects.specs.Effects.{own_token}

-- the token of the id that the seat may act on, as rules ask for it
abbrev pub mine_for : Scene → ℕ → TokenId → Option Mine
mine_for s seat id = option_map mine_of (own_token s seat id)

abbrev pub intent_rule : Scene → ℕ → Intent → Option Refusal
intent_rule s seat i = setprop_rule seat i.class i.name (mine_for s seat i.id)

-- the seat may set these properties, each when its turn comes
abbrev pub MaySetAll : Scene → ℕ → List Intent → Type 0
MaySetAll s seat is = intents_rule seat (mine_for s seat) is ≡ None
