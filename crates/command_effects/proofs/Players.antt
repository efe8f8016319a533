-- No command changes how many players there are.
use Rattle.std.proofs.Common.{◌≡◌, ℕ, List, Some, None, refl, ℤ}
use Rattle.std.specs.Prelude.{Option}
use Rattle.names.specs.declared.token_id.TokenId.{TokenId}
use Rattle.tokens.specs.declared.token.Token.{Token as Made}
use Rattle.command_json.specs.declared.command.Command.{Command}
use Rattle.command_json.specs.declared.command.Command.TheVariants.{Move}
use Rattle.macro_eval.specs.declared.intent.Intent.{Intent}
use Rattle.world.specs.Scene.{Scene}
use Rattle.command_effects.specs.GmEffects.{gm_scene_by}
use Rattle.command_effects.specs.Effects.{own_token, after_steps, scene_by}

steps_keep : (steps : ℕ) (id : TokenId) (path : List (ℤ × ℤ)) (o : Option Made) (s : Scene) → (after_steps steps id path o s).fog.players ≡ s.fog.players
steps_keep steps id path None s = refl
steps_keep steps id path (Some t) s = refl

pub players_kept : (steps : ℕ) (intents : List Intent) (seat : ℕ) (s : Scene) (c : Option Command) → (scene_by steps intents seat s c).fog.players ≡ s.fog.players
unfolding scene_by gm_scene_by
players_kept steps intents seat s None = refl
players_kept steps intents seat s (Some (Move token path)) = steps_keep steps token path (own_token s seat token) s
players_kept steps intents seat s (Some c) = refl
