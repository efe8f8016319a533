-- What a command that puts a token elsewhere changes of what the game master is shown.
use Rattle.std.specs.Prelude.{◌≡◌, ℕ, if◌then◌else◌, List, map, Option, Some, None, option_and_then, option_map}
use Rattle.names.specs.declared.token_id.TokenId.{TokenId}
use Rattle.names.specs.TokenId.{id_eq}
use Rattle.command_json.specs.declared.command.Command.{Command}
use Rattle.command_json.specs.declared.command.Command.TheVariants.{Move, Place}
use Rattle.macro_eval.specs.declared.intent.Intent.{Intent}
use Rattle.tokens.specs.declared.token.Token.{Token}
use Rattle.tokens.specs.Tokens.{token_of}
use Rattle.views.specs.declared.view.TokenView.{TokenView}
use Rattle.views.specs.declared.view.View.{View}
use Rattle.world.specs.Scene.{Scene}
use Rattle.player_view.specs.Tables.{HasTables}
use Rattle.player_view.specs.View.{view_of}
use Rattle.command_effects.specs.Allowed.{IsAllowed}
use Rattle.command_effects.specs.Effects.{scene_by}
use Rattle.command_effects.specs.Way.{after_by, way_of}
use Rattle.view_marks.specs.declared.placed.Placed.{Placed}

-- ---- where a command puts a token

-- the token that the command puts elsewhere
abbrev pub moved_by : Command → Option TokenId
moved_by (Move token path) = Some token
moved_by (Place token map cell) = Some token
moved_by c = None

-- where the token of the id stands
abbrev pub placed_as : TokenId → Token → Placed
placed_as id t = record { id = id; map = t.map; cell = t.cell }

-- of the token of that id
abbrev pub placed_of : TokenId → List Token → Option Placed
placed_of id tokens = option_map (placed_as id) (token_of id tokens)

-- where the token stands in the scene that the command put elsewhere
abbrev pub placed_by : Scene → Command → Option Placed
placed_by s c = option_and_then (λ id. placed_of id s.tokens) (moved_by c)

-- ---- the view with the token there

abbrev pub placed_token : Placed → TokenView → TokenView
placed_token p t = if id_eq t.id p.id then record t { map = p.map; cell = p.cell } else t

abbrev pub placed_in : Placed → View → View
placed_in p v = record v { tokens = map (placed_token p) v.tokens }

-- where nothing is exposed on its way, that is all that the command changes of what the game master is shown
abbrev pub PlacesOneToken : Type 0
PlacesOneToken = (steps : ℕ) (intents : List Intent) (seat : ℕ) (s : Scene) (c : Command) (p : Placed) → HasTables s → IsAllowed s seat c → placed_by (scene_by steps intents seat s (Some c)) c ≡ Some p
    → way_of steps seat s (Some c) ≡ None → view_of (after_by steps intents seat s (Some c)) 0 ≡ placed_in p (view_of s 0)
