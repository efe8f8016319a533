-- Whom a change of one token may show something.
use Rattle.std.specs.Prelude.{◌≡◌, ◌==◌, ◌≤◌, ℕ, ◌&&◌, ◌||◌, not, Bool, true, false, List, Some, slice_get}
use Rattle.std.specs.List.{list_any}
use Rattle.names.specs.declared.kinds.Layer.{Layer}
use Rattle.names.specs.declared.kinds.Layer.TheVariants.{Token as TokenLayer, Hidden, Object, Background}
use Rattle.names.specs.declared.kinds.WallKind.{WallKind}
use Rattle.names.specs.declared.kinds.WallKind.TheVariants.{Vbl, Mbl}
use Rattle.names.specs.declared.token_id.TokenId.{TokenId}
use Rattle.command_json.specs.declared.command.Command.{Command}
use Rattle.command_json.specs.declared.command.Command.TheVariants.{Move, Setprop, Light, Trail, Wall, Unwall, Own, Layer as PutOnLayer, Visible, Sight, Place, Secret, Expose, Hide}
use Rattle.macro_eval.specs.declared.intent.Intent.{Intent}
use Rattle.tokens.specs.declared.token.Token.{Token}
use Rattle.tokens.specs.Owners.{has_owner}
use Rattle.tokens.specs.Tokens.{has_id}
use Rattle.world.specs.Scene.{Scene}
use Rattle.player_view.specs.Sight.{is_hidden, is_on}
use Rattle.player_view.specs.View.{is_gm, view_of}
use Rattle.command_effects.specs.Effects.{scene_by}
use Rattle.fog_book.specs.declared.exposure.Exposure.{Exposure}
use Rattle.command_effects.specs.Settle.{settled_set, IsSettled}
use Rattle.command_effects.specs.Way.{after_by, exposed_on, way_of}

-- ---- sets of seats

-- of all seats, those of the set are those of which the test holds
abbrev pub AreWhere : ℕ → (ℕ → Bool) → Type 0
AreWhere seats test = (p : ℕ) → p ≤ 32 → has_owner seats p ≡ test p

-- ---- one token

-- the player owns the token, which isn't hidden
abbrev pub plays : ℕ → Token → Bool
plays p t = not (is_hidden t.layer) && has_owner t.owners p

-- and it stands on the map of that name
abbrev pub plays_on : List ℕ → ℕ → Token → Bool
plays_on name p t = is_on name t && plays p t

abbrev pub has_token_on : Scene → ℕ → List ℕ → Bool
has_token_on s p name = list_any (plays_on name p) s.tokens

-- what is exposed uncovers tokens of the layer
abbrev pub lies : Layer → Bool
lies TokenLayer = false
lies Hidden = false
lies Object = true
lies Background = true

-- the player may be shown the token, or see by it or by its light
abbrev pub meets : Scene → ℕ → Token → Bool
meets s p t = not (is_hidden t.layer) && (lies t.layer || (has_owner t.owners p || has_token_on s p t.map))

-- and it has that id
abbrev pub meets_as : Scene → TokenId → ℕ → Token → Bool
meets_as s id p t = has_id id t && meets s p t

abbrev pub meets_any : Scene → TokenId → ℕ → Bool
meets_any s id p = list_any (meets_as s id p) s.tokens

-- ---- a command

abbrev pub blocks_movement : WallKind → Bool
blocks_movement Vbl = false
blocks_movement Mbl = true

-- the command, by which the one scene becomes the other, may show the player something: a command that changes one token
-- does where the player may be shown it before or after, and a wall that blocks sight where the player has a token
abbrev pub looks_on : Scene → Scene → Command → ℕ → Bool
looks_on s after (Move token path) p = meets_any s token p || meets_any after token p
looks_on s after (Setprop token class name value) p = meets_any s token p || meets_any after token p
looks_on s after (Light token light) p = meets_any s token p || meets_any after token p
looks_on s after (Own token owner on) p = meets_any s token p || meets_any after token p
looks_on s after (PutOnLayer token layer) p = meets_any s token p || meets_any after token p
looks_on s after (Visible token on) p = meets_any s token p || meets_any after token p
looks_on s after (Sight token sight) p = meets_any s token p || meets_any after token p
looks_on s after (Place token map cell) p = meets_any s token p || meets_any after token p
looks_on s after (Secret token name value) p = false
looks_on s after (Trail map on) p = false
looks_on s after (Wall map kind a b) p = not (blocks_movement kind) && has_token_on s p map
looks_on s after (Unwall map kind a b) p = not (blocks_movement kind) && has_token_on s p map
looks_on s after (Expose player map rect) p = player == p
looks_on s after (Hide player map rect) p = player == p
looks_on s after c p = true

-- the scene that the command makes, with what is seen on its way exposed
abbrev pub walked_by : ℕ → List Intent → ℕ → Scene → Command → Scene
walked_by steps intents seat s c = exposed_on (way_of steps seat s (Some c)) (scene_by steps intents seat s (Some c))

-- the command leaves the view of each player whom it shows nothing
abbrev pub ShowsOthersNothing : Type 0
ShowsOthersNothing = (steps : ℕ) (intents : List Intent) (seat : ℕ) (s : Scene) (c : Command) (p : ℕ) → IsSettled s → looks_on s (scene_by steps intents seat s (Some c)) c p ≡ false → is_gm p ≡ false
    → view_of (after_by steps intents seat s (Some c)) p ≡ view_of s p

-- and all that such a player sees is exposed to it already
abbrev pub LeavesOthersSettled : Type 0
LeavesOthersSettled = (steps : ℕ) (intents : List Intent) (seat : ℕ) (s : Scene) (c : Command) → IsSettled s → (place : ℕ) (set : Exposure)
    → slice_get (walked_by steps intents seat s c).fog.sets place ≡ Some set → looks_on s (scene_by steps intents seat s (Some c)) c set.seat ≡ false → settled_set (walked_by steps intents seat s c) set ≡ set
