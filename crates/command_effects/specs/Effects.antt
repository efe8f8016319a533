-- What an accepted command does to the scene.
use Rattle.std.specs.Prelude.{ℕ, zero, suc, ◌&&◌, if◌then◌else◌, List, [], ◌∷◌, length, map, Option, Some, None, unwrap_or, ℤ}
use Rattle.std.specs.List.{find}
use Rattle.names.specs.declared.token_id.TokenId.{TokenId}
use Rattle.cells.specs.declared.cell.Cell.{Cell}
use Rattle.lattice.specs.Coordinates.{Coordinates, square_centre_of}
use Rattle.maps.specs.Maps.{Grid, map_of}
use Rattle.tokens.specs.declared.token.Token.{Token}
use Rattle.tokens.specs.Tokens.{has_id, placed, with_light, with_prop}
use Rattle.topology.specs.WallLists.{WallLists}
use Rattle.topology.specs.Paths.{first_block}
use Rattle.macro_eval.specs.declared.intent.Intent.{Intent}
use Rattle.initiative.specs.Fights.{with_entry, without_entry}
use Rattle.world.specs.Scene.{Scene, removed, with_token}
use Rattle.player_view.specs.View.{is_gm, acts_on}
use Rattle.command_json.specs.declared.command.Command.{Command}
use Rattle.command_json.specs.declared.command.Command.TheVariants.{Macro, Move, Setprop, Light, Make, Remove, Init, Uninit}
use Rattle.command_rules.specs.Places.{cell_at}
use Rattle.command_effects.specs.Making.{players_token, with_new}
use Rattle.command_effects.specs.MacroEffects.{with_intents}
use Rattle.command_effects.specs.GmEffects.{gm_scene_by}

-- ---- moves

abbrev pub eye_at : ℕ → Cell → Coordinates
eye_at side cell = square_centre_of cell.x cell.y side

-- where the token's eye is before the path and at each of its cells
abbrev pub eyes_along : ℕ → Cell → List (ℤ × ℤ) → List Coordinates
eyes_along side from path = eye_at side from ∷ map (λ place. eye_at side (cell_at place)) path

-- how many of the first steps no wall blocks
abbrev pub free_steps : WallLists → ℕ → Cell → List (ℤ × ℤ) → ℕ
free_steps walls side from path = unwrap_or (first_block walls (eyes_along side from path)) (length path)

-- walls don't block the game master
abbrev pub steps_on : ℕ → Token → List (ℤ × ℤ) → Option Grid → ℕ
steps_on seat t path None = 0
steps_on seat t path (Some m) = if is_gm seat then length path else free_steps m.walls t.size t.cell path

abbrev pub steps_with : Scene → ℕ → List (ℤ × ℤ) → Option Token → ℕ
steps_with s seat path None = 0
steps_with s seat path (Some t) = steps_on seat t path (map_of t.map s.maps)

-- the token of the id that the seat may act on
abbrev pub own_token : Scene → ℕ → TokenId → Option Token
own_token s seat id = find (λ t. has_id id t && acts_on s seat t) s.tokens

-- the steps of an accepted move, else 0
unfoldable pub steps_by : Scene → ℕ → Option Command → ℕ
steps_by s seat None = 0
steps_by s seat (Some (Move token path)) = steps_with s seat path (own_token s seat token)
steps_by s seat (Some c) = 0

-- where a token is after so many steps
abbrev pub cell_after : ℕ → Cell → List (ℤ × ℤ) → Cell
cell_after zero from path = from
cell_after (suc steps) from [] = from
cell_after (suc steps) from (place ∷ path) = cell_after steps (cell_at place) path

-- the token of that id, which the seat may act on, takes the steps
abbrev pub after_steps : ℕ → TokenId → List (ℤ × ℤ) → Option Token → Scene → Scene
after_steps steps id path None s = s
after_steps steps id path (Some t) s = with_token id (placed t.map (cell_after steps t.cell path)) s

-- ---- all commands

-- the scene after an accepted command of the seat: a move takes so many steps, and a macro sets these properties
unfoldable pub scene_by : ℕ → List Intent → ℕ → Scene → Option Command → Scene
scene_by steps intents seat s None = s
scene_by steps intents seat s (Some (Macro name args to)) = with_intents intents s
scene_by steps intents seat s (Some (Move token path)) = after_steps steps token path (own_token s seat token) s
scene_by steps intents seat s (Some (Setprop token class name value)) = with_token token (with_prop class name value) s
scene_by steps intents seat s (Some (Light token light)) = with_token token (with_light light) s
scene_by steps intents seat s (Some (Make tag map cell name)) = with_new (players_token seat tag map cell name) s
scene_by steps intents seat s (Some (Remove token)) = removed token s
scene_by steps intents seat s (Some (Init token value)) = record s { fight = with_entry token value s.fight }
scene_by steps intents seat s (Some (Uninit token)) = record s { fight = without_entry token s.fight }
scene_by steps intents seat s (Some c) = gm_scene_by seat s c
