-- What a move exposes on its way, and the scene after a command.
use Rattle.std.specs.Prelude.{◌≡◌, ℕ, zero, suc, ◌-◌, if◌then◌else◌, List, [], ◌∷◌, map, take, Option, Some, None, ℤ}
use Rattle.names.specs.declared.token_id.TokenId.{TokenId}
use Rattle.cells.specs.declared.cell.Cell.{Cell}
use Rattle.fog_book.specs.Exposures.{joined, with_change}
use Rattle.maps.specs.Maps.{Grid, map_of}
use Rattle.tokens.specs.declared.token.Token.{Token}
use Rattle.tokens.specs.Tokens.{placed}
use Rattle.macro_eval.specs.declared.intent.Intent.{Intent}
use Rattle.world.specs.Scene.{Scene, with_token}
use Rattle.player_view.specs.Sight.{visible}
use Rattle.command_json.specs.declared.command.Command.{Command}
use Rattle.command_json.specs.declared.command.Command.TheVariants.{Move}
use Rattle.command_rules.specs.Places.{cell_at}
use Rattle.command_effects.specs.Effects.{own_token, cell_after, scene_by}
use Rattle.command_effects.specs.Settle.{settled}
use Rattle.command_effects.specs.declared.way.Way.{Way as Told}

-- ---- what is seen in one scene

-- what the player sees of the map of that name in the one scene is exposed to it in the other
abbrev pub exposed_to : Scene → List ℕ → Grid → ℕ → Scene → Scene
exposed_to seen name m player s = record s { fog = with_change s.fog player name (λ cells. joined cells (visible seen player m)) }

-- so it is to each of the first so many players, whose seats are numbered from 1 on
abbrev pub exposed_to_first : Scene → List ℕ → Grid → ℕ → Scene → Scene
exposed_to_first seen name m zero s = s
exposed_to_first seen name m (suc n) s = exposed_to seen name m (suc n) (exposed_to_first seen name m n s)

-- and to all players
abbrev pub exposed_from : Scene → List ℕ → Grid → Scene → Scene
exposed_from seen name m s = exposed_to_first seen name m s.fog.players s

-- ---- the way

-- the way of a token on a map that has a trail: the cells to which its steps led, all but the last
pub record Way : Type 0 where
  pub id : TokenId
  pub name : List ℕ
  pub map : Grid
  pub cells : List Cell
  -- where it ends
  pub last : Cell

-- the code's way is this one
abbrev pub IsWay : Scene → Option Way → Option Told → Type 0
IsWay s None None = Unit {0}
IsWay s (Some w) (Some told) =
    (told.id ≡ w.id) × (told.map ≡ w.name) × (told.cells.items ≡ w.cells) × (told.last ≡ w.last) × (map_of w.name s.maps ≡ Some w.map)
IsWay s None (Some told) = ⊥
IsWay s (Some w) None = ⊥

-- what is seen where the token stands at each of these cells of the map, one after the other, is exposed
abbrev pub along : TokenId → List ℕ → Grid → List Cell → Scene → Scene
along id name m [] s = s
along id name m (cell ∷ cells) s = along id name m cells (exposed_from (with_token id (placed name cell) s) name m s)

abbrev pub exposed_on : Option Way → Scene → Scene
exposed_on None s = s
exposed_on (Some w) s = along w.id w.name w.map w.cells s

abbrev pub way_on : ℕ → TokenId → List (ℤ × ℤ) → Token → Option Grid → Option Way
way_on steps id path t None = None
way_on steps id path t (Some m) =
    if m.trail
    then Some (record { id = id; name = t.map; map = m; cells = map cell_at (take (steps - 1) path); last = cell_after steps t.cell path })
    else None

abbrev pub way_by : Scene → ℕ → TokenId → List (ℤ × ℤ) → Option Token → Option Way
way_by s steps id path None = None
way_by s steps id path (Some t) = way_on steps id path t (map_of t.map s.maps)

-- the way that an accepted command of the seat takes by so many steps
unfoldable pub way_of : ℕ → ℕ → Scene → Option Command → Option Way
way_of steps seat s (Some (Move token path)) = way_by s steps token path (own_token s seat token)
way_of steps seat s c = None

-- ---- all of it

-- the scene after an accepted command of the seat: what is seen on the way is exposed, and then what is seen
unfoldable pub after_by : ℕ → List Intent → ℕ → Scene → Option Command → Scene
after_by steps intents seat s c = settled (exposed_on (way_of steps seat s c) (scene_by steps intents seat s c))
