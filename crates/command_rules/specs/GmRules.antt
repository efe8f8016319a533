-- The first broken rule of a game master's command, over the whole scene.
use Rattle.std.specs.Prelude.{ℕ, ◌==◌, ◌&&◌, Bool, if◌then◌else◌, List, length, Option, Some, None, option_map, ℤ, nat_le}
use Rattle.lights.specs.Lights.{light_fault}
use Rattle.lights.specs.declared.LightFault.{LightFault}
use Rattle.lights.specs.declared.LightFault.TheVariants as light_faults
use Rattle.sight_types.specs.Sights.{sight_fault}
use Rattle.sight_types.specs.declared.SightFault.{SightFault}
use Rattle.sight_types.specs.declared.SightFault.TheVariants as sight_faults
use Rattle.maps.specs.Maps.{Grid, map_of}
use Rattle.maps.specs.MapFaults.{map_fault}
use Rattle.maps.specs.declared.map_table.MapFault.{MapFault}
use Rattle.maps.specs.declared.map_table.MapFault.TheVariants as map_faults
use Rattle.names.specs.declared.kinds.WallKind.{WallKind}
use Rattle.seats.specs.Book.{tag_used, tags_spent}
use Rattle.tokens.specs.Properties.{Property, is_full_for}
use Rattle.tokens.specs.Tokens.{token_of}
use Rattle.tokens.specs.declared.token.Token.{Token}
use Rattle.topology.specs.Order.{wall_between}
use Rattle.topology.specs.WallLists.{WallLists, walls_of, has_wall}
use Rattle.topology.specs.WallFaults.{wall_fault}
use Rattle.topology.specs.declared.walls.WallFault.{WallFault}
use Rattle.topology.specs.declared.walls.WallFault.TheVariants as wall_faults
use Rattle.command_json.specs.declared.command.Command.{Command}
use Rattle.command_json.specs.declared.command.Command.TheVariants.{Map, Mode, Show, Trail, Terrain, Wall, Unwall, Lighttype, Sighttype, Token as TokenCommand, Own, Layer, Visible, Sight, Place, Secret, Expose, Hide, Turn, Endfight, Dump}
use Rattle.world.specs.Scene.{Scene}
use Rattle.world.specs.Rules.{is_known}
use Rattle.command_rules.specs.declared.refusal.Refusal.{Refusal}
use Rattle.command_rules.specs.declared.refusal.Refusal.TheVariants.{BadCommand, OffMap, NoSuchSeat, PropertyLimit, MapExists, MapLimit, NoSuchMap, WallLimit, DegenerateWall, WallThere, NoSuchWall, TypeLimit, BadRadius, BadRange, IdUsed, TokenLimit, NoSuchToken, UnknownSight, NotAPlayer, EmptyList}
use Rattle.command_rules.specs.Places.{Numbers, coordinate, fits_at, rect_fits, point_fits, point_at}

-- ---- faults of tables as refusals: want of memory is none

abbrev pub of_map_fault : MapFault → Refusal
of_map_fault map_faults.MapExists = MapExists
of_map_fault map_faults.MapLimit = MapLimit
of_map_fault map_faults.Memory = MapLimit

abbrev pub of_wall_fault : WallFault → Refusal
of_wall_fault wall_faults.OffMap = OffMap
of_wall_fault wall_faults.DegenerateWall = DegenerateWall
of_wall_fault wall_faults.WallThere = WallThere
of_wall_fault wall_faults.WallLimit = WallLimit
of_wall_fault wall_faults.Memory = WallLimit

abbrev pub of_light_fault : LightFault → Refusal
of_light_fault light_faults.BadRadius = BadRadius
of_light_fault light_faults.TypeLimit = TypeLimit
of_light_fault light_faults.Memory = TypeLimit

abbrev pub of_sight_fault : SightFault → Refusal
of_sight_fault sight_faults.BadRange = BadRange
of_sight_fault sight_faults.TypeLimit = TypeLimit
of_sight_fault sight_faults.Memory = TypeLimit

-- ---- maps, tokens and players that have to be there

abbrev pub map_rule : (Grid → Option Refusal) → Option Grid → Option Refusal
map_rule rule None = Some NoSuchMap
map_rule rule (Some m) = rule m

abbrev pub token_rule : (Token → Option Refusal) → Option Token → Option Refusal
token_rule rule None = Some NoSuchToken
token_rule rule (Some t) = rule t

-- the seat is a player's, of so many players
abbrev pub player_rule : ℕ → ℕ → Option Refusal
player_rule players seat = if seat == 0 then Some NotAPlayer else (if nat_le seat players then None else Some NoSuchSeat)

-- the second rule, where the first isn't broken
abbrev pub then_rule : Option Refusal → Option Refusal → Option Refusal
then_rule None second = second
then_rule (Some refusal) second = Some refusal

abbrev pub unless : Bool → Refusal → Option Refusal
unless holds refusal = if holds then None else Some refusal

-- ---- rules on a map

abbrev pub rect_rule : Numbers → Grid → Option Refusal
rect_rule numbers m = unless (rect_fits m.walls.extent numbers) OffMap

abbrev pub square_rule : ℕ → ℤ × ℤ → Grid → Option Refusal
square_rule side place m = unless (fits_at m.walls.extent side place) OffMap

abbrev pub ends_fit : WallLists → ℤ × ℤ → ℤ × ℤ → Bool
ends_fit walls a b = point_fits walls.extent a && point_fits walls.extent b

abbrev pub wall_rule : WallKind → ℤ × ℤ → ℤ × ℤ → Grid → Option Refusal
wall_rule kind a b m =
    if ends_fit m.walls a b then option_map of_wall_fault (wall_fault m.walls kind (point_at a) (point_at b))
    else Some OffMap

-- a wall whose ends aren't on the map isn't there
abbrev pub unwall_rule : WallKind → ℤ × ℤ → ℤ × ℤ → Grid → Option Refusal
unwall_rule kind a b m = unless (ends_fit m.walls a b && has_wall (wall_between (point_at a) (point_at b)) (walls_of m.walls kind)) NoSuchWall

-- the game master, who used these tags, may use one more
abbrev pub tag_rule : List (List ℕ) → List ℕ → Option Refusal
tag_rule tags tag =
    if tag_used tags tag then Some IdUsed
    else (if tags_spent 0 tags then Some TokenLimit
    else None)

abbrev pub new_token_rule : List (List ℕ) → List ℕ → ℕ → ℤ × ℤ → Grid → Option Refusal
new_token_rule tags tag side place m = then_rule (square_rule side place m) (tag_rule tags tag)

-- the name may be set among these properties
abbrev pub room_rule : List Property → List ℕ → Option Refusal
room_rule props name = if is_full_for name props then Some PropertyLimit else None

-- ---- all commands

-- the first broken rule of a command of the game master, who used these tags
unfoldable pub gm_rule : Scene → List (List ℕ) → Command → Option Refusal
gm_rule s tags (Map name w h) = option_map of_map_fault (map_fault s.maps name)
gm_rule s tags (Mode map mode) = map_rule (λ m. None) (map_of map s.maps)
gm_rule s tags (Show map on) = map_rule (λ m. None) (map_of map s.maps)
gm_rule s tags (Trail map on) = map_rule (λ m. None) (map_of map s.maps)
gm_rule s tags (Terrain map rect kind) = map_rule (rect_rule rect) (map_of map s.maps)
gm_rule s tags (Wall map kind a b) = map_rule (wall_rule kind a b) (map_of map s.maps)
gm_rule s tags (Unwall map kind a b) = map_rule (unwall_rule kind a b) (map_of map s.maps)
gm_rule s tags (Lighttype name radius) = option_map of_light_fault (light_fault s.lights name radius)
gm_rule s tags (Sighttype name range night mult) = option_map of_sight_fault (sight_fault s.sights name (coordinate range) (coordinate night) (coordinate mult))
gm_rule s tags (TokenCommand tag map cell name size layer) = map_rule (new_token_rule tags tag (coordinate size) cell) (map_of map s.maps)
gm_rule s tags (Own token seat on) = token_rule (λ t. player_rule s.fog.players seat) (token_of token s.tokens)
gm_rule s tags (Layer token layer) = token_rule (λ t. None) (token_of token s.tokens)
gm_rule s tags (Visible token on) = token_rule (λ t. None) (token_of token s.tokens)
gm_rule s tags (Sight token sight) = token_rule (λ t. unless (is_known s.sights sight) UnknownSight) (token_of token s.tokens)
gm_rule s tags (Place token map cell) = token_rule (λ t. map_rule (square_rule t.size cell) (map_of map s.maps)) (token_of token s.tokens)
gm_rule s tags (Secret token name value) = token_rule (λ t. room_rule t.secret name) (token_of token s.tokens)
gm_rule s tags (Expose seat map rect) = then_rule (player_rule s.fog.players seat) (map_rule (rect_rule rect) (map_of map s.maps))
gm_rule s tags (Hide seat map rect) = then_rule (player_rule s.fog.players seat) (map_rule (rect_rule rect) (map_of map s.maps))
gm_rule s tags Turn = if length s.fight.list == 0 then Some EmptyList else None
gm_rule s tags Endfight = None
gm_rule s tags Dump = None
gm_rule s tags c = Some BadCommand
