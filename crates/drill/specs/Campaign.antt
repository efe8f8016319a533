-- The campaign of a drill.
use Rattle.std.specs.Prelude.{ℕ, ℤ, pos, zero, suc, ◌+◌, ◌*◌, ◌%◌, ◌==◌, nat_lt, true, false, List, [], ◌∷◌, ◌++◌, map, replicate, codes, decimal, min, if◌then◌else◌, Option, Some, None}
use Rattle.std.specs.List.{range_with_len}
use Rattle.names.specs.Letters.{blank}
use Rattle.names.specs.declared.kinds.Layer.{Layer}
use Rattle.names.specs.declared.kinds.Layer.TheVariants.{Token as TokenLayer, Object, Hidden}
use Rattle.names.specs.declared.kinds.Mode.TheVariants.{Night}
use Rattle.lattice.specs.Coordinates.{Coordinates}
use Rattle.cells.specs.Cells.{Extent}
use Rattle.maps.specs.Maps.{Grid}
use Rattle.topology.specs.declared.wall.Wall.{Wall}
use Rattle.topology.specs.Order.{wall_between}
use Rattle.topology.specs.WallLists.{has_wall, with_wall}
use Rattle.tokens.specs.declared.token.Token.{Token}
use Rattle.tokens.specs.Owners.{with_owner}
use Rattle.tokens.specs.Tokens.{put}
use Rattle.fog_book.specs.Exposures.{Fog, blank_sets}
use Rattle.initiative.specs.Fights.{no_fight}
use Rattle.seats.specs.Book.{Book, fresh_book}
use Rattle.sight_types.specs.declared.Sight.{Sight}
use Rattle.world.specs.World.{World}
use Rattle.drill.specs.Draws.{draw}
use Rattle.drill.specs.Numbered.{tag_at, cell_at}

-- ---- walls

-- the other end of the wall that begins at (ax, ay): so far to the right, or downwards, and at most to the edge
abbrev pub end_of : ℕ → ℕ → ℕ → ℕ → Coordinates
end_of ax ay down far = if down == 0 then record { x = min (ax + far) 192; y = ay } else record { x = ax; y = min (ay + far) 192 }

abbrev pub wall_from : ℕ → ℕ → ℕ → ℕ → Wall
wall_from ax ay down far = wall_between (record { x = ax; y = ay }) (end_of ax ay down far)

-- the wall by the four draws from that place on
unfoldable pub wall_drawn : ℕ → ℕ → Wall
wall_drawn n next = wall_from (draw n next 191) (draw n (next + 1) 191) (draw n (next + 2) 2) (1 + draw n (next + 3) 6)

-- a wall that is there is skipped
abbrev pub and_wall : List Wall → Wall → List Wall
and_wall walls wall = if has_wall wall walls then walls else with_wall wall walls

-- the first so many walls
unfoldable pub walls_up_to : ℕ → ℕ → List Wall
walls_up_to n zero = []
walls_up_to n (suc k) = and_wall (walls_up_to n k) (wall_drawn n (4 * k))

abbrev pub whole_size : Extent
whole_size = record { w = 96; h = 96 }

-- the map with these walls, without a trail
abbrev pub map_with : List Wall → Grid
map_with walls = record { name = codes "drill"; mode = Night; shown = true; trail = false; letters = replicate 9216 blank; walls = record { extent = whole_size; vbl = walls; mbl = [] } }

-- ---- tokens

abbrev pub layer_at : ℕ → Layer
layer_at k = if nat_lt k 32 then TokenLayer else if nat_lt k 36 then Object else Hidden

abbrev pub sight_at : ℕ → Option (List ℕ)
sight_at k = if nat_lt k 8 then (if k % 2 == 0 then Some (codes "human") else Some (codes "dark")) else None

abbrev pub light_at : ℕ → Option (List ℕ)
light_at k = if nat_lt k 4 then Some (codes "torch") else None

-- the owner of one of the first eight is seat 1, 2, 3, 4, 1, 2, 3, 4
abbrev pub owners_at : ℕ → ℕ
owners_at k = if nat_lt k 8 then with_owner 0 (1 + k % 4) true else 0

-- the token of number k
unfoldable pub token_at : ℕ → ℕ → Token
token_at n k = record {
  id = record { maker = 0; tag = tag_at k };
  name = tag_at k;
  map = codes "drill";
  cell = cell_at n k;
  size = 1;
  layer = layer_at k;
  owners = owners_at k;
  visible = true;
  sight = sight_at k;
  light = light_at k;
  public = (codes "hp", codes "10") ∷ [];
  own = [];
  secret = [];
}

-- the first so many tokens
unfoldable pub tokens_up_to : ℕ → ℕ → List Token
tokens_up_to n zero = []
tokens_up_to n (suc k) = put (token_at n k) (tokens_up_to n k)

-- ---- seats

-- the game master used the tags of all tokens, and a player none
abbrev pub tags_of : ℕ → List (List ℕ)
tags_of seat = if seat == 0 then map tag_at (range_with_len 0 40) else []

unfoldable pub book_at : ℕ → Book
book_at seat = record (fresh_book seat (codes "k" ++ decimal seat) (replicate 32 seat) 0) { tags = tags_of seat }

-- ---- the campaign

abbrev pub drill_lights : List (List ℕ × ℤ)
drill_lights = (codes "torch", pos 8) ∷ []

abbrev pub drill_sights : List (List ℕ × Sight)
drill_sights = (codes "dark", record { range = 30; night = 12; mult = 4 }) ∷ (codes "human", record { range = 30; night = 0; mult = 2 }) ∷ []

-- nothing is exposed to any of the four players
abbrev pub drill_fog : Fog
drill_fog = record { players = 4; sets = blank_sets 4 (codes "drill") whole_size }

-- the world with these walls and tokens, and no fight
unfoldable pub world_with : List Wall → List Token → World
world_with walls tokens = record {
  scene = record {
    maps = map_with walls ∷ [];
    tokens = tokens;
    lights = drill_lights;
    sights = drill_sights;
    fog = drill_fog;
    fight = no_fight;
  };
  books = map book_at (range_with_len 0 5);
}

abbrev pub drill_world : ℕ → World
drill_world n = world_with (walls_up_to n 600) (tokens_up_to n 40)
