-- All of a campaign but its seats' books: maps, tokens, types, and what is exposed.
use Rattle.std.specs.Prelude.{ℕ, ℤ, List, []}
use Rattle.names.specs.declared.token_id.TokenId.{TokenId}
use Rattle.cells.specs.Cells.{Extent}
use Rattle.fog_book.specs.Exposures.{Fog, with_map as with_fog_of_map}
use Rattle.initiative.specs.Fights.{Rounds, no_fight, without_entry}
use Rattle.maps.specs.Maps.{Grid, changed as changed_map, new_map, with_map}
use Rattle.sight_types.specs.declared.Sight.{Sight}
use Rattle.tokens.specs.declared.token.Token.{Token}
use Rattle.tokens.specs.Tokens.{changed as changed_token, without}

pub record Scene : Type 0 where
  -- in byte order of names
  pub maps : List Grid
  -- in order of ids
  pub tokens : List Token
  -- radii of lights, and negative ones of darknesses, in byte order of names
  pub lights : List (List ℕ × ℤ)
  -- in byte order of names
  pub sights : List (List ℕ × Sight)
  -- what is exposed to each player
  pub fog : Fog
  -- the list of the fight, whose turn it is, and in which round
  pub fight : Rounds

-- with no map, token and type, for so many players
abbrev pub bare : ℕ → Scene
bare players = record { maps = []; tokens = []; lights = []; sights = []; fog = record { players = players; sets = [] }; fight = no_fight }

-- with a new map, of which nothing is exposed
abbrev pub with_new_map : List ℕ → Extent → Scene → Scene
with_new_map name size s = record s { maps = with_map (new_map name size) s.maps; fog = with_fog_of_map s.fog name size }

-- the token of that id is gone, and so is its entry in the fight
abbrev pub removed : TokenId → Scene → Scene
removed id s = record s { tokens = without id s.tokens; fight = without_entry id s.fight }

-- the token of that id becomes f of it
abbrev pub with_token : TokenId → (Token → Token) → Scene → Scene
with_token id f s = record s { tokens = changed_token id f s.tokens }

-- the map of that name becomes f of it
abbrev pub with_grid : List ℕ → (Grid → Grid) → Scene → Scene
with_grid name f s = record s { maps = changed_map name f s.maps }
