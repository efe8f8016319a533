-- Which fields have to be kept for a scene.
use Rattle.std.specs.Prelude.{◌≡◌, ◌||◌, Bool, IsTrue, List, All, Some, is_some}
use Rattle.names.specs.declared.token_id.TokenId.{TokenId}
use Rattle.cells.specs.Cells.{Cells}
use Rattle.topology.specs.Sight.{field_of}
use Rattle.maps.specs.Maps.{Grid, map_of}
use Rattle.tokens.specs.declared.token.Token.{Token}
use Rattle.tokens.specs.Tokens.{eye_of}
use Rattle.vision.specs.Fields.{field_at}
use Rattle.world.specs.Scene.{Scene}

-- the token has a sight or a light
abbrev pub needs_field : Token → Bool
needs_field t = is_some t.sight || is_some t.light

-- the field of the token's eye by the walls of its map is kept, where the token has a sight or a light
abbrev pub IsKept : Scene → List (TokenId × Cells) → Token → Type 0
IsKept s fields t =
    (m : Grid) → map_of t.map s.maps ≡ Some m → IsTrue (needs_field t)
    → field_at t.id fields ≡ Some (field_of m.walls (eye_of t))

-- for each token with a sight or a light whose map is there, the field of its eye is kept
pub record HasFields (s : Scene) (fields : List (TokenId × Cells)) : Type 0 where
  pub each : All (IsKept s fields) s.tokens
