-- New tokens.
use Rattle.std.specs.Prelude.{ℕ, true, List, [], None, ℤ}
use Rattle.names.specs.declared.kinds.Layer.{Layer}
use Rattle.names.specs.declared.kinds.Layer.TheVariants.{Token as TokenLayer}
use Rattle.tokens.specs.declared.token.Token.{Token}
use Rattle.tokens.specs.Owners.{with_owner}
use Rattle.tokens.specs.Tokens.{put}
use Rattle.world.specs.Scene.{Scene}
use Rattle.command_rules.specs.Places.{cell_at}

-- a new token without properties, sight and light, with the visible flag
abbrev pub new_token : ℕ → List ℕ → List ℕ → ℤ × ℤ → List ℕ → ℕ → Layer → ℕ → Token
new_token maker tag map place name side layer owners = record {
  id = record { maker = maker; tag = tag };
  name = name;
  map = map;
  cell = cell_at place;
  size = side;
  layer = layer;
  owners = owners;
  visible = true;
  sight = None;
  light = None;
  public = [];
  own = [];
  secret = [];
}

-- a token that a player makes is its own
abbrev pub players_token : ℕ → List ℕ → List ℕ → ℤ × ℤ → List ℕ → Token
players_token seat tag map place name = new_token seat tag map place name 1 TokenLayer (with_owner 0 seat true)

-- the token is new: its maker hasn't used its tag, so none of its id is there
abbrev pub with_new : Token → Scene → Scene
with_new t s = record s { tokens = put t s.tokens }
