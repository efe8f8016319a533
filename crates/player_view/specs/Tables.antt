-- What the tables of a scene tell.
use Rattle.std.specs.Prelude.{◌≡◌, true}
use Rattle.std.specs.FinMap.Entries.{is_sorted}
use Rattle.names.specs.Tag.{tag_cmp}
use Rattle.maps.specs.Maps.{in_order as maps_in_order}
use Rattle.tokens.specs.Tokens.{in_order}
use Rattle.world.specs.Rules.{IsScene}
use Rattle.world.specs.Scene.{Scene}

-- the parts fit together, and each table is in its order: maps and types by their names, tokens by their ids
pub record HasTables (s : Scene) : Type 0 where
  pub fitting : IsScene s
  pub maps : maps_in_order s.maps ≡ true
  pub tokens : in_order s.tokens ≡ true
  pub lights : is_sorted tag_cmp s.lights ≡ true
  pub sights : is_sorted tag_cmp s.sights ≡ true
