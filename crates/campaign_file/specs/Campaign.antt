-- The campaign text: the world that it opens with, or its first breach.
use Rattle.std.specs.Prelude.{ℕ, ◌-◌, List, [], ◌∷◌, codes, Option, Some, None, Result, Ok}
use Rattle.serde_json.specs.Data.{Data}
use Rattle.serde_json.specs.Events.{items_len}
use Rattle.serde_json.specs.Data.{Items}
use Rattle.json_fields.specs.Fields.{list_in}
use Rattle.json_fields.specs.Objects.{◌>>=◌, Gives}
use Rattle.json_fields.specs.Order.{HasRisingKeys}
use Rattle.json_fields.specs.Values.{value_of}
use Rattle.world.specs.Scene.{bare}
use Rattle.world.specs.World.{World}
use Rattle.campaign_json.specs.declared.faults.Rule.TheVariants.{Json}
use Rattle.campaign_json.specs.declared.faults.BadCampaign.{BadCampaign}
use Rattle.campaign_json.specs.declared.faults.FileFault.{FileFault}
use Rattle.campaign_json.specs.Reading.{needed, field, Fails}
use Rattle.campaign_json.specs.Kinds.{format, object, only}
use Rattle.campaign_scene.specs.Maps.{maps}
use Rattle.campaign_file.specs.Seats.{seats}
use Rattle.campaign_scene.specs.Tokens.{tokens}
use Rattle.campaign_scene.specs.Types.{lights, sights}
pub use Rattle.campaign_file.specs.Seats.{AreFreshFrom, IsFreshAt, IsOpening}

abbrev pub campaign_keys : List (List ℕ)
campaign_keys = codes "format" ∷ codes "lights" ∷ codes "sights" ∷ codes "maps" ∷ codes "seats" ∷ codes "tokens" ∷ []

abbrev pub players_among : Option Items → ℕ
players_among None = 0
players_among (Some seats) = items_len seats - 1

-- how many players a campaign has: they are counted before anything is read
abbrev pub players_in : Data → ℕ
players_in d = players_among (list_in (codes "seats") 1 33 d)

-- Its number of the format says how its types of lights and its maps are read.
unfoldable pub campaign : Data → Result World BadCampaign
campaign d = do
  members ← object d
  format ← field (codes "format") format d
  lit ← lights format (bare (players_in d)) d
  sighted ← sights lit d
  mapped ← maps format sighted d
  world ← seats mapped d
  full ← tokens world.books world.scene d
  no_others ← only campaign_keys d
  Ok (record world { scene = full })

-- the world that a campaign text opens with, or its first breach
unfoldable pub campaign_of : List ℕ → Result World BadCampaign
campaign_of bytes = needed Json (value_of bytes) >>= campaign

-- In the value of the text the keys of each object rise in the order of bytes, and what was read is what the definition
-- makes of that value. It goes through the members of an object as they stand: so of free keys the least comes first.
abbrev pub IsReadInKeyOrder : Result World FileFault → Data → Type 0
IsReadInKeyOrder result d = HasRisingKeys d × Gives Fails (λ world. world) result (campaign d)
