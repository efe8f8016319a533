-- The law of campaign texts.
use Rattle.std.specs.Prelude.{◌≡◌, ℕ, List, Ok}
use Rattle.world.specs.World.{World}
use Rattle.campaign_file.specs.Campaign.{campaign_of}
use Rattle.campaign_writing.specs.Written.{IsWritten}

-- a world that is read is one that the campaign text takes
abbrev pub ReadIsWritten : Type 0
ReadIsWritten = (text : List ℕ) (w : World) → campaign_of text ≡ Ok w → IsWritten w
