-- A world of a replay as a world that a campaign text may hold, and that each of them is one.
use Rattle.std.specs.Prelude.{◌≡◌, List, map, Some}
use Rattle.world.specs.World.{World as Opened, IsWorld}
use Rattle.command_json.specs.declared.command.Command.{Command}
use Rattle.player_view.specs.Tables.{HasTables}
use Rattle.command_effects.specs.Settle.{settled}
use Rattle.command_effects.specs.Tags.{MakesNew}
use Rattle.campaign_law.specs.declared.entry.Entry.{Entry}
use Rattle.campaign_law.specs.Seat.{fresh_seat}
use Rattle.campaign_law.specs.Outcome.{seat_of}
use Rattle.campaign_law.specs.World.{World, outcome_of, replay}
pub use Rattle.campaign_law.specs.World.{opened_of}
use Rattle.campaign_writing.specs.Written.{IsWritten}

-- it has 1 to 33 seats, numbered by their places, all but the first are players, and they made its tokens
abbrev pub FitsTogether : World → Type 0
FitsTogether w = IsWorld (opened_of w)

-- the world that opens with this scene and these books: what players see is exposed to them
abbrev pub opening_world : Opened → World
opening_world opened = record { seats = map fresh_seat opened.books; scene = settled opened.scene }

-- ---- the laws

abbrev pub OpeningWorldFits : Type 0
OpeningWorldFits = (opened : Opened) → IsWorld opened → FitsTogether (opening_world opened)

-- so each world of a replay fits together
abbrev pub WorldsFit : Type 0
WorldsFit = (w : World) (h : List Entry) → FitsTogether w → FitsTogether (replay w h)

-- and a token that a command makes is new
abbrev pub MadeTokensAreNew : Type 0
MadeTokensAreNew = (w : World) (e : Entry) (c : Command) → FitsTogether w → (outcome_of w e).done ≡ Some c → MakesNew w.scene (seat_of e) c

-- the parts of the scene fit together, and its tables are in order
abbrev pub OpeningSceneHasTables : Type 0
OpeningSceneHasTables = (opened : Opened) → HasTables opened.scene → HasTables (opening_world opened).scene

abbrev pub ScenesHaveTables : Type 0
ScenesHaveTables = (w : World) (h : List Entry) → FitsTogether w → HasTables w.scene → HasTables (replay w h).scene

-- names, sizes, keys and the texts of macros stay as a campaign text takes them
abbrev pub OpeningWorldIsWritten : Type 0
OpeningWorldIsWritten = (opened : Opened) → IsWritten opened → IsWritten (opened_of (opening_world opened))

abbrev pub WorldsAreWritten : Type 0
WorldsAreWritten = (w : World) (h : List Entry) → IsWritten (opened_of w) → IsWritten (opened_of (replay w h))
