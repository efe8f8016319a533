-- A player's seat that follows a campaign, and a script that is played.
use Rattle.std.specs.Prelude.{◌≡◌, ◌≤◌, ℕ, false, List, ◌++◌, length, Some}
use Rattle.campaign_law.specs.declared.entry.Entry.{Entry}
use Rattle.campaign_law.specs.Worlds.{FitsTogether}
use Rattle.campaign_law.specs.Law.{Course, IsOpening, world_of}
use Rattle.campaign_law.specs.Player.{Opening, Item, trace}
use Rattle.player_view.specs.Tables.{HasTables}
use Rattle.player_machine.specs.Items.{items_in}
use Rattle.script_play.specs.Script.{Script, bad_line, too_large, entry_of_line, is_past_limits, with_takens}
use Rattle.transcript_check.specs.declared.tracing.Follower.{Follower}
use Rattle.transcript_check.specs.declared.tracing.Stop.{Stop}
use Rattle.transcript_check.specs.declared.tracing.Stop.TheVariants.{BadLine, TooLarge, Memory}
use Rattle.transcript_check.specs.Checks.{IsTraceOf}
use Rattle.transcript_check.specs.Entering.{IsShown}

-- its items so far are the trace of the history, and it has what its seat was last shown
pub record Follows (c : Course) (f : Follower) : Type 0 where
  pub items : items_in f.items.items ≡ trace c.origin c.history f.seat
  pub shown : IsShown (world_of c) f.seat f.last

-- the script stops so, unless memory ran out
abbrev pub IsStopOf : Script → Stop → Type 0
IsStopOf script (BadLine number) = script.ending ≡ bad_line number
IsStopOf script TooLarge = script.ending ≡ too_large
IsStopOf script Memory = Unit {0}

-- a line within the limits is one of a seat: its entry was entered, and then the Takens that were due
pub record PlaysLine (old new : Course) (number : ℕ) (line : List ℕ) : Type 0 where
  pub within : is_past_limits number line ≡ false
  pub entry : Entry
  pub is : entry_of_line (world_of old) line ≡ Some entry
  pub history : new.history ≡ old.history ++ with_takens (world_of old) entry

-- a trace with what its world's text gives
pub record IsTraced (text script : List ℕ) (p : ℕ) (o : Opening) (items : List Item) : Type 0 where
  pub of : IsTraceOf text script p o items
  pub fresh : IsOpening of.world
  pub fits : FitsTogether of.world
  pub tables : HasTables of.world.scene
  pub seats : length of.world.seats ≤ 33
