-- What `drill` plays and prints.
use Rattle.std.specs.Prelude.{◌≡◌, ◌≤◌, ℕ, ◌+◌, List, [], ◌∷◌, ◌++◌, codes, decimal, length, Option}
use Rattle.campaign_writing.specs.Canonical.{reopened}
use Rattle.campaign_law.specs.declared.entry.Entry.{Entry}
use Rattle.campaign_law.specs.World.{World, replay}
use Rattle.campaign_law.specs.Worlds.{opening_world}
use Rattle.campaign_law.specs.Law.{Course, IsOpening, bytes_of}
use Rattle.campaign_core.specs.Totals.{seen_total}
use Rattle.command_looks.specs.Touched.{looks_of_opening}
use Rattle.script_play.specs.Script.{done, script_of}
use Rattle.script_play.specs.Counting.{lines_in, lines_sent, looks_in, refused_in}
use Rattle.drill.specs.Campaign.{drill_world}
use Rattle.drill.specs.Script.{drill_script}
use Rattle.tabletop.specs.declared.drilling.Summary.{Summary}
use Rattle.tabletop.specs.declared.endings.Ended.{Ended}
use Rattle.tabletop.specs.declared.endings.Ended.TheVariants.{Done, WriteFault, Memory}
use Rattle.tabletop.specs.Printing.{PrintsLine}

-- the world that the campaign of the drill of number n opens with
unfoldable pub drill_origin : ℕ → World
drill_origin n = opening_world (reopened (drill_world n))

-- the line of a drill, in two parts
abbrev pub counts_sent : Summary → List ℕ
counts_sent s = codes "drill " ++ (decimal s.number ++ (codes ": lines " ++ (decimal s.tally.lines ++ (codes ", refused " ++ (decimal s.tally.refused ++ (codes ", sent " ++ decimal s.tally.sent))))))

abbrev pub counts_found : Summary → List ℕ
counts_found s = codes ", bytes " ++ (decimal s.tally.bytes ++ (codes ", seen " ++ (decimal s.seen ++ (codes ", looks " ++ (decimal s.looks ++ (codes ", tested " ++ decimal s.tested))))))

abbrev pub summary_line : Summary → List ℕ
summary_line s = counts_sent s ++ (counts_found s ++ 10 ∷ [])

-- the script was played to its end from this world, with these entries: how many of them are lines, and lines that were refused; how
-- many lines they sent, and how many bytes with each line's LF; how many cells the players see at the end; and at most how many looks
-- were made. How many pairs of a wall and a cell the eye compared is its own count
pub record Counts (origin : World) (script : List ℕ) (s : Summary) : Type 0 where
  pub entries : List Entry
  pub played : script_of origin script ≡ record { entries = entries; ending = done }
  pub lines : s.tally.lines ≡ lines_in entries
  pub refused : s.tally.refused ≡ refused_in origin entries
  pub sent : s.tally.sent ≡ length (lines_sent origin entries)
  pub bytes : s.tally.bytes ≡ length (bytes_of (lines_sent origin entries))
  pub seen : s.seen ≡ seen_total (replay origin entries).scene
  pub looks : s.looks ≤ looks_of_opening origin.scene + looks_in origin entries

-- so it was of the drill of this number with so many lines
pub record Drills (n count : ℕ) (s : Summary) : Type 0 where
  pub number : s.number ≡ n
  pub counts : Counts (drill_origin n) (drill_script n count) s

-- a campaign was opened with this world, and has no entries
pub record Opens (world : World) (c : Course) : Type 0 where
  pub origin : c.origin ≡ world
  pub opening : IsOpening c.origin
  pub history : c.history ≡ []
  pub looks : c.looks ≤ looks_of_opening c.origin.scene

-- what was counted was to be printed
pub record PrintsSummary (ended : Ended) (n lines : ℕ) (out after : Option (List ℕ)) : Type 0 where
  pub summary : Summary
  pub drills : Drills n lines summary
  pub printed : PrintsLine ended (summary_line summary) out after

-- its script was played to its end, unless memory ran out
abbrev pub DrillEnds : Ended → ℕ → ℕ → (out after : Option (List ℕ)) → Type 0
DrillEnds Done n lines out after = PrintsSummary Done n lines out after
DrillEnds WriteFault n lines out after = PrintsSummary WriteFault n lines out after
DrillEnds Memory n lines out after = after ≡ out
DrillEnds ended n lines out after = ⊥
