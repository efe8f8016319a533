-- What a run of the program did, by how it ended.
use Rattle.std.specs.Prelude.{◌≡◌, ◌≤◌, ◌<◌, ◌⊎◌, ℕ, List, [], ◌∷◌, ◌++◌, length, IfSome, Bool, true, false, Option, Some, None, Ok, Err}
use Rattle.std.specs.Io.KnownBytes.{append_known}
use Rattle.line_io.specs.Told.{WhereTold}
use Rattle.line_io.specs.declared.desks.DeskFault.{DeskFault}
use Rattle.line_io.specs.declared.desks.DeskFault.TheVariants as desk
use Rattle.world.specs.World.{World as Opened}
use Rattle.campaign_file.specs.Campaign.{campaign_of}
use Rattle.campaign_law.specs.declared.entry.Entry.{Entry}
use Rattle.campaign_law.specs.World.{World, replay}
use Rattle.campaign_law.specs.Worlds.{opened_of}
use Rattle.campaign_writing.specs.Canonical.{canonical}
use Rattle.campaign_law.specs.Player.{opening, trace, machine}
use Rattle.campaign_law.specs.Law.{IsOpening}
use Rattle.campaign_core.specs.Opening.{world_of_text}
use Rattle.script_play.specs.declared.run.Played.{Played}
use Rattle.script_play.specs.declared.run.Played.TheVariants as played
use Rattle.script_play.specs.Script.{script_of}
use Rattle.script_play.specs.Tagged.{tagged, lines_behind}
use Rattle.script_play.specs.Played.{HasEntered, HasRead, HasWritten, AreWrittenOf}
use Rattle.script_play.specs.Sending.{WroteFront}
use Rattle.tabletop.specs.declared.endings.Ended.{Ended}
use Rattle.tabletop.specs.declared.endings.Ended.TheVariants.{Done, Usage, BadCampaign, ReadFault, WriteFault, Memory, BadLine, TooLarge, DoorFault, Differs}
use Rattle.tabletop.specs.Endings.{status_of, last_line, HasOwnLine}
use Rattle.tabletop.specs.Counts.{count_line}
use Rattle.tabletop.specs.Printing.{PrintsLine}
use Rattle.tabletop.specs.Drilled.{DrillEnds}
use Rattle.tabletop.specs.Answered.{VerifyEnds, CompareEnds}
use Rattle.command_words.specs.Words.{Asked, Play, Check, Drill, Serve, Verify, Compare}

-- how a played script ends the run
abbrev pub ended_by : Played → Ended
ended_by played.Done = Done
ended_by played.ReadFault = ReadFault
ended_by played.WriteFault = WriteFault
ended_by (played.BadLine number) = BadLine number
ended_by played.TooLarge = TooLarge
ended_by played.Memory = Memory

-- as what a file that wasn't fetched ends the run
abbrev pub unfetched : DeskFault → Ended
unfetched desk.Failed = ReadFault
unfetched desk.TooLarge = TooLarge
unfetched desk.Memory = Memory

-- as what an ending is told; where memory is wanting for a line of its own, as that
abbrev pub IsToldAs : Ended → Ended → Type 0
IsToldAs ended told = (told ≡ ended) ⊎ (HasOwnLine ended × (told ≡ Memory))

-- the greatest number of bytes of a campaign
abbrev pub campaign_limit : ℕ
campaign_limit = 16777216

-- a script was played from this world: its entries, how far it was read, and what was written
pub record Plays (answer : Played) (origin : World) (script left out after : Option (List ℕ)) : Type 0 where
  pub opens : IsOpening origin
  pub entries : List Entry
  pub entered : WhereTold script left (λ text rest. HasEntered answer (script_of origin text) entries)
  pub read : WhereTold script left (λ text rest. HasRead answer origin entries text rest)
  pub written : HasWritten answer origin entries out after
  -- of the bytes that were written, what stands behind a player's number is what the player machine prints, which
  -- holds no world: it has the player's opening book, its own entries, others' messages to it, and its views. For want
  -- of memory these are the first of the lines, after a write fault the first of them and perhaps a front of the next
  pub players : (p : ℕ) → 1 ≤ p → p ≤ 32 → AreWrittenOf answer (lines_behind p written.text) (machine (opening origin p) (trace origin entries p))
  -- and so it is of all that the entries send
  pub sent : (p : ℕ) → 1 ≤ p → p ≤ 32 → lines_behind p (tagged origin entries) ≡ machine (opening origin p) (trace origin entries p)

-- from the world of the campaign
pub record PlaysOn (answer : Played) (world : Option World) (script left out after : Option (List ℕ)) : Type 0 where
  pub origin : World
  pub is : world ≡ Some origin
  pub plays : Plays answer origin script left out after

-- a script was to be played, once the campaign's text was there. A read fault is the script's
abbrev pub ScriptEnds : (ScriptFailed : Type 0) → Ended → List ℕ → (script left out after : Option (List ℕ)) → Type 0
ScriptEnds ScriptFailed Done text script left out after = PlaysOn played.Done (world_of_text text) script left out after
ScriptEnds ScriptFailed Usage text script left out after = ⊥
ScriptEnds ScriptFailed (BadCampaign breach) text script left out after = (campaign_of text ≡ Err breach) × (after ≡ out)
ScriptEnds ScriptFailed ReadFault text script left out after = ScriptFailed × PlaysOn played.ReadFault (world_of_text text) script left out after
ScriptEnds ScriptFailed WriteFault text script left out after = PlaysOn played.WriteFault (world_of_text text) script left out after
ScriptEnds ScriptFailed Memory text script left out after = (after ≡ out) ⊎ PlaysOn played.Memory (world_of_text text) script left out after
ScriptEnds ScriptFailed (BadLine number) text script left out after = PlaysOn (played.BadLine number) (world_of_text text) script left out after
ScriptEnds ScriptFailed TooLarge text script left out after = PlaysOn played.TooLarge (world_of_text text) script left out after
ScriptEnds ScriptFailed DoorFault text script left out after = ⊥
ScriptEnds ScriptFailed Differs text script left out after = ⊥

-- the line with the campaign text of the world after these entries
abbrev pub end_line : World → List Entry → List ℕ
end_line origin entries = canonical (opened_of (replay origin entries)) ++ 10 ∷ []

-- the script was played to its end, and then the line with the last world's campaign text was to be printed
pub record EndsByLine (ended : Ended) (world : Option World) (script left out after : Option (List ℕ)) : Type 0 where
  pub before_end : Option (List ℕ)
  pub plays_on : PlaysOn played.Done world script left out before_end
  pub printed : PrintsLine ended (end_line plays_on.origin plays_on.plays.entries) before_end after

-- `play`, once the campaign's text was there: where the campaign is to be written at the end, a script that was played to its end
-- ends by that line
abbrev pub PlayEnds : (ScriptFailed : Type 0) → Bool → Ended → List ℕ → (script left out after : Option (List ℕ)) → Type 0
PlayEnds ScriptFailed false ended text script left out after = ScriptEnds ScriptFailed ended text script left out after
PlayEnds ScriptFailed true Done text script left out after = EndsByLine Done (world_of_text text) script left out after
PlayEnds ScriptFailed true ended text script left out after = ScriptEnds ScriptFailed ended text script left out after ⊎ EndsByLine ended (world_of_text text) script left out after

-- what follows a script that was played: the line, where it was asked for and the script was played to its end; nothing else
abbrev pub FollowsPlay : Played → Bool → Ended → List ℕ → (out after : Option (List ℕ)) → Type 0
FollowsPlay played.Done true ended line out after = PrintsLine ended line out after
FollowsPlay answer end ended line out after = (ended ≡ ended_by answer) × (after ≡ out)

-- `check`, once the campaign's text was there: the counts of its world are printed
abbrev pub CheckEnds : Ended → List ℕ → (out after : Option (List ℕ)) → Type 0
CheckEnds (BadCampaign breach) text out after = (campaign_of text ≡ Err breach) × (after ≡ out)
CheckEnds Memory text out after = after ≡ out
CheckEnds ended text out after = (world : Opened) × (campaign_of text ≡ Ok world) × PrintsLine ended (count_line world) out after

-- the campaign's text was fetched: this one, where it is told
pub record Fetched (Ends : List ℕ → Type 0) (campaign : Option (List ℕ)) : Type 0 where
  pub text : List ℕ
  pub told : IfSome campaign (λ told. text ≡ told)
  pub small : length text ≤ campaign_limit
  pub ends : Ends text

-- it wasn't: the desk failed, memory was wanting, or the text is too large
abbrev pub NotFetched : (DeskFailed : Type 0) → Ended → Option (List ℕ) → Type 0
NotFetched DeskFailed Done campaign = ⊥
NotFetched DeskFailed Usage campaign = ⊥
NotFetched DeskFailed (BadCampaign breach) campaign = ⊥
NotFetched DeskFailed ReadFault campaign = DeskFailed
NotFetched DeskFailed WriteFault campaign = ⊥
NotFetched DeskFailed Memory campaign = Unit {0}
NotFetched DeskFailed (BadLine number) campaign = ⊥
NotFetched DeskFailed TooLarge campaign = IfSome campaign (λ told. campaign_limit < length told)
NotFetched DeskFailed DoorFault campaign = ⊥
NotFetched DeskFailed Differs campaign = ⊥

-- a job on the campaign of a file
abbrev pub FileEnds : (DeskFailed : Type 0) → (Ends : List ℕ → Type 0) → Ended → (campaign out after : Option (List ℕ)) → Type 0
FileEnds DeskFailed Ends ended campaign out after = (NotFetched DeskFailed ended campaign × (after ≡ out)) ⊎ Fetched Ends campaign

-- a job on the texts of a campaign's file and of a script's file, which are fetched in this order
abbrev pub PairEnds : (DeskFailed : Type 0) → (Ends : (text lines : List ℕ) → Type 0) → Ended
    → (campaign script out after : Option (List ℕ)) → Type 0
PairEnds DeskFailed Ends ended campaign script out after =
    FileEnds DeskFailed (λ text. FileEnds DeskFailed (λ lines. Ends text lines) ended script out after) ended campaign out after

-- `verify` of a transcript's file, and `compare`: all files are fetched first, in the order of the words
abbrev pub VerifyFilesEnd : (DeskFailed : Type 0) → Ended → (campaign script : Option (List ℕ)) → ℕ
    → (transcript out after : Option (List ℕ)) → Type 0
VerifyFilesEnd DeskFailed ended campaign script p transcript out after =
    PairEnds DeskFailed (λ text lines. FileEnds DeskFailed (λ told. VerifyEnds ended text lines p told out after) ended transcript out after)
    ended campaign script out after

abbrev pub CompareFilesEnd : (DeskFailed : Type 0) → Ended → (campaign script campaign2 script2 : Option (List ℕ)) → ℕ
    → (out after : Option (List ℕ)) → Type 0
CompareFilesEnd DeskFailed ended campaign script campaign2 script2 p out after =
    PairEnds DeskFailed (λ text lines.
    PairEnds DeskFailed (λ text2 lines2. CompareEnds ended text lines text2 lines2 p out after) ended campaign2 script2 out after)
    ended campaign script out after

-- the job was done, as far as its ending allows, or the words were no job. The desk has a text of some names. Where nothing was
-- played, a read fault is the desk's
abbrev pub JobEnds : (DeskFailed ScriptFailed : Type 0) → Ended → Option Asked → (texts : List ℕ → Option (List ℕ)) → (script left out after : Option (List ℕ)) → Type 0
JobEnds DeskFailed ScriptFailed ended None texts script left out after = ((ended ≡ Usage) ⊎ (ended ≡ Memory)) × (after ≡ out)
JobEnds DeskFailed ScriptFailed ended (Some (Play file end)) texts script left out after =
    FileEnds DeskFailed (λ text. PlayEnds ScriptFailed end ended text script left out after) ended (texts file) out after
JobEnds DeskFailed ScriptFailed ended (Some (Check file)) texts script left out after = FileEnds DeskFailed (λ text. CheckEnds ended text out after) ended (texts file) out after
JobEnds DeskFailed ScriptFailed ended (Some (Drill number lines)) texts script left out after = DrillEnds ended number lines out after
JobEnds DeskFailed ScriptFailed ended (Some (Serve file port count end)) texts script left out after = ⊥
JobEnds DeskFailed ScriptFailed ended (Some (Verify file lines p transcript)) texts script left out after =
    VerifyFilesEnd DeskFailed ended (texts file) (texts lines) p (texts transcript) out after
JobEnds DeskFailed ScriptFailed ended (Some (Compare file lines file2 lines2 p)) texts script left out after =
    CompareFilesEnd DeskFailed ended (texts file) (texts lines) (texts file2) (texts lines2) p out after

-- the whole run: how it ended, by its status, and the last line printed, of which a fault leaves a front
pub record HasEnded (status : ℕ) (job : Option Asked) (texts : List ℕ → Option (List ℕ)) (script left out after : Option (List ℕ)) (DeskFailed ScriptFailed OutFailed : Type 0) : Type 0 where
  pub ended : Ended
  pub status_is : status ≡ status_of ended
  -- what was written before the last line
  pub before_line : Option (List ℕ)
  pub ends : JobEnds DeskFailed ScriptFailed ended job texts script left out before_line
  pub line : (after ≡ append_known before_line (last_line ended)) ⊎ (OutFailed × WroteFront before_line (last_line ended) after)
