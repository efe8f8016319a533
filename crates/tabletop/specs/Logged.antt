-- What a run of `play FILE --log LOG` did.
use Rattle.std.specs.Prelude.{◌≡◌, ◌≢◌, ◌≤◌, ◌^◌, ◌⊎◌, ℕ, zero, suc, List, [], ◌∷◌, ◌++◌, length, drop, Bool, true, if◌then◌else◌, Option, Some, None, Err}
use Rattle.std.specs.Io.KnownBytes.{append_known}
use Rattle.line_io.specs.Told.{WhereTold}
use Rattle.seats.specs.SeatState.{is_free}
use Rattle.campaign_json.specs.declared.faults.BadCampaign.{BadCampaign as Breach}
use Rattle.campaign_file.specs.Campaign.{campaign_of}
use Rattle.campaign_law.specs.declared.entry.Entry.{Entry}
use Rattle.campaign_law.specs.declared.entry.Entry.TheVariants.{Leave}
use Rattle.campaign_law.specs.Seat.{Seat}
use Rattle.campaign_law.specs.World.{World, seat_at, replay, sent}
use Rattle.campaign_law.specs.Player.{opening, trace, machine}
use Rattle.campaign_law.specs.Law.{Course, IsOpening, IsSentAsMachine, world_of}
use Rattle.campaign_core.specs.Opening.{world_of_text}
use Rattle.crash_log.specs.Disk.{LeavesOnly}
use Rattle.crash_log.specs.Log.{IsLog, IsBadAt, HoldsLog, open_part}
use Rattle.script_play.specs.Script.{Script, after_entries, script_of}
use Rattle.script_play.specs.Played.{IsPrefix, HasEntered, HasRead, HasWritten, AreWrittenOf}
use Rattle.script_play.specs.Sending.{WroteFront}
use Rattle.script_play.specs.Tagged.{lines_behind}
use Rattle.log_play.specs.declared.logged.Logged.{Logged}
use Rattle.log_play.specs.declared.logged.Logged.TheVariants as logged
use Rattle.log_play.specs.Logged.{as_played}
use Rattle.log_play.specs.Kept.{HasFront}
use Rattle.command_words.specs.Logged.{AskedLogged}
use Rattle.tabletop.specs.declared.endings.Ended.{Ended}
use Rattle.tabletop.specs.declared.endings.Ended.TheVariants as plain
use Rattle.tabletop.specs.declared.log_end.LogEnded.{LogEnded}
use Rattle.tabletop.specs.declared.log_end.LogEnded.TheVariants.{Plain, Usage, DiskFault, BadLog, OtherCampaign, Full}
use Rattle.tabletop.specs.Printing.{PrintsLine}
use Rattle.tabletop.specs.Ends.{Fetched, NotFetched, end_line, campaign_limit}
use Rattle.tabletop.specs.LogEndings.{log_status, log_line, IsToldInLog, ended_logged}

-- ---- what is entered behind a log's entries

-- a Leave that drops, of a seat that isn't Free
abbrev pub leave_of : ℕ → Option Seat → List Entry
leave_of seat None = []
leave_of seat (Some s) = if is_free s.book.state then [] else Leave seat true ∷ []

-- of the seats below this number, in ascending order
abbrev pub leaves_below : World → ℕ → List Entry
leaves_below w zero = []
leaves_below w (suc seat) = leaves_below w seat ++ leave_of seat (seat_at w seat)

unfoldable pub leaves : World → List Entry
leaves w = leaves_below w (length w.seats)

-- the world from which the script is played, behind the Leaves
abbrev pub start_of : World → World
start_of w = replay w (leaves w)

-- from the world after a log's entries: the Leaves, and then the entries of a script, which ends so
abbrev pub resumed : World → List ℕ → Script
resumed w text = after_entries (leaves w) (script_of (start_of w) text)

-- of the entries of a run those behind the Leaves
abbrev pub behind_leaves : World → List Entry → List Entry
behind_leaves w entries = drop (length (leaves w)) entries

-- ---- the log

-- an empty file, on which a log of the text is made, or one with these entries
abbrev pub IsFound : (text : List ℕ) → (kept : List Entry) → (file : List ℕ) → Type 0
IsFound text kept file = ((file ≡ []) × (kept ≡ [])) ⊎ IsLog text kept file

-- a log of another text
pub record IsOtherLog (text file : List ℕ) : Type 0 where
  pub other : List ℕ
  pub entries : List Entry
  pub log : IsLog other entries file
  pub differs : other ≢ text

-- why no log was there to go on with, where the disk tells what the file held
abbrev pub HasNoLog : (Tells : Type 0) → LogEnded → (text file : List ℕ) → Type 0
HasNoLog Tells (Plain ended) text file = ended ≡ plain.Memory
HasNoLog Tells Usage text file = ⊥
HasNoLog Tells DiskFault text file = Unit {0}
HasNoLog Tells (BadLog at) text file = Tells → (file ≢ []) × IsBadAt file at
HasNoLog Tells OtherCampaign text file = Tells → IsOtherLog text file
HasNoLog Tells Full text file = ⊥

-- the next entry behind these would put the log's closed gate at 2^30 or behind it
pub record IsFull (text : List ℕ) (kept put whole : List Entry) : Type 0 where
  pub next : Entry
  pub is_next : IsPrefix (put ++ next ∷ []) whole
  pub far : 2 ^ 30 ≤ length (open_part text (kept ++ (put ++ next ∷ [])))

module _ {D : Type 0} (seen : D → List ℕ) (may_leave : D → List ℕ → Type 0) (moment : D → ℕ) (left_since : D → ℕ → List ℕ → Type 0) where
  -- the log with which a run begins, once it was made or recovered: the disk as it is then, and the log's entries
  pub record Begins (text : List ℕ) (kept : List Entry) (old began : D) (end : ℕ) : Type 0 where
    pub found : IsFound text kept (seen old)
    pub holds : HoldsLog seen may_leave began end text kept
    -- until it was recovered, a crash left what one before the call might have left
    pub until : seen old ≢ [] → LeavesOnly moment left_since old began (may_leave old)

  -- a run with a log, whose entries may come to the whole, which a script gives, and came to those that were put
  pub record KeepsRun (text : List ℕ) (kept put : List Entry) (whole : List ℕ → List Entry) (script left : Option (List ℕ))
      (old new : D) : Type 0 where
    pub began : D
    pub end : ℕ
    pub begins : Begins text kept old began end
    -- a crash at any moment since then, inside the call too, leaves a log of the kept entries and the first of the whole
    pub any_moment : WhereTold script left (λ all rest. LeavesOnly moment left_since began new (HasFront text kept [] (whole all)))
    -- and one when the call has returned leaves those that were put among them
    pub now : WhereTold script left (λ all rest. (file : List ℕ) → may_leave new file → HasFront text kept put (whole all) file)

  -- a script was played from a world, behind the entries of a log
  pub record PlaysLogged (Tells : Type 0) (answer : Logged) (origin : World) (text : List ℕ)
      (script left out after : Option (List ℕ)) (old new : D) : Type 0 where
    pub opens : IsOpening origin
    -- the log's entries, and those of the run, of which alone lines were written
    pub kept : List Entry
    pub entries : List Entry
    pub entered : WhereTold script left (λ all rest. HasEntered (as_played answer) (resumed (replay origin kept) all) entries)
    pub read : WhereTold script left (λ all rest. HasRead (as_played answer) (start_of (replay origin kept))
        (behind_leaves (replay origin kept) entries) all rest)
    pub written : HasWritten (as_played answer) (replay origin kept) entries out after
    -- what stands behind a player's number is what its machine prints over all entries, behind what it printed over the log's
    pub players : (p : ℕ) → 1 ≤ p → p ≤ 32 → AreWrittenOf (as_played answer) (sent origin kept p ++ lines_behind p written.text)
        (machine (opening origin p) (trace origin (kept ++ entries) p))
    pub machines : (p : ℕ) → IsSentAsMachine origin (kept ++ entries) p
    -- the log has every entry of which a byte may have been written
    pub log : Tells → KeepsRun text kept entries (λ all. (resumed (replay origin kept) all).entries) script left old new
    pub full : Tells → answer ≡ logged.Full
        → WhereTold script left (λ all rest. IsFull text kept entries (resumed (replay origin kept) all).entries)

  -- and this is the campaign then: where the script was played to its end, that behind all entries
  pub record PlayedTo (Tells : Type 0) (answer : Logged) (text : List ℕ) (script left out after : Option (List ℕ)) (old new : D)
      (first last : Course) : Type 0 where
    pub plays : PlaysLogged Tells answer first.origin text script left out after old new
    pub world : answer ≡ logged.Done → world_of last ≡ replay first.origin (plays.kept ++ plays.entries)

-- ---- how a run ends

-- what follows a script that was played: the line, where it was asked for and the script was played to its end; nothing else
abbrev pub FollowsLogged : Logged → Bool → LogEnded → List ℕ → (out after : Option (List ℕ)) → Type 0
FollowsLogged logged.Done true ended line out after = (printed : Ended) × (ended ≡ Plain printed) × PrintsLine printed line out after
FollowsLogged answer end ended line out after = (ended ≡ ended_logged answer) × (after ≡ out)

-- the text is off the format: this is its first breach
abbrev pub BreaksFormat : LogEnded → List ℕ → Type 0
BreaksFormat ended text = (breach : Breach) × (ended ≡ Plain (plain.BadCampaign breach)) × (campaign_of text ≡ Err breach)

-- the words ask for a run on a campaign that is read as this world
pub record IsAskedFor (asked : Option AskedLogged) (texts : List ℕ → Option (List ℕ)) (campaign : List ℕ) (origin : World) : Type 0 where
  pub play : AskedLogged
  pub is : asked ≡ Some play
  pub told : texts play.file ≡ Some campaign
  pub small : length campaign ≤ campaign_limit
  pub world : world_of_text campaign ≡ Some origin

module _ {D : Type 0} (seen : D → List ℕ) (may_leave : D → List ℕ → Type 0) (moment : D → ℕ) (left_since : D → ℕ → List ℕ → Type 0) where
  -- a script was played from the world of the campaign's text, and what follows was done
  pub record RunsOn (Tells : Type 0) (end : Bool) (ended : LogEnded) (text : List ℕ) (script left out after : Option (List ℕ))
      (old new : D) : Type 0 where
    pub answer : Logged
    pub origin : World
    pub is : world_of_text text ≡ Some origin
    -- what was written before the campaign's line
    pub before_end : Option (List ℕ)
    pub plays : PlaysLogged seen may_leave moment left_since Tells answer origin text script left out before_end old new
    pub follows : FollowsLogged answer end ended (end_line origin (plays.kept ++ plays.entries)) before_end after

  -- once the campaign's text was there
  abbrev pub TextLogs : (Tells : Type 0) → Bool → LogEnded → List ℕ → (script left out after : Option (List ℕ)) → (old new : D) → Type 0
  TextLogs Tells end ended text script left out after old new =
      ((BreaksFormat ended text ⊎ HasNoLog Tells ended text (seen old)) × (after ≡ out))
      ⊎ RunsOn Tells end ended text script left out after old new

  -- on the campaign of a file, which has this text where it is told
  abbrev pub FileLogs : (Tells DeskFailed : Type 0) → Bool → LogEnded → (campaign script left out after : Option (List ℕ))
      → (old new : D) → Type 0
  FileLogs Tells DeskFailed end ended campaign script left out after old new =
      ((want : Ended) × (ended ≡ Plain want) × NotFetched DeskFailed want campaign × (after ≡ out))
      ⊎ Fetched (λ text. TextLogs Tells end ended text script left out after old new) campaign

  -- the words asked for this, or for nothing. The desk has a text of some names
  abbrev pub JobLogs : (Tells DeskFailed : Type 0) → LogEnded → Option AskedLogged → (texts : List ℕ → Option (List ℕ))
      → (script left out after : Option (List ℕ)) → (old new : D) → Type 0
  JobLogs Tells DeskFailed ended None texts script left out after old new = (ended ≡ Usage) × (after ≡ out)
  JobLogs Tells DeskFailed ended (Some play) texts script left out after old new =
      FileLogs Tells DeskFailed play.end ended (texts play.file) script left out after old new

  -- the whole run: how it ended and what was told of that, by its status, and the last line printed, of which a fault leaves a front
  pub record HasEndedLogged (Tells : Type 0) (status : ℕ) (asked : Option AskedLogged) (texts : List ℕ → Option (List ℕ))
      (script left out after : Option (List ℕ)) (old new : D) (DeskFailed OutFailed : Type 0) : Type 0 where
    pub ended : LogEnded
    pub told : LogEnded
    pub is_told : IsToldInLog ended told
    pub status_is : status ≡ log_status told
    -- what was written before the last line
    pub before_line : Option (List ℕ)
    pub ends : JobLogs Tells DeskFailed ended asked texts script left out before_line old new
    pub line : (after ≡ append_known before_line (log_line told)) ⊎ (OutFailed × WroteFront before_line (log_line told) after)
