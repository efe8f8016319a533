-- What a run of a script did to a campaign, and what it wrote.
use Rattle.std.specs.Prelude.{◌≡◌, ◌≤◌, ◌⊎◌, ℕ, ◌-◌, List, [], ◌∷◌, ◌++◌, length, take, drop, Option, Some, Result, Ok, Err}
use Rattle.std.specs.Io.KnownBytes.{append_known}
use Rattle.line_io.specs.Lines.{HasNoLineEnd, lines_of}
use Rattle.campaign_law.specs.declared.entry.Entry.{Entry}
use Rattle.campaign_law.specs.World.{World, sent}
use Rattle.campaign_law.specs.Player.{opening, trace, machine}
use Rattle.campaign_law.specs.Law.{Course, bytes_of, world_of}
use Rattle.script_play.specs.declared.run.Played.{Played}
use Rattle.script_play.specs.declared.run.Played.TheVariants.{Done, ReadFault, WriteFault, BadLine, TooLarge, Memory}
use Rattle.script_play.specs.Script.{Script, done, bad_line, too_large, script_of, entry_of_line, NothingWaits}
use Rattle.script_play.specs.Tagged.{tagged, lines_behind, IsWholeLines}

-- the entries that a campaign has behind those that it had
abbrev pub entries_since : Course → Course → List Entry
entries_since old new = drop (length old.history) new.history

-- its history went on
pub record GoesOn (old new : Course) : Type 0 where
  pub origin : new.origin ≡ old.origin
  pub history : new.history ≡ old.history ++ entries_since old new

pub record IsPrefix {A : Type 0} (front whole : List A) : Type 0 where
  pub rest : List A
  pub is : whole ≡ front ++ rest

abbrev pub all_but_last : {A : Type 0} → List A → List A
all_but_last xs = take (length xs - 1) xs

-- the new entries are those of the script, which ends so; after a stop they are the first of them
abbrev pub HasEntered : Played → Script → List Entry → Type 0
HasEntered Done script entries = script ≡ record { entries = entries; ending = done }
HasEntered (BadLine number) script entries = script ≡ record { entries = entries; ending = bad_line number }
HasEntered TooLarge script entries = script ≡ record { entries = entries; ending = too_large }
HasEntered ReadFault script entries = IsPrefix entries script.entries
HasEntered WriteFault script entries = IsPrefix entries script.entries
HasEntered Memory script entries = IsPrefix entries script.entries

-- of a text that was read but for the rest, the entries are those of what was read up to its last line end
pub record HasReadTo (w : World) (entries : List Entry) (text rest : List ℕ) : Type 0 where
  -- the lines that were read, each with its line end
  pub lines : List (List ℕ)
  -- and then a piece without a line end
  pub piece : List ℕ
  pub is : text ≡ bytes_of lines ++ (piece ++ rest)
  pub no_line_end : HasNoLineEnd piece
  pub each_line : lines_of (bytes_of lines) ≡ lines
  pub script : script_of w (bytes_of lines) ≡ record { entries = entries; ending = done }

-- how far the text was read
abbrev pub HasRead : Played → World → List Entry → List ℕ → List ℕ → Type 0
HasRead Done w entries text rest = rest ≡ []
HasRead ReadFault w entries text rest = HasReadTo w entries text rest
HasRead (BadLine number) w entries text rest = Unit {0}
HasRead TooLarge w entries text rest = Unit {0}
HasRead WriteFault w entries text rest = Unit {0}
HasRead Memory w entries text rest = Unit {0}

-- a front of what the entries send, with all that they send but the last one
pub record HasAllButLast (w : World) (entries : List Entry) (text : List ℕ) : Type 0 where
  pub prefix : IsPrefix text (tagged w entries)
  pub all_but_last : IsPrefix (tagged w (all_but_last entries)) text

-- the part of what the entries send that is written: all of it; after a write fault perhaps not all that the last one
-- sends, and for want of memory perhaps not all of its lines
abbrev pub IsPartSent : Played → World → List Entry → List ℕ → Type 0
IsPartSent Done w entries text = text ≡ tagged w entries
IsPartSent (BadLine number) w entries text = text ≡ tagged w entries
IsPartSent TooLarge w entries text = text ≡ tagged w entries
IsPartSent ReadFault w entries text = text ≡ tagged w entries
IsPartSent WriteFault w entries text = HasAllButLast w entries text
IsPartSent Memory w entries text = HasAllButLast w entries text × IsWholeLines text

-- a text was written, which is this part of what the entries send
pub record HasWritten (answer : Played) (w : World) (entries : List Entry) (before after : Option (List ℕ)) : Type 0 where
  pub text : List ℕ
  pub written : after ≡ append_known before text
  pub part : IsPartSent answer w entries text

-- the first of these lines, and then a front of the next
pub record EndsWithin (lines whole : List (List ℕ)) : Type 0 where
  pub first : List (List ℕ)
  pub front : List ℕ
  pub next : List ℕ
  pub rest : List (List ℕ)
  pub lines_are : lines ≡ first ++ front ∷ []
  pub whole_is : whole ≡ first ++ next ∷ rest
  pub part : IsPrefix front next

-- of the lines that are printed these are written: all of them; for want of memory the first of them; after a write fault
-- the first of them, and then perhaps a front of the next
abbrev pub AreWrittenOf : Played → (lines printed : List (List ℕ)) → Type 0
AreWrittenOf Done lines printed = lines ≡ printed
AreWrittenOf (BadLine number) lines printed = lines ≡ printed
AreWrittenOf TooLarge lines printed = lines ≡ printed
AreWrittenOf ReadFault lines printed = lines ≡ printed
AreWrittenOf WriteFault lines printed = IsPrefix lines printed ⊎ EndsWithin lines printed
AreWrittenOf Memory lines printed = IsPrefix lines printed

-- what a run wrote: its part of what the new entries send. In it stand, behind a player's number and after what the player
-- was sent before, the lines that the player machine prints, which holds no world, or the first of them
pub record Writes (answer : Played) (old new : Course) (before after : Option (List ℕ)) : Type 0 where
  pub bytes : HasWritten answer (world_of old) (entries_since old new) before after
  pub players : (p : ℕ) → 1 ≤ p → p ≤ 32 → AreWrittenOf answer (sent old.origin old.history p ++ lines_behind p bytes.text) (machine (opening new.origin p) (trace new.origin new.history p))

-- nothing waits, unless it stopped within a line
abbrev pub LeavesNothing : Played → World → Type 0
LeavesNothing Done w = NothingWaits w
LeavesNothing (BadLine number) w = NothingWaits w
LeavesNothing TooLarge w = NothingWaits w
LeavesNothing ReadFault w = NothingWaits w
LeavesNothing WriteFault w = Unit {0}
LeavesNothing Memory w = Unit {0}

-- how a part of a run ended that went on where it was done
abbrev pub played : {A : Type 0} → Result A Played → Played
played (Ok value) = Done
played (Err stop) = stop

-- a line ended it
abbrev pub IsLineStop : Played → Type 0
IsLineStop Done = ⊥
IsLineStop (BadLine number) = Unit {0}
IsLineStop TooLarge = Unit {0}
IsLineStop ReadFault = ⊥
IsLineStop WriteFault = Unit {0}
IsLineStop Memory = Unit {0}

-- it stopped within a line
abbrev pub IsCutShort : Played → Type 0
IsCutShort Done = ⊥
IsCutShort (BadLine number) = ⊥
IsCutShort TooLarge = ⊥
IsCutShort ReadFault = ⊥
IsCutShort WriteFault = Unit {0}
IsCutShort Memory = Unit {0}

-- an entry that a script's line is
pub record IsOfLine (w : World) (e : Entry) : Type 0 where
  pub line : List ℕ
  pub is : entry_of_line w line ≡ Some e
