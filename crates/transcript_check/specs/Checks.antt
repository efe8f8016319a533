-- What is checked: a transcript against the player machine, and two histories against each other.
use Rattle.std.specs.Prelude.{◌≡◌, ◌≢◌, ◌<◌, ◌⊎◌, ℕ, Bool, true, false, List, slice_get, Some, Err}
use Rattle.campaign_file.specs.Campaign.{campaign_of}
use Rattle.campaign_core.specs.Opening.{world_of_text}
use Rattle.campaign_law.specs.declared.entry.Entry.{Entry}
use Rattle.campaign_law.specs.World.{World, sent}
use Rattle.campaign_law.specs.Player.{Opening, Item, opening, trace, machine}
use Rattle.campaign_law.specs.Law.{Agree, bytes_of}
use Rattle.script_play.specs.Script.{Ending, done, bad_line, too_large, script_of}
use Rattle.transcript_check.specs.declared.fault.CheckFault.{CheckFault}
use Rattle.transcript_check.specs.declared.fault.CheckFault.TheVariants.{Bad, BadLine, TooLarge, Memory}
use Rattle.transcript_check.specs.declared.checking.Verdict.{Verdict}
use Rattle.transcript_check.specs.declared.checking.Verdict.TheVariants.{Equal, Differs}
use Rattle.transcript_check.specs.declared.comparing.Agreement.{Agreement}
use Rattle.transcript_check.specs.declared.comparing.Agreement.TheVariants as agreements

-- ---- a campaign text and a script

-- the script is played to its end: the world that the text opens, and the script's entries
pub record IsPlayed (text script : List ℕ) (w : World) (h : List Entry) : Type 0 where
  pub opens : world_of_text text ≡ Some w
  pub ends : script_of w script ≡ record { entries = h; ending = done }

abbrev pub IsPlayable : List ℕ → List ℕ → Type 0
IsPlayable text script = (w : World) × (h : List Entry) × IsPlayed text script w h

-- the text opens a world, and the script stops so
pub record Stops (text script : List ℕ) (ending : Ending) : Type 0 where
  pub world : World
  pub opens : world_of_text text ≡ Some world
  pub stops : (script_of world script).ending ≡ ending

-- the fault that is told of the first pair or of the second one, unless memory ran out
abbrev pub IsFaultOf : Bool → List ℕ → List ℕ → CheckFault → Type 0
IsFaultOf which text script (Bad second fault) = (second ≡ which) × (campaign_of text ≡ Err fault)
IsFaultOf which text script (BadLine second line) = (second ≡ which) × Stops text script (bad_line line)
IsFaultOf which text script (TooLarge second) = (second ≡ which) × Stops text script too_large
IsFaultOf which text script Memory = Unit {0}

-- a fault of the first pair, or one of the second, where the first is played to its end
abbrev pub IsFaultOfPair : (text script text2 script2 : List ℕ) → CheckFault → Type 0
IsFaultOfPair text script text2 script2 fault = IsFaultOf false text script fault ⊎ (IsPlayable text script × IsFaultOf true text2 script2 fault)

-- what a player may know of it
pub record IsTraceOf (text script : List ℕ) (p : ℕ) (o : Opening) (items : List Item) : Type 0 where
  pub world : World
  pub history : List Entry
  pub played : IsPlayed text script world history
  pub opening : o ≡ opening world p
  pub trace : items ≡ trace world history p

-- ---- a transcript

-- the first place at which the lists differ or one of them has ended: so many elements at their fronts are equal
pub record DifferAt {A : Type 0} (xs ys : List A) (place : ℕ) : Type 0 where
  pub before : (k : ℕ) → k < place → slice_get xs k ≡ slice_get ys k
  pub there : slice_get xs place ≢ slice_get ys place

abbrev pub Decides : List ℕ → List ℕ → Verdict → Type 0
Decides transcript bytes Equal = transcript ≡ bytes
Decides transcript bytes (Differs at) = DifferAt transcript bytes at

-- against what the player machine prints, each line with its LF. It is what the player was sent
pub record IsVerdict (text script : List ℕ) (p : ℕ) (transcript : List ℕ) (v : Verdict) : Type 0 where
  pub world : World
  pub history : List Entry
  pub played : IsPlayed text script world history
  pub decides : Decides transcript (bytes_of (machine (opening world p) (trace world history p))) v
  pub sent : Decides transcript (bytes_of (sent world history p)) v

-- ---- two histories

abbrev pub Compares : World → List Entry → World → List Entry → ℕ → Agreement → Type 0
Compares w h w2 h2 p agreements.Agree = Agree w h w2 h2 p
Compares w h w2 h2 p agreements.OpeningDiffers = opening w p ≢ opening w2 p
Compares w h w2 h2 p (agreements.TraceDiffers item) = (opening w p ≡ opening w2 p) × DifferAt (trace w h p) (trace w2 h2 p) item

-- of two campaigns and their scripts
pub record IsAgreement (text script text2 script2 : List ℕ) (p : ℕ) (a : Agreement) : Type 0 where
  pub world : World
  pub history : List Entry
  pub world2 : World
  pub history2 : List Entry
  pub played : IsPlayed text script world history
  pub played2 : IsPlayed text2 script2 world2 history2
  pub compares : Compares world history world2 history2 p a
