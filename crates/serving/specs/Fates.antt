-- What became of the connections that were taken, and what is printed of them.
use Rattle.std.specs.Prelude.{◌≡◌, ℕ, suc, Bool, true, false, All, List, [], ◌∷◌, ◌++◌, codes, decimal, Option}
use Rattle.std.specs.Io.KnownBytes.{append_known}
use mathlib.Core.List.{IsPrefix}
use Rattle.line_io.specs.Connections.{append_told}
use Rattle.campaign_law.specs.declared.entry.Entry.{Entry}
use Rattle.campaign_law.specs.World.{World}
use Rattle.turn_lock.specs.Pass.{PassState}
use Rattle.seats.specs.declared.seat_state.JoinRefusal.{JoinRefusal}
use Rattle.seats.specs.declared.seat_state.JoinRefusal.TheVariants as joins
use Rattle.session.specs.declared.sitting.Ended.{Ended}
use Rattle.session.specs.declared.sitting.Ended.TheVariants as ends
use Rattle.session.specs.declared.service.Sat.{Sat}
use Rattle.serving.specs.declared.sittings.Sitting.{Sitting}
use Rattle.serving.specs.declared.guests.Guest.{Guest}
use Rattle.serving.specs.declared.guests.Guest.TheVariants.{Busy, Sits}
use Rattle.serving.specs.declared.guests.Word.{Word}
use Rattle.serving.specs.declared.guests.Word.TheVariants as words

-- the word for each refusal of a hello, and for each end of a session
abbrev pub refusal_name : JoinRefusal → List ℕ
refusal_name joins.BadKey = codes "BadKey"
refusal_name joins.SeatTaken = codes "SeatTaken"
refusal_name joins.Spent = codes "Spent"
refusal_name joins.NoHello = codes "NoHello"

abbrev pub name_of : Ended → List ℕ
name_of ends.Left = codes "Left"
name_of (ends.Refused refusal) = codes "Refused " ++ refusal_name refusal
name_of ends.TooLong = codes "TooLong"
name_of ends.Spent = codes "Spent"
name_of ends.Cut = codes "Cut"
name_of ends.ReadFault = codes "ReadFault"
name_of ends.WriteFault = codes "WriteFault"
name_of ends.Memory = codes "Memory"

abbrev pub text_of : Word → List ℕ
text_of words.Busy = codes "busy"
text_of (words.Ended ended) = name_of ended

-- the line of the connection of this number
abbrev pub line_of : ℕ → Word → List ℕ
line_of number word = decimal number ++ (32 ∷ (text_of word ++ 10 ∷ []))

-- No session ran for the ends of a connection, or this session, which gave this
pub data Fate (R In Out : Type 0) : Type 0 where
  busy : In × Out → Fate R In Out
  sat : Sitting R In Out → (In × Out) × Sat → Fate R In Out

module _ {R In Out : Type 0} where
  abbrev pub word_of : Fate R In Out → Word
  word_of (busy ends) = words.Busy
  word_of (sat sitting done) = words.Ended done.1.ended

  -- the lines of the connections, from this number on
  abbrev pub lines_from : ℕ → List (Fate R In Out) → List ℕ
  lines_from number [] = []
  lines_from number (fate ∷ fates) = line_of number (word_of fate) ++ lines_from (suc number) fates

  -- the ends of the sessions, in order
  abbrev pub ends_of : List (Fate R In Out) → List (In × Out)
  ends_of [] = []
  ends_of (busy ends ∷ fates) = ends_of fates
  ends_of (sat sitting done ∷ fates) = done.0 ∷ ends_of fates

  -- the places at which the turns of its passes appended
  abbrev pub own_of : Fate R In Out → List ℕ
  own_of (busy ends) = []
  own_of (sat sitting done) = done.1.reader.own ++ done.1.writer.own

  abbrev pub owns_of : List (Fate R In Out) → List ℕ
  owns_of [] = []
  owns_of (fate ∷ fates) = own_of fate ++ owns_of fates

  -- the session did what a run of it does, and the history G begins with both of its fronts
  abbrev pub HoldsIn : (Sitting R In Out → (In × Out) × Sat → Type 0) → List Entry → Fate R In Out → Type 0
  HoldsIn Done G (busy ends) = Unit {0}
  HoldsIn Done G (sat sitting done) = ∥ Done sitting done ∥₁ × IsPrefix done.1.reader.front G × IsPrefix done.1.writer.front G

  module _ {Task : Type 0} (work_of : Task → Sitting R In Out) where
    abbrev pub Became : Guest Task In Out → Fate R In Out → Type 0
    Became (Busy kept) (busy ends) = ends ≡ kept.value
    Became (Busy kept) (sat sitting done) = ⊥
    Became (Sits task) (busy ends) = ⊥
    Became (Sits task) (sat sitting done) = sitting ≡ work_of task

    -- each connection, in order
    abbrev pub AllBecame : List (Guest Task In Out) → List (Fate R In Out) → Type 0
    AllBecame [] [] = Unit {0}
    AllBecame [] (fate ∷ fates) = ⊥
    AllBecame (guest ∷ guests) [] = ⊥
    AllBecame (guest ∷ guests) (fate ∷ fates) = Became guest fate × AllBecame guests fates

-- the text was printed, or a front of it where not all was
pub record IsPrinted (whole : Bool) (text : List ℕ) (before after : Option (List ℕ)) : Type 0 where
  pub part : List ℕ
  pub written : after ≡ append_known before part
  pub front : IsPrefix part text
  pub all : whole ≡ true → part ≡ text

-- more text is printed where all was printed before
abbrev pub PrintsMore : Bool → Bool → List ℕ → Option (List ℕ) → Option (List ℕ) → Type 0
PrintsMore true whole text before after = IsPrinted whole text before after
PrintsMore false whole text before after = (whole ≡ false) × (after ≡ before)

module _ {R In Out Task : Type 0} (work_of : Task → Sitting R In Out) (Done : Sitting R In Out → (In × Out) × Sat → Type 0) where
  -- one connection was gathered, by this pass before and after it
  pub record GathersOne (guest : Guest Task In Out) (word : Word) (p q : PassState Entry World) (ended_before ended_after : Option (List (In × Out))) : Type 0 where
    pub fate : Fate R In Out
    pub became : Became work_of guest fate
    pub holds : HoldsIn Done q.front fate
    pub own : q.own ≡ p.own ++ own_of fate
    pub ended : ended_after ≡ append_told ended_before (ends_of (fate ∷ []))
    pub word_is : word ≡ word_of fate

  -- these connections were gathered and told, by this pass before and after them
  pub record HasGathered (guests : List (Guest Task In Out)) (p q : PassState Entry World) (ended_before ended_after : Option (List (In × Out))) (whole : Bool) (before after : Option (List ℕ)) : Type 0 where
    pub fates : List (Fate R In Out)
    pub became : AllBecame work_of guests fates
    pub each : All (HoldsIn Done q.front) fates
    pub own : q.own ≡ p.own ++ owns_of fates
    pub ended : ended_after ≡ append_told ended_before (ends_of fates)
    pub printed : IsPrinted whole (lines_from 1 fates) before after
