-- What both halves of a session write by, between two turns.
use Rattle.std.specs.Prelude.{◌≡◌, ◌≤◌, ℕ, List, [], Option, None, Some}
use Rattle.line_io.specs.Counts.{CountRose}
use Rattle.world.specs.Scene.{bare}
use Rattle.campaign_law.specs.declared.entry.Entry.{Entry}
use Rattle.campaign_law.specs.World.{World}
use Rattle.campaign_law.specs.Law.{IsOpening}
use Rattle.turn_lock.specs.Pass.{HallState, PassState, IsPassOf}
use Rattle.session.specs.declared.hold.Hold.{Hold}
use Rattle.session.specs.declared.writing.Wrote.{Wrote}
use Rattle.session.specs.declared.writing.Wrote.TheVariants.{WriteFault}
use Rattle.session.specs.Written.{IsWriting, HasWritten}
use Rattle.session.specs.Safely.{WritesSafely}

-- what the writing of a session began with: the names are those of the references to its pass, its output and its input
pub record Begun : Type 0 where
  pub hall : HallState World
  pub hold : Hold
  pub pass : PassState Entry World
  pub written : Option (List ℕ)
  pub faults : ℕ
  pub pass_name : ℕ
  pub output_name : ℕ
  pub input_name : ℕ

-- nothing was written since
pub record IsAtStart (b : Begun) (pass : PassState Entry World) (written : Option (List ℕ)) (faults : ℕ) : Type 0 where
  pub hall : IsPassOf b.hall pass
  pub opening : IsOpening b.hall.origin
  pub pass_is : pass ≡ b.pass
  pub written_is : written ≡ b.written
  pub faults_is : faults ≡ b.faults

-- what was written from then on, by how the writing ended, or by so many whole lines while it goes on
pub record IsWrittenSo (b : Begun) (Safe : ℕ → Type 0) (pass : PassState Entry World) (count : ℕ) (over : Option Wrote) (written : Option (List ℕ)) (faults : ℕ) : Type 0 where
  pub hall : IsPassOf b.hall pass
  pub opening : IsOpening b.hall.origin
  pub goes_on : over ≡ None → IsWriting b.hall.origin b.hold b.pass pass count b.written written
  pub ended : (end : Wrote) → over ≡ Some end → HasWritten b.hall.origin b.hold b.pass pass end b.written written
  pub safe : WritesSafely Safe b.hall.origin b.hold b.pass pass b.written written
  pub faults_rose : b.faults ≤ faults
  pub write_fault : over ≡ Some WriteFault → CountRose b.faults faults

-- of no session
abbrev pub nothing : Begun
nothing =
    record {
      hall = record { identity = record { words = 0; slots = 0; views_name = 0; atom = 0; block = 0; offset = 0; slot_names = [] }; origin = record { seats = []; scene = bare 0 } };
      hold = record { seat = 0; place = 0; reader = 0; writer = 0 };
      pass = record { hall = record { words = 0; slots = 0; views_name = 0; atom = 0; block = 0; offset = 0; slot_names = [] }; origin = None; number = 0; front = []; own = []; heard = 0 };
      written = None;
      faults = 0;
      pass_name = 0;
      output_name = 0;
      input_name = 0;
    }

-- whatever the count
abbrev pub IsWritten : Begun → (ℕ → Type 0) → PassState Entry World → Option Wrote → Option (List ℕ) → ℕ → Type 0
IsWritten b Safe pass over written faults = (count : ℕ) × IsWrittenSo b Safe pass count over written faults
