-- What a run of a session does.
use Rattle.std.specs.Prelude.{◌≡◌, ◌≤◌, ℕ, List, Option}
use Rattle.std.specs.Arc.{arc_value}
use Rattle.line_io.specs.Counts.{CountRose}
use Rattle.campaign_law.specs.declared.entry.Entry.{Entry}
use Rattle.campaign_law.specs.World.{World}
use Rattle.turn_lock.specs.Pass.{HallState, PassState, IsPassOf}
use Rattle.session.specs.declared.sitting.Ended.{Ended}
use Rattle.session.specs.declared.sitting.Ended.TheVariants.{ReadFault, WriteFault}
use Rattle.session.specs.declared.service.Sat.{Sat}
use Rattle.session.specs.Own.{Grew}
use Rattle.session.specs.Session.{HasServed}
use Rattle.session.specs.Safely.{SaysSafely}
use Rattle.serving.specs.declared.sittings.Sitting.{Sitting}

-- A session at a hall, with the reader's pass before and after it, p and q, and the writer's, s and t. Its input had this text left, its
-- output had taken this, and both counted so many faults
pub record HasRun (hall : HallState World) (p q s t : PassState Entry World) (text left before after : Option (List ℕ)) (in_before in_after out_before out_after : ℕ) (ended : Ended) : Type 0 where
  pub reader_is : IsPassOf hall q
  pub writer_is : IsPassOf hall t
  pub grew : Grew p q × Grew s t
  pub served : HasServed hall.origin p q s t text left before after out_before out_after ended
  pub in_count : in_before ≤ in_after
  pub out_count : out_before ≤ out_after
  pub read_fault : ended ≡ ReadFault → CountRose in_before in_after
  pub write_fault : ended ≡ WriteFault → CountRose out_before out_after

-- what a run of a session makes of it, at what its ends tell of their bytes and faults
abbrev pub IsRunOf : {R In Out : Type 0} → (In → Option (List ℕ)) → (Out → Option (List ℕ)) → (In → ℕ) → (Out → ℕ) → Sitting R In Out → (In × Out) × Sat → Type 0
IsRunOf left written in_faults out_faults sitting done =
    HasRun (arc_value sitting.hall) sitting.reader done.1.reader sitting.writer done.1.writer (left sitting.input) (left done.0.0) (written sitting.output) (written done.0.1)
    (in_faults sitting.input) (in_faults done.0.0) (out_faults sitting.output) (out_faults done.0.1) done.1.ended

-- And what it wrote tells of no entry that isn't safe. `safe` is what an output knows of that
pub record IsSafeRun {R In Out : Type 0} (safe : Out → ℕ → Type 0) (left : In → Option (List ℕ)) (written : Out → Option (List ℕ)) (in_faults : In → ℕ) (out_faults : Out → ℕ) (sitting : Sitting R In Out) (done : (In × Out) × Sat) : Type 0 where
  pub run : IsRunOf left written in_faults out_faults sitting done
  pub says : SaysSafely (safe done.0.1) (arc_value sitting.hall).origin sitting.reader done.1.reader sitting.writer done.1.writer (written sitting.output) (written done.0.1)
