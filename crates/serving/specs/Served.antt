-- What serving a hall did.
use Rattle.std.specs.Prelude.{◌≡◌, ◌≢◌, ◌≤◌, ◌+◌, ◌⊎◌, ℕ, Bool, true, false, All, List, [], ◌∷◌, ◌++◌, map, length, Option}
use Rattle.std.specs.Arc.{arc_value}
use Rattle.line_io.specs.Counts.{CountRose}
use Rattle.line_io.specs.Connections.{prepend_told, append_told, count_told, IsNoneLeft, RoseBy}
use Rattle.campaign_law.specs.declared.entry.Entry.{Entry}
use Rattle.campaign_law.specs.World.{World}
use Rattle.turn_lock.specs.Pass.{HallState, PassState}
use Rattle.session.specs.declared.service.Sat.{Sat}
use Rattle.serving.specs.declared.sittings.Sitting.{Sitting}
use Rattle.serving.specs.declared.guests.Stop.{Stop}
use Rattle.serving.specs.declared.guests.Stop.TheVariants as stops
use Rattle.serving.specs.declared.serving_hall.Served.{Served}
use Rattle.serving.specs.declared.serving_hall.Served.TheVariants as answers
use Rattle.serving.specs.Fates.{Fate, busy, sat, HoldsIn, owns_of, ends_of, lines_from, IsPrinted}
use Rattle.serving.specs.Outside.{Outside}
use Rattle.serving.specs.Alone.{HaveNewPasses, NobodyElse, IsToldItsOwn}

-- the answer, by why no more connections were taken and whether all lines were printed. The first cause decides
abbrev pub served_by : Stop → Bool → Served
served_by stops.Full true = answers.Done
served_by stops.Full false = answers.WriteFault
served_by stops.End true = answers.Done
served_by stops.End false = answers.WriteFault
served_by stops.DoorFault whole = answers.DoorFault
served_by stops.Memory whole = answers.Memory

module _ {R In Out : Type 0} where
  -- the ends that the door gave
  abbrev pub came_of : Fate R In Out → In × Out
  came_of (busy ends) = ends
  came_of (sat sitting done) = (sitting.input, sitting.output)

  -- how many were told to be busy
  abbrev pub busy_of : List (Fate R In Out) → ℕ
  busy_of [] = 0
  busy_of (busy ends ∷ fates) = 1 + busy_of fates
  busy_of (sat sitting done ∷ fates) = busy_of fates

  -- a session was one of this hall
  abbrev pub IsOf : HallState World → Fate R In Out → Type 0
  IsOf hall (busy ends) = Unit {0}
  IsOf hall (sat sitting done) = arc_value sitting.hall ≡ hall

-- Serving a hall, by a pass before and after it, p and q, while its usher gave the numbers from `low` on and below `high`. `Done` is what a session does, and
-- `written` what its output has taken
pub record Serves {R In Out : Type 0} (hall : HallState World) (Done : Sitting R In Out → (In × Out) × Sat → Type 0) (written : Out → Option (List ℕ)) (served : Served) (count : ℕ)
    (p q : PassState Entry World) (low high : ℕ) (early late : Outside In Out) : Type 0 where
  -- what became of each connection that was taken, in order, but for one that was perhaps lost for want of memory
  pub fates : List (Fate R In Out)
  pub lost : List (In × Out)
  pub came : early.coming ≡ prepend_told (map came_of fates ++ lost) late.coming
  pub most : length fates + length lost ≤ count
  pub one_lost : length lost ≤ 1
  pub none_lost : served ≢ answers.Memory → lost ≡ []
  -- all sessions share the hall; each did what a session does; and the history that q has seen begins with both of its fronts
  pub shared : All (IsOf hall) fates
  pub each : All (HoldsIn Done q.front) fates
  -- each had two passes of its own, whose numbers no other has
  pub new : HaveNewPasses low fates high
  -- and nothing else was entered by this pass
  pub own : q.own ≡ p.own ++ owns_of fates
  -- so where nobody else entered anything each session was told its own lines of the one history
  pub told : NobodyElse q.front fates → All (IsToldItsOwn hall.origin q.front written) fates
  -- the ends of the sessions were given back, in order
  pub ended : late.ended ≡ append_told early.ended (ends_of fates)
  pub started : late.started ≡ count_told (length (ends_of fates)) early.started
  pub busy_rose : RoseBy (busy_of fates) early.busy late.busy
  -- the line of each was printed, in order, or a front of these where a call of the output failed
  pub whole : Bool
  pub printed : IsPrinted whole (lines_from 1 fates) early.written late.written
  pub unprinted : whole ≡ false → CountRose early.out_faults late.out_faults
  -- Done: so many connections were taken or all, and all lines were printed
  pub done : served ≡ answers.Done → (whole ≡ true) × ((length fates ≡ count) ⊎ IsNoneLeft late.coming)
