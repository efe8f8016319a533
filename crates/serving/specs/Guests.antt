-- Connections that were taken, and what was told of them.
use Rattle.std.specs.Prelude.{◌≡◌, ◌≤◌, ◌<◌, ◌+◌, ℕ, suc, All, List, [], ◌∷◌, ◌++◌, map, length, Option}
use Rattle.std.specs.Arc.{arc_value}
use mathlib.Core.List.{IsPrefix}
use Rattle.line_io.specs.Connections.{prepend_told, add_told, count_told, IsAtLeast, IsNoneLeft, RoseBy}
use Rattle.campaign_law.specs.declared.entry.Entry.{Entry}
use Rattle.campaign_law.specs.World.{World}
use Rattle.turn_lock.specs.Pass.{HallState, UsherState, PassState, IsPassOf, IsUsherOf}
use Rattle.serving.specs.declared.sittings.Sitting.{Sitting}
use Rattle.serving.specs.declared.guests.Guest.{Guest}
use Rattle.serving.specs.declared.guests.Guest.TheVariants.{Busy, Sits}
use Rattle.serving.specs.declared.guests.Admission.{Admission}
use Rattle.serving.specs.declared.guests.Admission.TheVariants.{Taken, Stopped}
use Rattle.serving.specs.declared.guests.Stop.{Stop}
use Rattle.serving.specs.declared.guests.Stop.TheVariants as stops
use Rattle.serving.specs.Alone.{AreNewPasses}

module _ {R In Out Task : Type 0} (work_of : Task → Sitting R In Out) where
  -- the ends that the door gave for it
  abbrev pub came_for : Guest Task In Out → In × Out
  came_for (Busy ends) = ends.value
  came_for (Sits task) = ((work_of task).input, (work_of task).output)

  -- its session is one of this hall
  abbrev pub IsGuestOf : HallState World → Guest Task In Out → Type 0
  IsGuestOf hall (Busy ends) = Unit {0}
  IsGuestOf hall (Sits task) = arc_value (work_of task).hall ≡ hall

  -- the passes of the sessions were new, and their numbers rise from one session to the next, from `low` on and below `high`
  abbrev pub GotNewPasses : ℕ → List (Guest Task In Out) → ℕ → Type 0
  GotNewPasses low [] high = low ≤ high
  GotNewPasses low (Busy ends ∷ guests) high = GotNewPasses low guests high
  GotNewPasses low (Sits task ∷ guests) high = AreNewPasses low (work_of task).reader (work_of task).writer × GotNewPasses (suc (work_of task).writer.number) guests high

  abbrev pub AdmitsByNewPasses : ℕ → Admission Task In Out → ℕ → Type 0
  AdmitsByNewPasses low (Taken guest) high = GotNewPasses low (guest ∷ []) high
  AdmitsByNewPasses low (Stopped stop) high = low ≤ high

module _ {Task In Out : Type 0} where
  abbrev pub one_busy : Guest Task In Out → ℕ
  one_busy (Busy ends) = 1
  one_busy (Sits task) = 0

  abbrev pub one_sitting : Guest Task In Out → ℕ
  one_sitting (Busy ends) = 0
  one_sitting (Sits task) = 1

  -- how many have no session, and how many have one
  abbrev pub busy_in : List (Guest Task In Out) → ℕ
  busy_in [] = 0
  busy_in (g ∷ gs) = one_busy g + busy_in gs

  abbrev pub sitting_in : List (Guest Task In Out) → ℕ
  sitting_in [] = 0
  sitting_in (g ∷ gs) = one_sitting g + sitting_in gs

-- the pass and the usher of a hall, from which passes can be split
pub record CanSplit (hall : HallState World) (pass : PassState Entry World) (usher : UsherState World) : Type 0 where
  pub pass_is : IsPassOf hall pass
  pub usher_is : IsUsherOf hall usher
  pub below : pass.number < usher.count

-- from one pass to another of a longer front, while the usher gave at most so many numbers
pub record HasSplit (hall : HallState World) (most : ℕ) (p q : PassState Entry World) (u v : UsherState World) : Type 0 where
  pub can : CanSplit hall q v
  pub number : q.number ≡ p.number
  pub front : IsPrefix p.front q.front
  pub rose : u.count ≤ v.count
  pub most_rose : v.count ≤ u.count + most

-- What a door and a spawner told while these connections were taken, behind which perhaps one more was lost.
pub record HasTaken {R In Out Task : Type 0} (work_of : Task → Sitting R In Out) (hall : HallState World) (guests : List (Guest Task In Out)) (lost : List (In × Out))
    (to_come left : Option (List (In × Out))) (away_before away_after : Option ℕ) (started_before started_after : Option ℕ) (faults_before faults_after : ℕ) : Type 0 where
  pub each : All (IsGuestOf work_of hall) guests
  pub came : to_come ≡ prepend_told (map (came_for work_of) guests ++ lost) left
  pub away : IsAtLeast (sitting_in guests) away_after
  pub started : started_after ≡ count_told (sitting_in guests) started_before
  pub busy : RoseBy (busy_in guests) faults_before faults_after

-- the spawner is as it was, and the door too
abbrev pub StaysAs : {In Out : Type 0} → (to_come left : Option (List (In × Out))) → (away_before away_after : Option ℕ) → (started_before started_after : Option ℕ) → (faults_before faults_after : ℕ) → Type 0
StaysAs to_come left away_before away_after started_before started_after faults_before faults_after =
    (left ≡ to_come) × (away_after ≡ away_before) × (started_after ≡ started_before) × (faults_before ≤ faults_after)

module _ {R In Out Task : Type 0} (work_of : Task → Sitting R In Out) (hall : HallState World) where
  -- a connection was taken
  pub record HasTakenOne (guest : Guest Task In Out) (to_come left : Option (List (In × Out))) (away_before away_after : Option ℕ) (started_before started_after : Option ℕ) (faults_before faults_after : ℕ) : Type 0 where
    pub guest_is : IsGuestOf work_of hall guest
    pub came : to_come ≡ prepend_told (came_for work_of guest ∷ []) left
    pub away : away_after ≡ add_told 1 away_before
    pub started : started_after ≡ count_told (one_sitting guest) started_before
    pub busy : RoseBy (one_busy guest) faults_before faults_after

  -- a connection was taken and lost
  pub record HasLostOne (to_come left : Option (List (In × Out))) (away_before away_after : Option ℕ) (started_before started_after : Option ℕ) (faults_before faults_after : ℕ) : Type 0 where
    pub ends : In × Out
    pub came : to_come ≡ prepend_told (ends ∷ []) left
    pub away : away_after ≡ add_told 1 away_before
    pub started : started_after ≡ started_before
    pub count : faults_before ≤ faults_after

  abbrev pub Admits : Admission Task In Out → (to_come left : Option (List (In × Out))) → (away_before away_after : Option ℕ) → (started_before started_after : Option ℕ) → (faults_before faults_after : ℕ) → Type 0
  Admits (Taken guest) to_come left away_before away_after started_before started_after faults_before faults_after =
      HasTakenOne guest to_come left away_before away_after started_before started_after faults_before faults_after
  Admits (Stopped stops.Full) to_come left away_before away_after started_before started_after faults_before faults_after = ⊥
  Admits (Stopped stops.End) to_come left away_before away_after started_before started_after faults_before faults_after =
      IsNoneLeft left × StaysAs to_come left away_before away_after started_before started_after faults_before faults_after
  Admits (Stopped stops.DoorFault) to_come left away_before away_after started_before started_after faults_before faults_after =
      StaysAs to_come left away_before away_after started_before started_after faults_before faults_after
  Admits (Stopped stops.Memory) to_come left away_before away_after started_before started_after faults_before faults_after =
      HasLostOne to_come left away_before away_after started_before started_after faults_before faults_after

-- why no more connections were taken
abbrev pub StopsBy : {Task In Out : Type 0} → Stop → ℕ → List (Guest Task In Out) → List (In × Out) → Option (List (In × Out)) → Type 0
StopsBy stops.Full count guests lost left = (length guests ≡ count) × (lost ≡ [])
StopsBy stops.End count guests lost left = IsNoneLeft left × (length guests < count) × (lost ≡ [])
StopsBy stops.DoorFault count guests lost left = (length guests < count) × (lost ≡ [])
StopsBy stops.Memory count guests lost left = (length guests + length lost ≤ count) × (length lost ≤ 1)

module _ {R In Out Task : Type 0} (work_of : Task → Sitting R In Out) (hall : HallState World) where
  -- a session was started for these ends, or refused by the spawner, or memory was wanting
  abbrev pub Seats : In × Out → Admission Task In Out → (started_before started_after : Option ℕ) → (faults_before faults_after : ℕ) → Type 0
  Seats ends (Taken guest) started_before started_after faults_before faults_after =
      IsGuestOf work_of hall guest × (came_for work_of guest ≡ ends) × (started_after ≡ count_told (one_sitting guest) started_before) × RoseBy (one_busy guest) faults_before faults_after
  Seats ends (Stopped stops.Full) started_before started_after faults_before faults_after = ⊥
  Seats ends (Stopped stops.End) started_before started_after faults_before faults_after = ⊥
  Seats ends (Stopped stops.DoorFault) started_before started_after faults_before faults_after = ⊥
  Seats ends (Stopped stops.Memory) started_before started_after faults_before faults_after = (started_after ≡ started_before) × (faults_before ≤ faults_after)

-- Why no more connections were taken than these
pub record Takes {R In Out Task : Type 0} (work_of : Task → Sitting R In Out) (hall : HallState World) (stop : Stop) (count : ℕ) (guests : List (Guest Task In Out))
    (to_come left : Option (List (In × Out))) (away_before away_after : Option ℕ) (started_before started_after : Option ℕ) (faults_before faults_after : ℕ) : Type 0 where
  pub lost : List (In × Out)
  pub taken : HasTaken work_of hall guests lost to_come left away_before away_after started_before started_after faults_before faults_after
  pub stops : StopsBy stop count guests lost left
