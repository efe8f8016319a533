-- Outputs that wait for a log, and the door that gives them.
use Rattle.std.specs.Prelude.{◌<◌, ◌≤◌, ◌+◌, ◌-◌, ◌^◌, ℕ, min, All, List, Option}
use Rattle.turn_lock.specs.Pass.{HallState, UsherState, PassState, IsPassOf, IsUsherOf}
use Rattle.campaign_law.specs.declared.entry.Entry.{Entry}
use Rattle.evening_log.specs.Keeping.{LogOrigin}

-- two counts together, which stand still at the last value
abbrev pub both_counts : ℕ → ℕ → ℕ
both_counts first second = min (first + second) (2 ^ 64 - 1)

-- an output: the one that it writes to, its log's hall, its pass there, and how often the log refused
pub record SinkState (Inner Origin : Type 0) : Type 0 where
  pub inner : Inner
  pub log : HallState (LogOrigin Origin)
  pub pass : PassState Entry (LogOrigin Origin)
  pub refused : ℕ

-- a door: the one that it stands before, its log's hall, usher and pass, the ends that were given back, how many of those that it gave
-- were not, the greatest length of the log that their outputs had heard of, and how often it failed itself
pub record DoorState (Outer In Inner Origin : Type 0) : Type 0 where
  pub outer : Outer
  pub log : HallState (LogOrigin Origin)
  pub usher : UsherState (LogOrigin Origin)
  pub pass : Option (PassState Entry (LogOrigin Origin))
  pub ended : List (In × SinkState Inner Origin)
  pub away : ℕ
  pub heard : ℕ
  pub refused : ℕ

-- passes can be split off this one
pub record CanSplit {Origin : Type 0} (hall : HallState (LogOrigin Origin)) (usher : UsherState (LogOrigin Origin)) (pass : PassState Entry (LogOrigin Origin)) : Type 0 where
  pub pass_is : IsPassOf hall pass
  pub usher_is : IsUsherOf hall usher
  pub below : pass.number < usher.count

-- the output had heard of no greater length of the log
abbrev pub HeardAtMost : {In Inner Origin : Type 0} → ℕ → In × SinkState Inner Origin → Type 0
HeardAtMost most ends = ends.1.pass.heard ≤ most

abbrev pub AllHeardAtMost : {In Inner Origin : Type 0} → ℕ → List (In × SinkState Inner Origin) → Type 0
AllHeardAtMost most ended = All (HeardAtMost most) ended
