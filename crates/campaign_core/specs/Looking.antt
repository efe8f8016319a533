-- How many looks an entry takes.
use Rattle.std.specs.Prelude.{ℕ}
use Rattle.command_looks.specs.Touched.{looks_of}
use Rattle.campaign_law.specs.declared.entry.Entry.{Entry}
use Rattle.campaign_law.specs.Outcome.{seat_of}
use Rattle.campaign_law.specs.World.{World, outcome_of, steps_of}

-- at most so many as its accepted command takes
abbrev pub looks_at : World → Entry → ℕ
looks_at w e = looks_of (steps_of w e) (seat_of e) w.scene (outcome_of w e).done
