use Rattle.std.proofs.Common.{◌-◌, ◌≡◌, ◌≤◌, length, take, drop}
use Rattle.std.specs.Prelude.{All}
use Rattle.crash_log.specs.Entries.{IsShort}
use Rattle.evening_log.proofs.chronicle.copy_group.Given as goal

abbrev pub invariant-loop-place : goal.invariant-loop-place
invariant-loop-place g l = (l.from ≤ l.place) × (length l.list.items ≡ l.place - l.from)
    × (l.list.items ≡ take (l.place - l.from) (drop l.from (g.O.Object.history l.object))) × All IsShort l.list.items
