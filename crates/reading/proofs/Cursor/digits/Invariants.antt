use Rattle.std.proofs.Common.{◌≡◌, ◌+◌, ◌-◌, ◌^◌, ◌<◌, ◌≤◌, length}
use Rattle.reading.specs.Number.{digits_at}
use Rattle.reading.proofs.Cursor.digits.Given as goal

abbrev pub invariant-loop-place : goal.invariant-loop-place
invariant-loop-place l = (l.value < 10 ^ (l._place + 1)) × (digits_at (l.further - l._place) l.value l.self.rest.now ≡ digits_at l.further l.first l.fn.self.rest.now) × (length l.self.rest.now ≤ length l.fn.self.rest.now)
