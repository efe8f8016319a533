use Rattle.std.proofs.Common.{◌≡◌, drop}
use Rattle.std.specs.Str.{bytes_eq}
use Rattle.std.specs.Cmp.Lexicographic.{pointwise}
use Rattle.player_machine.proofs.same.same_tags.Given as goal

abbrev pub invariant-loop-place : goal.invariant-loop-place
invariant-loop-place l = pointwise bytes_eq (drop l.place l.a.tags) (drop l.place l.b.tags) ≡ pointwise bytes_eq l.a.tags l.b.tags
