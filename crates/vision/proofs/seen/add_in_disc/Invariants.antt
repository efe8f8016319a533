use Rattle.std.proofs.Common.{◌≡◌}
use Rattle.vision.specs.Seen.{with_cells}
use Rattle.vision.specs.Common.{field_in_disc}
use Rattle.vision.proofs.AddingLemmas.{rows_part}
use Rattle.vision.proofs.seen.add_in_disc.Given as goal

abbrev pub invariant-loop-y : goal.invariant-loop-y
invariant-loop-y l = record {
  extent : l.out.extent ≡ l.initial.out.extent;
  cells : l.out ≡ with_cells l.initial.out (rows_part (field_in_disc l.field l.disc) l.y);
}
