use Rattle.std.proofs.Common.{◌≡◌, ◌++◌}
use Rattle.std.specs.Prelude.{All}
use Rattle.std.specs.List.{flat_map}
use Rattle.cells.specs.Runs.{IsMaximalRun, runs_of}
use Rattle.player_view.specs.Walk.{run_letters}
use Rattle.player_view.proofs.map_views.letter_list.Given as goal

abbrev pub invariant-loop-run : goal.invariant-loop-run
invariant-loop-run l = record {
  letters : l.list.items ++ flat_map (run_letters l.map) l.run-iterator ≡ flat_map (run_letters l.map) (runs_of l.cells);
  on_map : All (IsMaximalRun l.cells) l.run-iterator;
}
