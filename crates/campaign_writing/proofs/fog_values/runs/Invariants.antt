use Rattle.std.proofs.Common.{◌≡◌, map, ◌++◌}
use Rattle.serde_json.specs.View.{view}
use Rattle.cells.specs.Runs.{runs_of}
use Rattle.campaign_writing.specs.Scenes.{run_tree}
use Rattle.campaign_writing.proofs.fog_values.runs.Given as goal

abbrev pub invariant-loop-one : goal.invariant-loop-one
invariant-loop-one l = map view l.list.items ++ map run_tree l.one-iterator ≡ map run_tree (runs_of l.cells)
