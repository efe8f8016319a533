use Rattle.std.proofs.Common.{◌≡◌, true, map, ◌++◌}
use Rattle.std.specs.Prelude.{All, AllPairs}
use Rattle.std.specs.List.{filter}
use Rattle.cells.specs.Runs.{StandsBefore}
use Rattle.serde_json.specs.View.{items_of}
use Rattle.json_lines.specs.Tokens.{value_tokens, items_tokens}
use Rattle.view_lines.specs.Lines.{is_of_run, list_data, terrain_run_data, terrain_data}
use Rattle.view_lines.specs.Rows.{are_by_rows}
use Rattle.view_lines.proofs.ground.put_terrain_by_rows.Given as goal

abbrev pub invariant-loop-run : goal.invariant-loop-run
invariant-loop-run l = record {
  before : l.writer.before ≡ l.fn.writer.before;
  told : l.writer.tokens ++ items_tokens (items_of (map (terrain_run_data l.letters) l.run-iterator)) ≡ l.fn.writer.tokens ++ value_tokens (list_data (terrain_data l.cells l.letters));
  ordered : AllPairs StandsBefore l.run-iterator;
  by_rows : are_by_rows l.left ≡ true;
  left_enough : All (λ run. filter (is_of_run run) l.left ≡ filter (is_of_run run) l.letters) l.run-iterator;
}
