use Rattle.std.proofs.Common.{◌≡◌, map, ◌++◌}
use Rattle.serde_json.specs.View.{items_of}
use Rattle.json_lines.specs.Tokens.{value_tokens, items_tokens}
use Rattle.view_lines.specs.Lines.{list_data, terrain_run_data, terrain_data}
use Rattle.view_lines.proofs.ground.put_terrain_searched.Given as goal

abbrev pub invariant-loop-run : goal.invariant-loop-run
invariant-loop-run l = record {
  before : l.writer.before ≡ l.fn.writer.before;
  tokens : l.writer.tokens ++ items_tokens (items_of (map (terrain_run_data l.letters) l.run-iterator)) ≡ l.fn.writer.tokens ++ value_tokens (list_data (terrain_data l.cells l.letters));
}
