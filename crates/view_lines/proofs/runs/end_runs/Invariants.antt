use Rattle.std.proofs.Common.{◌≡◌, ◌++◌, map}
use Rattle.serde_json.specs.View.{items_of}
use Rattle.json_lines.specs.Tokens.{items_tokens}
use Rattle.view_lines.specs.Lines.{run_data}
use Rattle.view_lines.proofs.runs.end_runs.Given as goal

abbrev pub invariant-loop-run : goal.invariant-loop-run
invariant-loop-run l = record {
  before : l.writer.before ≡ l.fn.writer.before;
  tokens : l.writer.tokens ++ items_tokens (items_of (map run_data l.run-iterator)) ≡ l.fn.writer.tokens ++ items_tokens (items_of (map run_data l.initial.run-iterator));
}
