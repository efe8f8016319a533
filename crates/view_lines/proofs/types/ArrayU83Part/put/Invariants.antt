use Rattle.std.proofs.Common.{◌≡◌, ◌++◌, drop, map}
use Rattle.serde_json.specs.View.{items_of}
use Rattle.json_lines.specs.Tokens.{value_tokens, items_tokens}
use Rattle.view_lines.specs.Lines.{whole, wholes_data}
use Rattle.view_lines.proofs.types.ArrayU83Part.put.Given as goal

abbrev pub invariant-loop-number : goal.invariant-loop-number
invariant-loop-number l = record {
  before : l.writer.before ≡ l.fn.writer.before;
  tokens : l.writer.tokens ++ items_tokens (items_of (map whole (drop l.number-index l.self))) ≡ l.fn.writer.tokens ++ value_tokens (wholes_data l.self);
}
