use Rattle.std.proofs.Common.{◌≡◌, ◌++◌, drop, map}
use Rattle.serde_json.specs.View.{items_of}
use Rattle.json_lines.specs.Tokens.{value_tokens, items_tokens}
use Rattle.view_lines.specs.Lines.{list_data}
use Rattle.view_lines.proofs.parts.put_list.Given as goal

abbrev pub invariant-loop-part : goal.invariant-loop-part
invariant-loop-part g l = record {
  before : l.writer.before ≡ l.fn.writer.before;
  tokens : l.writer.tokens ++ items_tokens (items_of (map g.P.Part.data_of (drop l.part-index l.parts))) ≡ l.fn.writer.tokens ++ value_tokens (list_data (map g.P.Part.data_of l.parts));
}
