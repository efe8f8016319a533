use Rattle.std.proofs.Common.{◌≡◌, ◌++◌}
use Rattle.json_lines.specs.Tokens.{value_tokens, members_tokens}
use Rattle.view_lines.specs.Lines.{named_data}
use Rattle.view_lines.specs.Entries.{members_in}
use Rattle.view_lines.proofs.types.put_types.Given as goal

abbrev pub invariant-loop-name : goal.invariant-loop-name
invariant-loop-name g l = record {
  before : l.writer.before ≡ l.fn.writer.before;
  tokens : l.writer.tokens ++ members_tokens (members_in g.V.Part.data_of l.name-iterator) ≡ l.fn.writer.tokens ++ value_tokens (named_data g.V.Part.data_of l.types);
}
