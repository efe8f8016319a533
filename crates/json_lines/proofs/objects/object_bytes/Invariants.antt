use Rattle.std.proofs.Common.{◌≡◌, ◌++◌, [], map, drop}
use Rattle.json_lines.specs.Objects.{members_of, object_data}
use Rattle.json_lines.specs.Tokens.{value_tokens, members_tokens}
use Rattle.json_lines.proofs.objects.object_bytes.Given as goal

-- what was written and what is left make the whole
abbrev pub invariant-loop-member : goal.invariant-loop-member
invariant-loop-member l = record {
  before : l.writer.before ≡ [];
  tokens : l.writer.tokens ++ members_tokens (members_of (map (λ member. (member.0.now, member.1)) (drop l.member-index l.members))) ≡ value_tokens (object_data (map (λ member. (member.0.now, member.1)) l.members));
}
