use Rattle.std.proofs.Common.{◌≡◌, map}
use Rattle.serde_json.specs.View.{members_view}
use Rattle.json_fields.specs.Fields.{unknown_member}
use Rattle.json_fields.proofs.fields.first_unknown.Given as goal

-- what is left has the first unknown key
abbrev pub invariant-loop-key : goal.invariant-loop-key
invariant-loop-key l = unknown_member (map (λ k. k.now) l.known) (members_view l.key-iterator) ≡ unknown_member (map (λ k. k.now) l.known) (members_view l.members.entries)
