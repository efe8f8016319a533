use Rattle.std.proofs.Common.{ap, ◌∙◌}
use Rattle.serde_json.specs.Data.{object}
use Rattle.serde_json.proofs.Views.{view-Object}
use Rattle.campaign_writing.proofs.PutMembers.{map_of_members}
use Rattle.campaign_writing.proofs.map_values.map_value.Goals as goal

pub returns-clause-tree : goal.returns-clause-tree
returns-clause-tree c = view-Object c.in_ok-members.members ∙ ap object c.in_ok-members.ensures.tree ∙ map_of_members c.args.format c.args.map.now
