use Rattle.std.proofs.Common.{ap, ◌∙◌}
use Rattle.serde_json.specs.Data.{object}
use Rattle.serde_json.proofs.Views.{view-Object}
use Rattle.campaign_writing.proofs.PutMembers.{campaign_of_members}
use Rattle.campaign_writing.proofs.campaign.value_in.Goals as goal

pub returns-clause-tree : goal.returns-clause-tree
returns-clause-tree c = view-Object c.in_ok-members.members ∙ ap object c.in_ok-members.ensures.tree ∙ campaign_of_members c.args.format (record { scene = c.args.scene.now; books = c.args.books.now })
