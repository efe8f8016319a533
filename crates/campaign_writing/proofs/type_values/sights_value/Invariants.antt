use Rattle.std.proofs.Common.{◌≡◌, take}
use Rattle.serde_json.specs.View.{members_view}
use Rattle.campaign_writing.specs.Kept.{AreNamed}
use Rattle.campaign_writing.specs.Scenes.{sight_tree}
use Rattle.campaign_writing.specs.Trees.{named}
use Rattle.campaign_writing.proofs.type_values.sights_value.Given as goal

abbrev pub invariant-loop-place : goal.invariant-loop-place
invariant-loop-place l = record { tree : members_view l.members.entries ≡ named sight_tree (take l.place l.sights); names : AreNamed (take l.place l.sights) }
