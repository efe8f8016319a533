use Rattle.std.proofs.Common.{◌≡◌, take}
use Rattle.serde_json.specs.View.{members_view}
use Rattle.campaign_writing.specs.Scenes.{runs_tree}
use Rattle.campaign_writing.specs.Trees.{named}
use Rattle.campaign_writing.proofs.Members.{entries_of}
use Rattle.campaign_writing.proofs.fog_values.fog_of_player.Given as goal

abbrev pub invariant-loop-place : goal.invariant-loop-place
invariant-loop-place l = members_view l.members.entries ≡ named runs_tree (entries_of l.scene l.seat (take l.place l.scene.maps))
