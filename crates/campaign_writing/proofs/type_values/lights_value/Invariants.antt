use Rattle.std.proofs.Common.{◌≡◌, take}
use Rattle.serde_json.specs.View.{members_view}
use Rattle.campaign_writing.specs.Kept.{AreNamed}
use Rattle.campaign_writing.specs.Trees.{named, integer}
use Rattle.campaign_writing.proofs.type_values.lights_value.Given as goal

abbrev pub invariant-loop-place : goal.invariant-loop-place
invariant-loop-place l = record { tree : members_view l.members.entries ≡ named integer (take l.place l.lights); names : AreNamed (take l.place l.lights) }
