use Rattle.std.proofs.Common.{◌≡◌, take}
use Rattle.serde_json.specs.Data.{string}
use Rattle.serde_json.specs.View.{members_view}
use Rattle.campaign_writing.specs.Kept.{AreNamed}
use Rattle.campaign_writing.specs.Trees.{named}
use Rattle.campaign_writing.proofs.seat_values.macros.Given as goal

abbrev pub invariant-loop-place : goal.invariant-loop-place
invariant-loop-place l = record { tree : members_view l.members.entries ≡ named string (take l.place l.book.macros); names : AreNamed (take l.place l.book.macros) }
