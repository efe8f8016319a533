use Rattle.std.proofs.Common.{◌≡◌, take, map}
use Rattle.std.specs.List.{AllByRecursion}
use Rattle.serde_json.specs.Data.{string}
use Rattle.serde_json.specs.View.{view}
use Rattle.campaign_writing.specs.Kept.{IsTag}
use Rattle.campaign_writing.proofs.seat_values.tags.Given as goal

abbrev pub invariant-loop-place : goal.invariant-loop-place
invariant-loop-place l = record { tree : map view l.list.items ≡ map string (take l.place l.book.tags); each : AllByRecursion IsTag (take l.place l.book.tags) }
