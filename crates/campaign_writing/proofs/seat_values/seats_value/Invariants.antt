use Rattle.std.proofs.Common.{◌≡◌, take, map}
use Rattle.std.specs.List.{AllByRecursion}
use Rattle.serde_json.specs.View.{view}
use Rattle.campaign_writing.specs.Canonical.{seat_tree}
use Rattle.campaign_writing.specs.Kept.{IsKeptBook}
use Rattle.campaign_writing.proofs.seat_values.seats_value.Given as goal

abbrev pub invariant-loop-book : goal.invariant-loop-book
invariant-loop-book l = record { tree : map view l.list.items ≡ map (seat_tree l.scene) (take l.book-index l.books); each : AllByRecursion IsKeptBook (take l.book-index l.books) }
