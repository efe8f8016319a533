use Rattle.std.proofs.Common.{◌≡◌, drop}
use Rattle.serde_json.specs.View.{items_view}
use Rattle.command_json.specs.Fields.{places_from}
use Rattle.command_json.proofs.Places.{with_front}
use Rattle.command_json.proofs.fields.places.Given as goal

-- what was read before and what is left give the whole
abbrev pub invariant-loop-item : goal.invariant-loop-item
invariant-loop-item l = with_front l.list.items (places_from (items_view (drop l.item-index l.items))) ≡ places_from (items_view l.items)
