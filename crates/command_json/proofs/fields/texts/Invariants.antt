use Rattle.std.proofs.Common.{◌≡◌, drop}
use Rattle.serde_json.specs.View.{items_view}
use Rattle.command_json.specs.Fields.{texts_from}
use Rattle.command_json.proofs.Places.{with_front}
use Rattle.command_json.proofs.fields.texts.Given as goal

-- what was read before and what is left give the whole
abbrev pub invariant-loop-item : goal.invariant-loop-item
invariant-loop-item l = with_front l.list.items (texts_from (items_view (drop l.item-index l.items))) ≡ texts_from (items_view l.items)
