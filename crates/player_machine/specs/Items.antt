-- The items of a trace that a machine is fed.
use Rattle.std.specs.Prelude.{List, map}
use Rattle.campaign_law.specs.Player.{Item, own, message, view}
use Rattle.player_machine.specs.declared.item.TraceItem.{TraceItem}
use Rattle.player_machine.specs.declared.item.TraceItem.TheVariants.{Own, Message, Seen}

abbrev pub item_of : TraceItem → Item
item_of (Own entry steps) = own entry steps
item_of (Message line) = message line
item_of (Seen v) = view v

abbrev pub items_in : List TraceItem → List Item
items_in items = map item_of items
