use Rattle.std.proofs.Common.{◌≡◌, ◌++◌, map}
use Rattle.player_view.specs.Fights.{entry_text, entries_in}
use Rattle.player_view.proofs.fights.entries_in.Given as goal

abbrev pub invariant-loop-entry : goal.invariant-loop-entry
invariant-loop-entry l = l.list.items ++ map entry_text (entries_in l.gm l.tokens l.entry-iterator) ≡ map entry_text (entries_in l.gm l.tokens l.fight.list)
