use Rattle.std.proofs.Common.{◌≡◌, take}
use Rattle.player_view.specs.Readables.{keyed, with_values}
use Rattle.player_view.proofs.readables.put_props.Given as goal

abbrev pub invariant-loop-prop : goal.invariant-loop-prop
invariant-loop-prop l = l.table ≡ with_values (keyed l.fn.id l.fn.class (take l.prop-index l.fn.props)) l.fn.table
