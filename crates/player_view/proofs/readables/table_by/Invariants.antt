use Rattle.std.proofs.Common.{◌≡◌, take}
use Rattle.std.specs.Prelude.{flat_map}
use Rattle.player_view.specs.Readables.{read_in, yours_in, table_of}
use Rattle.player_view.proofs.readables.table_by.Given as goal

abbrev pub invariant-loop-token : goal.invariant-loop-token
invariant-loop-token l = l.table ≡ table_of l.fn.seats (flat_map read_in (take l.token-index l.fn.view.tokens)) (flat_map yours_in (take l.token-index l.fn.view.tokens))
