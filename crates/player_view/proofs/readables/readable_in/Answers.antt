use Rattle.player_view.proofs.ReadAlike.{table_alike}
use Rattle.player_view.proofs.readables.readable_in.Goals as goal

pub returns-clause-alike : goal.returns-clause-alike
returns-clause-alike c = table_alike c.args.seats c.args.view.now c.table_by.result c.table_by.ensures
