use Rattle.sight_sweep.proofs.FieldLemmas.{field_with}
use Rattle.sight_sweep.proofs.shadow.hide_behind_wall.Goals as goal

pub returns-clause-added : goal.returns-clause-added
returns-clause-added c = field_with c.args.eye c.args.wall.now c.args.field.now c.take_out.new.field c.take_out.ensures
