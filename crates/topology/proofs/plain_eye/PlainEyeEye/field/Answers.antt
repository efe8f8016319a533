use Rattle.topology.proofs.SightLemmas.{IsField-field_of}
use Rattle.topology.proofs.plain_eye.PlainEyeEye.field.Goals as goal

pub returns-clause-cells : goal.returns-clause-cells
returns-clause-cells c = rw c.mark_field-tested.ensures (IsField-field_of c.args.walls.now c.args.eye)
