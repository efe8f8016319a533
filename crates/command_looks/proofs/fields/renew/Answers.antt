use Rattle.std.proofs.Common.{None, refl}
use Rattle.command_looks.proofs.Renewed.{absent_due, kept_anew}
use Rattle.command_looks.proofs.fields.renew.Goals as goal

pub returns-in-None-clause-kept : goal.returns-in-None-clause-kept
returns-in-None-clause-kept g c =
    kept_anew c.args.scene.now c.args.id.now c.args.fields.now c.drop_field.new.self None c.requires c.drop_field.ensures.told
    (absent_due c.args.scene.now c.args.id.now (c.in-None.ensures.none refl))
