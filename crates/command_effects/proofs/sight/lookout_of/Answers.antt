use Rattle.std.specs.Option.{option_copied}
use Rattle.command_effects.proofs.Lookouts.{found}
use Rattle.command_effects.proofs.sight.lookout_of.Goals as goal

pub returns : goal.returns
returns c = found c.args.scene.now c.args.name c.args.lookouts.now (option_copied c.find_lookout.result) c.requires c.find_lookout.ensures
