use Rattle.std.proofs.Common.{◌≡◌, map, take}
use Rattle.command_effects.specs.Settle.{found_for}
use Rattle.command_effects.proofs.sight.all_found.Given as goal

abbrev pub invariant-loop-set : goal.invariant-loop-set
invariant-loop-set l = l.all.items ≡ map (found_for l.players l.scene) (take l.set-index l.scene.fog.sets)
