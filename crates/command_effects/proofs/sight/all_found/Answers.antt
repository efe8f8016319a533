use Rattle.std.proofs.Common.{◌∙◌, sym, ap, subst, arith, map, length}
use Rattle.std.specs.List.{AllZip}
use Rattle.std.proofs.lemmas.List.{take_all}
use Rattle.fog_book.specs.Exposures.{HaveOneSize}
use Rattle.command_effects.specs.Settle.{found_for}
use Rattle.command_effects.proofs.Settling.{one_size_each}
use Rattle.command_effects.proofs.sight.all_found.Goals as goal

pub returns-clause-sizes : goal.returns-clause-sizes
returns-clause-sizes c =
    let sets_are = c.sets-set-items.ensures ∙ ap (λ f. f.sets) c.fog.ensures.value in
    subst (AllZip HaveOneSize c.args.scene.now.fog.sets)
    (sym (c.loop-set.invariant ∙ ap (map (found_for c.args.players.now c.args.scene.now)) (take_all c.loop-set.set-index c.args.scene.now.fog.sets (omega (arith, c.loop-set-test.false, ap length sets_are)))))
    (one_size_each c.args.players.now c.args.scene.now c.args.scene.now.fog.sets c.fog.ensures.fitting.fog.each)
