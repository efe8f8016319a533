use Rattle.std.proofs.Common.{◌∙◌, arith}
use Rattle.player_view.proofs.SightLemmas.{all_visible}
use Rattle.player_view.proofs.looks.look_at.Goals as goal

pub returns : goal.returns
returns c =
    c.loop-number.invariant
    ∙ all_visible c.args.scene.now c.args.seat c.args.map.now c.args.lookout.now.name c.args.lookout.now.places.items c.loop-number.number c.requires.name
    c.requires.lookout.places (omega (arith, c.loop-number-test.false, c.len-number-end.ensures))
