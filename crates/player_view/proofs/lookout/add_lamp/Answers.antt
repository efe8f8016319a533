use Rattle.std.proofs.Common.{◌∙◌}
use Rattle.player_view.specs.Sight.{lamp_on}
use Rattle.player_view.proofs.ListLemmas.{none_made, one_made}
use Rattle.player_view.proofs.lookout.add_lamp.Goals as goal

pub returns-in-None : goal.returns-in-None
returns-in-None c =
    none_made (lamp_on c.args.scene.now c.args.name) c.args.scene.now.tokens c.args.place c.token_at.result.now c.args.lamps.now.items
    c.requires.so_far c.token_at.ensures.value c.in-None.ensures

pub returns-in_ok-push_lamp-in-Some : goal.returns-in_ok-push_lamp-in-Some
returns-in_ok-push_lamp-in-Some c =
    c.in_ok-push_lamp-in-Some.ensures
    ∙ one_made (lamp_on c.args.scene.now c.args.name) c.args.scene.now.tokens c.args.place c.token_at.result.now c.args.lamps.now.items
    c.in-Some.lamp c.requires.so_far c.token_at.ensures.value c.in-Some.ensures
