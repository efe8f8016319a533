use Rattle.std.proofs.Common.{sym, ◌∙◌, ap}
use Rattle.std.specs.Prelude.{slice_get}
use Rattle.player_view.specs.View.{light_text}
use Rattle.player_view.proofs.ListLemmas.{one_mapped}
use Rattle.player_view.proofs.seat_view.add_light.Goals as goal

pub returns : goal.returns
returns c =
    c.in_ok-push_light.ensures
    ∙ one_mapped light_text c.args.scene.now.lights c.args.place c.at.result c.args.list.now.items c.light_text-light.result
    c.requires.so_far (ap (λ types. slice_get types c.args.place) (sym c.lights.ensures.value) ∙ c.at.ensures) c.light_text-light.ensures
