use Rattle.std.proofs.Common.{sym, ◌∙◌, ap, refl}
use Rattle.std.specs.Prelude.{slice_get}
use Rattle.player_view.specs.View.{sight_text}
use Rattle.player_view.proofs.ListLemmas.{one_mapped}
use Rattle.player_view.proofs.seat_view.add_sight.Goals as goal

pub returns : goal.returns
returns c =
    c.in_ok-push_sight.ensures
    ∙ one_mapped sight_text c.args.scene.now.sights c.args.place c.at-name.result c.args.list.now.items (sight_text c.at-name.result)
    c.requires.so_far (ap (λ types. slice_get types c.args.place) (sym c.sights.ensures.value) ∙ c.at-name.ensures) refl
