use Rattle.std.proofs.Common.{sym, ◌∙◌, ap, subst, List, ◌&&◌, ◌||◌}
use Rattle.std.specs.Prelude.{find}
use Rattle.std.specs.Str.{bytes_eq}
use Rattle.maps.specs.Maps.{AreMaps}
use Rattle.views.specs.declared.view.MapView.{MapView}
use Rattle.player_view.specs.Sight.{owns}
use Rattle.player_view.specs.Walk.{is_open_in}
use Rattle.player_view.proofs.ViewLemmas.{shown_by_maps}
use Rattle.player_view.proofs.token_views.has_token.Goals as goal

pub returns : goal.returns
returns c =
    c.passes_has_token.ensures
    ∙ ap
    (λ (views : List MapView).
    owns c.args.scene.now c.args.seat c.args.token.now
    || (c.args.token.now.visible && is_open_in c.args.token.now (find (λ view. bytes_eq view.name c.args.token.now.map) views)))
    c.requires
    ∙ shown_by_maps c.args.scene.now c.args.seat c.args.token.now (subst AreMaps c.maps.ensures.value c.len-count.ensures.valid)
    (sym c.if-is_gm.ensures)
