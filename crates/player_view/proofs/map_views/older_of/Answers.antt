use Rattle.std.proofs.Common.{◌∙◌, ap}
use Rattle.std.specs.List.{find}
use Rattle.std.specs.Str.{bytes_eq}
use Rattle.views.specs.declared.view.MapView.{MapView}
use Rattle.player_view.proofs.OlderLetters.{older_has}
use Rattle.player_view.proofs.map_views.older_of.Goals as goal

pub returns : goal.returns
returns c =
    older_has c.args.scene.now.maps c.args.map.now c.args.older.now _ c.requires.there c.requires.older
    (c.find_view.ensures ∙ ap (λ name. find (λ (v : MapView). bytes_eq v.name name) c.args.older.now) c.name.ensures.value)
