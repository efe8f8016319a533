use Rattle.std.proofs.Common.{sym, ◌∙◌, ap}
use Rattle.fog_book.specs.Exposures.{Fog, exposed_of}
use Rattle.player_view.specs.Shown.{exposed, set_or_none}
use Rattle.player_view.proofs.map_views.exposed.Goals as goal

pub returns-clause-value : goal.returns-clause-value
unfolding exposed
returns-clause-value c =
    sym
    (ap (set_or_none c.args.map.now.walls.extent)
    (ap (λ (fog : Fog). exposed_of fog c.args.seat c.args.map.now.name) (sym c.fog-fog.ensures.value)
    ∙ ap (λ name. exposed_of c.fog-fog.result.now c.args.seat name) (sym c.name.ensures.value) ∙ c.exposed.ensures))
