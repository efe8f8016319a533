use Rattle.std.proofs.Common.{sym, ap, ◌∙◌}
use Rattle.maps.specs.Maps.{map_of}
use Rattle.campaign_scene.specs.Maps.{point_on}
use Rattle.campaign_scene.proofs.Maps.{walled_fails}
use Rattle.campaign_scene.proofs.wall.add_wall.Goals as goal

pub returns-in-Err-clause-exact : goal.returns-in-Err-clause-exact
returns-in-Err-clause-exact c = walled_fails c.args.name c.args.kind c.args.first c.args.second c.args.scene.now c.in-Some.grid.now c.in-Some-point_on.a c.in-Some-point_on-2.b c.in-Err.fault c.wall_breach.result
    (sym (c.in-Some.ensures.value ∙ ap (map_of c.args.name) c.maps.ensures.value))
    (sym (c.in-Some-point_on.ensures ∙ ap (λ size. point_on size c.args.first.0 c.args.first.1) c.size-size.ensures.value))
    (sym (c.in-Some-point_on-2.ensures ∙ ap (λ size. point_on size c.args.second.0 c.args.second.1) c.size-size.ensures.value))
    c.in-Err.ensures.fault c.wall_breach.ensures
