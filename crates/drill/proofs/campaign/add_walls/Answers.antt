use Rattle.std.proofs.Common.{◌≡◌, ◌+◌, ◌*◌, ◌∙◌, ap, arith, refl}
use Rattle.std.specs.Prelude.{codes}
use Rattle.drill.specs.Draws.{Drawing}
use Rattle.drill.specs.Campaign.{wall_drawn, walls_up_to}
use Rattle.drill.proofs.Walls.{has_drill, no_wall, one_more}
use Rattle.drill.proofs.campaign.add_walls.Goals as goal

pub loop-wall-init : goal.loop-wall-init
loop-wall-init c = record {
  world = no_wall c.args.draws.now.number c.args.world.now c.requires.world;
  draws = ap (λ next. record c.args.draws.now { next = next }) c.requires.draws;
}

pub add_wall-requires : goal.add_wall-requires
add_wall-requires c = has_drill c.loop-wall.world (codes "drill") (walls_up_to c.args.draws.now.number c.loop-wall._wall) _ c.loop-wall.invariant.world refl

pub loop-wall-preserved : goal.loop-wall-preserved
loop-wall-preserved c =
    let n = c.args.draws.now.number in
    let k = c.loop-wall._wall in
    let inv = c.loop-wall.invariant in
    let next = ap (λ (d : Drawing). d.next) inv.draws in
    let same = ap (λ (d : Drawing). d.number) inv.draws in
    record {
      world =
          one_more n k c.loop-wall.draws.next _ c.add_wall.new.world next
          (c.draw_wall-from.ensures.wall ∙ ap (λ m. wall_drawn m c.loop-wall.draws.next) same)
          (c.in_ok-add_wall.ensures (walls_up_to n k) inv.world);
      draws =
          let more : 4 * k + 4 ≡ 4 * (k + 1) = omega arith in
          c.draw_wall-from.ensures.draws ∙ (λ i. record (inv.draws i) { next = (inv.draws i).next + 4 }) ∙ ap (λ next. record c.args.draws.now { next = next }) more;
    }
