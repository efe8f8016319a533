use Rattle.drill.proofs.Maps.{map_set}
use Rattle.drill.proofs.campaign.set_map.Goals as goal

pub returns : goal.returns
returns c =
    map_set c.args.world.now c.add_map.new.self c.set_mode.new.self c.set_shown.new.self c.map_name-name.result c.in-Some.size c.requires.maps c.requires.fog c.map_name-name.ensures (λ i. record { w = c.in-Some.ensures.value.0 i; h = c.in-Some.ensures.value.1 i })
    c.in-Ok.ensures.value c.set_mode.ensures c.set_shown.ensures
