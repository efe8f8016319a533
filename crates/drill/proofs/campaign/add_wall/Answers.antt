use Rattle.drill.proofs.Walls.{added, skipped}
use Rattle.drill.proofs.campaign.add_wall.Goals as goal

pub returns-in-Ok : goal.returns-in-Ok
returns-in-Ok c = λ walls is. added walls c.args.world.now c.map_name.result c.args.from c.args.to is c.map_name.ensures c.add_wall.new.self c.in-Ok.ensures.ok c.in-Ok.ensures.added

pub returns-in-Err-WallThere : goal.returns-in-Err-WallThere
returns-in-Err-WallThere c = λ walls is. skipped walls c.args.world.now c.map_name.result c.args.from c.args.to is c.map_name.ensures c.add_wall.new.self c.in-Err-WallThere.field-0 c.in-Err-WallThere.field-0-is c.in-Err-WallThere.ensures.fault c.in-Err-WallThere.ensures.unchanged
