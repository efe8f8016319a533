use Rattle.std.proofs.Common.{not, rules}
use Rattle.std.proofs.lemmas.Fn.{filter_same}
use Rattle.topology.specs.Order.{wall_eq}
use Rattle.topology.proofs.walls.remove_wall.Goals as goal

pub returns : goal.returns
returns c = filter_same _ (λ other. not (wall_eq c.args.wall.now other)) _ (λ x b f' k. search rules) _ _ c.retain.ensures.filtered
