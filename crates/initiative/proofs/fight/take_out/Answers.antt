use Rattle.std.proofs.Common.{not, rules}
use Rattle.std.proofs.lemmas.Fn.{filter_same}
use Rattle.initiative.specs.Fights.{is_of}
use Rattle.initiative.proofs.fight.take_out.Goals as goal

pub returns : goal.returns
returns c = filter_same _ (λ entry. not (is_of c.args.id.now entry)) _ (λ x b f' k. search rules) _ _ c.retain.ensures.filtered
