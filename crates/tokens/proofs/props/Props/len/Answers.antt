use Rattle.std.proofs.Common.{ap, sym, ◌∙◌}
use Rattle.tokens.specs.Shared.{values_in}
use Rattle.tokens.proofs.PropertyLemmas.{none_distinct}
use Rattle.tokens.proofs.props.Props.len.Goals as goal

pub returns-in-None-clause-distinct : goal.returns-in-None-clause-distinct
returns-in-None-clause-distinct c = rw (sym c.self.view_is ∙ ap values_in c.in-None.is) none_distinct
