use Rattle.view_marks.proofs.LookingOn.{others_nothing}
use Rattle.view_marks.proofs.laws.others_are_shown_nothing.Goals as goal

pub returns : goal.returns
returns c = others_nothing
