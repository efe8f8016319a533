use Rattle.view_marks.proofs.LookingOn.{others_settled}
use Rattle.view_marks.proofs.laws.others_stay_settled.Goals as goal

pub returns : goal.returns
returns c = others_settled
