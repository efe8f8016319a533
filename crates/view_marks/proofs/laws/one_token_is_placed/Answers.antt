use Rattle.view_marks.proofs.Placings.{one_token}
use Rattle.view_marks.proofs.laws.one_token_is_placed.Goals as goal

pub returns : goal.returns
returns c = one_token
