use Rattle.view_marks.proofs.Letters.{leaves_letters}
use Rattle.view_marks.proofs.laws.letters_stay.Goals as goal

pub returns : goal.returns
returns c = leaves_letters
