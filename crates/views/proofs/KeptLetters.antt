-- Letters that follow from what is exposed aren't compared.
use Rattle.std.proofs.Common.{◌≡◌, ℕ, ◌<◌, Bool, true, List, get_or}
use Rattle.std.specs.Prelude.{All}
use Rattle.std.specs.Str.{bytes_eq}
use Rattle.std.specs.Cmp.Lexicographic.{pointwise}
use Rattle.std.proofs.lemmas.Slice.Eq.{bytes_eq-Decides}
use Rattle.cells.specs.Cells.{cells_eq}
use Rattle.cells.proofs.SetLaws.{cells_eq_tells}
use Rattle.views.specs.declared.view.MapView.{MapView}
use Rattle.views.specs.Same.{same_letter}
use Rattle.views.specs.Views.{KeepsLetters}
use Rattle.views.proofs.SameLemmas.{pointwise-tells, same_letter-tells}

pub kept_letters : (a b : MapView) → KeepsLetters a b → bytes_eq a.name b.name ≡ true → cells_eq a.exposed b.exposed ≡ true → pointwise same_letter a.letters b.letters ≡ true
kept_letters a b keeps name exposed =
    (pointwise-tells same_letter same_letter-tells a.letters b.letters).1 (keeps ((bytes_eq-Decides a.name b.name).0 name) ((cells_eq_tells a.exposed b.exposed).0 exposed))
