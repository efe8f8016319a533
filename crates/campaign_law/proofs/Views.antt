-- Laws of the lines that show views.
use Rattle.std.proofs.Common.{◌≡◌, Some, None, refl, ap}
use Rattle.std.specs.Prelude.{Option, option_map}
use Rattle.views.specs.declared.view.View.{View}
use Rattle.view_change.specs.Change.{change_of}
use Rattle.view_lines.specs.Lines.{change_line as line_of}
use Rattle.view_change.proofs.ChangeLemmas.{none_if_same}
use Rattle.campaign_law.specs.Views.{change_line}

nothing_mapped : {A B : Type 0} (f : A → B) (o : Option A) → option_map f o ≡ None → o ≡ None
nothing_mapped f None h = refl
nothing_mapped f (Some a) h = cc

-- where there is no change line the views are equal
pub no_change : (v v' : View) → change_line v v' ≡ None → v ≡ v'
unfolding change_line
no_change v v' h = (none_if_same v v').0 (nothing_mapped line_of (change_of v v') h)

-- a view that stays has no change line
pub same_no_change : (v : View) → change_line v v ≡ None
unfolding change_line
same_no_change v = ap (option_map line_of) ((none_if_same v v').1 refl)
  where
    v' : View
    v' = v
