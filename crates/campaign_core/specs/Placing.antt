-- The change of a view in which a token is put elsewhere.
use Rattle.std.specs.Prelude.{Bool, if◌then◌else◌, [], ◌∷◌, Option, Some, None, option_and_then, option_map}
use Rattle.std.specs.List.{find}
use Rattle.names.specs.TokenId.{id_eq}
use Rattle.views.specs.declared.change.Change.{Change}
use Rattle.views.specs.declared.view.TokenView.{TokenView}
use Rattle.views.specs.declared.view.View.{View}
use Rattle.views.specs.Same.{same_token}
use Rattle.view_marks.specs.declared.placed.Placed.{Placed}
use Rattle.view_marks.specs.Placed.{placed_token}

abbrev pub is_placed : Placed → TokenView → Bool
is_placed p t = id_eq t.id p.id

-- the token there, where it didn't stand there before
abbrev pub newly_placed : Placed → TokenView → Option TokenView
newly_placed p t = if same_token t (placed_token p t) then None else Some (placed_token p t)

-- that token alone is another one
abbrev pub change_with : TokenView → Change
change_with t = record { changed = []; fight = None; gone = []; lights = []; maps = []; sights = []; tokens = t ∷ []; unmapped = [] }

-- the change of the view, where there is one
abbrev pub placed_change : Placed → View → Option Change
placed_change p v = option_map change_with (option_and_then (newly_placed p) (find (is_placed p) v.tokens))
