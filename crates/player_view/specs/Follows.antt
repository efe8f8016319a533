-- Whether a scene may follow another.
use Rattle.std.specs.Prelude.{◌≡◌, ℕ, true, List, Some, is_some}
use Rattle.cells.specs.Cells.{Extent}
use Rattle.type_table.specs.Types.{type_of}
use Rattle.views.specs.Views.{FollowsView}
use Rattle.player_view.specs.View.{view_of}
use Rattle.world.specs.Scene.{Scene}
use Rattle.world.specs.Rules.{size_of}

-- each map stays, with its size, and no type goes
pub record Follows (s t : Scene) : Type 0 where
  pub sizes : (name : List ℕ) (size : Extent) → size_of name s.maps ≡ Some size → size_of name t.maps ≡ Some size
  pub lights : (name : List ℕ) → is_some (type_of name s.lights) ≡ true → is_some (type_of name t.lights) ≡ true
  pub sights : (name : List ℕ) → is_some (type_of name s.sights) ≡ true → is_some (type_of name t.sights) ≡ true

-- what each seat sees of the second scene may follow what it sees of the first
abbrev pub ViewsFollow : Scene → Scene → Type 0
ViewsFollow s t = (seat : ℕ) → FollowsView (view_of s seat) (view_of t seat)
