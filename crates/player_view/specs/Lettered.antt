-- Views of maps with the letters of a scene's maps.
use Rattle.std.specs.Prelude.{◌≡◌, ℕ, List, Some, All}
use Rattle.cells.specs.Cells.{Cells}
use Rattle.maps.specs.Maps.{Grid, map_of}
use Rattle.views.specs.Views.{KeepLetters}
use Rattle.views.specs.declared.view.MapView.{MapView}
use Rattle.player_view.specs.View.{letters_in, view_of}
use Rattle.world.specs.Scene.{Scene}

-- the cells that the view exposes have the letters of the map of its name
abbrev pub HasLetters : List Grid → MapView → Type 0
HasLetters maps v = (m : Grid) → map_of v.name maps ≡ Some m → v.letters ≡ letters_in m v.exposed

abbrev pub HaveLetters : List Grid → List MapView → Type 0
HaveLetters maps views = All (HasLetters maps) views

-- a map that is there before and after has the same letters
abbrev pub SameLetters : List Grid → List Grid → Type 0
SameLetters before after = (name : List ℕ) (m n : Grid) (cells : Cells) → map_of name before ≡ Some m → map_of name after ≡ Some n → letters_in n cells ≡ letters_in m cells

-- what each seat saw has the letters that the maps have now, and they follow from what is exposed
pub record LettersStay (before after : Scene) : Type 0 where
  pub had : (seat : ℕ) → HaveLetters after.maps (view_of before seat).maps
  pub kept : (seat : ℕ) → KeepLetters (view_of before seat).maps (view_of after seat).maps
