-- What the numbers and texts of a command keep to, by the table of commands.
use Rattle.std.specs.Prelude.{◌≡◌, ◌≢◌, ◌≤◌, ◌≤ℤ◌, ℕ, true, length, ℤ, pos, negsuc, List, IfSome}
use Rattle.std.specs.List.{AllByRecursion}
use Rattle.names.specs.Letters.{is_letter}
use Rattle.names.specs.declared.kinds.PropClass.TheVariants.{Secret as SecretClass}
use Rattle.command_json.specs.Fields.{least_place, most_place, least_radius, most_radius, least_value, most_value}
use Rattle.command_json.specs.declared.command.Command.{Command}
use Rattle.command_json.specs.declared.command.Command.TheVariants as C

-- a number from least to most
pub record IsWithin (least most n : ℕ) : Type 0 where
  pub at_least : least ≤ n
  pub at_most : n ≤ most

-- a whole number from least to most
abbrev pub IsNumber : ℕ → ℕ → ℤ → Type 0
IsNumber least most (pos n) = IsWithin least most n
IsNumber least most (negsuc n) = ⊥

-- a text of least to most bytes
abbrev pub IsText : ℕ → ℕ → List ℕ → Type 0
IsText least most text = IsWithin least most (length text)

-- at most 8 texts of 0 to 200 bytes
pub record AreArgs (args : List (List ℕ)) : Type 0 where
  pub count : IsWithin 0 8 (length args)
  pub texts : AllByRecursion (IsText 0 200) args

-- a whole number from least to most, which may be negative
pub record IsBetween (least most z : ℤ) : Type 0 where
  pub at_least : least ≤ℤ z
  pub at_most : z ≤ℤ most

-- x or y of a cell or a point
abbrev pub IsCoordinate : ℤ → Type 0
IsCoordinate = IsBetween least_place most_place

-- x and y of a cell or a point
pub record IsPlace (place : ℤ × ℤ) : Type 0 where
  pub x : IsCoordinate place.0
  pub y : IsCoordinate place.1

-- 1 to 64 cells
pub record IsPath (path : List (ℤ × ℤ)) : Type 0 where
  pub count : IsWithin 1 64 (length path)
  pub cells : AllByRecursion IsPlace path

-- x and y of a rectangle are those of a cell, and its width and height are 1 to 96
pub record IsRect (rect : ℤ × ℤ × ℤ × ℤ) : Type 0 where
  pub x : IsCoordinate rect.0
  pub y : IsCoordinate rect.1
  pub w : IsNumber 1 96 rect.2
  pub h : IsNumber 1 96 rect.3

-- a letter of terrain
abbrev pub IsLetter : ℕ → Type 0
IsLetter letter = is_letter letter ≡ true

-- the command's numbers and texts are as the table of commands has them
abbrev pub IsCommand : Command → Type 0
IsCommand (C.Hello seat key) = IsText 1 64 key
IsCommand (C.Say text to) = IsText 1 1000 text
IsCommand (C.Roll dice to) = IsText 1 200 dice
IsCommand (C.Macro name args to) = AreArgs args
IsCommand (C.Setmacro name text) = IfSome text (IsText 0 2000)
IsCommand (C.Move token path) = IsPath path
IsCommand (C.Setprop token class name value) = (class ≢ SecretClass) × IsText 0 200 value
IsCommand (C.Make tag map cell name) = IsText 1 40 name × IsPlace cell
IsCommand (C.Map name w h) = IsNumber 1 96 w × IsNumber 1 96 h
IsCommand (C.Terrain map rect kind) = IsRect rect × IsLetter kind
IsCommand (C.Wall map kind a b) = IsPlace a × IsPlace b
IsCommand (C.Unwall map kind a b) = IsPlace a × IsPlace b
IsCommand (C.Lighttype name radius) = IsBetween least_radius most_radius radius
IsCommand (C.Sighttype name range night mult) = IsNumber 0 1000 range × IsNumber 0 1000 night × IsNumber 0 1000 mult
IsCommand (C.Token tag map cell name size layer) = IsText 1 40 name × IsNumber 1 4 size × IsPlace cell
IsCommand (C.Place token map cell) = IsPlace cell
IsCommand (C.Secret token name value) = IsText 0 200 value
IsCommand (C.Expose seat map rect) = IsRect rect
IsCommand (C.Hide seat map rect) = IsRect rect
IsCommand (C.Init token value) = IsBetween least_value most_value value
IsCommand c = Unit {0}
