-- The words of the small enumerations, as commands and campaigns write them.
use Rattle.std.specs.Prelude.{ℕ, List, [], ◌∷◌, Option, codes, find}
use Rattle.std.specs.Str.{bytes_eq}
use Rattle.names.specs.declared.kinds.Mode.{Mode}
use Rattle.names.specs.declared.kinds.Mode.TheVariants.{Off, Day, Night}
use Rattle.names.specs.declared.kinds.Layer.{Layer}
use Rattle.names.specs.declared.kinds.Layer.TheVariants.{Token, Hidden, Object, Background}
use Rattle.names.specs.declared.kinds.PropClass.{PropClass}
use Rattle.names.specs.declared.kinds.PropClass.TheVariants.{Public, Own, Secret}
use Rattle.names.specs.declared.kinds.WallKind.{WallKind}
use Rattle.names.specs.declared.kinds.WallKind.TheVariants.{Vbl, Mbl}

-- the one of these whose word the text is
abbrev pub named : {A : Type 0} → (A → List ℕ) → List A → List ℕ → Option A
named word values text = find (λ value. bytes_eq (word value) text) values

unfoldable pub mode_word : Mode → List ℕ
mode_word Off = codes "off"
mode_word Day = codes "day"
mode_word Night = codes "night"

unfoldable pub mode_of : List ℕ → Option Mode
mode_of = named mode_word (Off ∷ Day ∷ Night ∷ [])

unfoldable pub layer_word : Layer → List ℕ
layer_word Token = codes "token"
layer_word Hidden = codes "hidden"
layer_word Object = codes "object"
layer_word Background = codes "background"

unfoldable pub layer_of : List ℕ → Option Layer
layer_of = named layer_word (Token ∷ Hidden ∷ Object ∷ Background ∷ [])

unfoldable pub wall_word : WallKind → List ℕ
wall_word Vbl = codes "vbl"
wall_word Mbl = codes "mbl"

unfoldable pub wall_of : List ℕ → Option WallKind
wall_of = named wall_word (Vbl ∷ Mbl ∷ [])

unfoldable pub class_word : PropClass → List ℕ
class_word Public = codes "public"
class_word Own = codes "own"
class_word Secret = codes "secret"

-- the class that a command names by this word: no command names Secret by a word
unfoldable pub class_of : List ℕ → Option PropClass
class_of = named class_word (Public ∷ Own ∷ [])
