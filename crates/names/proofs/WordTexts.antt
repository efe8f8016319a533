-- Reading a word gives the value that has it, and the word of a value is read back.
use Rattle.std.proofs.Common.{◌≡◌, ℕ, Bool, true, false, cond, List, [], ◌∷◌, Some, refl, sym, ◌∙◌, ap}
use Rattle.std.specs.Prelude.{unwrap_or}
use Rattle.std.specs.Str.{bytes_eq}
use Rattle.std.proofs.lemmas.Slice.Eq.{bytes_eq-Decides}
use Rattle.names.specs.declared.kinds.Mode.{Mode}
use Rattle.names.specs.declared.kinds.Mode.TheVariants.{Off, Day, Night}
use Rattle.names.specs.declared.kinds.Layer.{Layer}
use Rattle.names.specs.declared.kinds.Layer.TheVariants.{Token, Hidden, Object, Background}
use Rattle.names.specs.declared.kinds.PropClass.{PropClass}
use Rattle.names.specs.declared.kinds.PropClass.TheVariants.{Public, Own}
use Rattle.names.specs.declared.kinds.WallKind.{WallKind}
use Rattle.names.specs.declared.kinds.WallKind.TheVariants.{Vbl, Mbl}
use Rattle.names.specs.Words.{named, mode_word, mode_of, layer_word, layer_of, wall_word, wall_of, class_word, class_of}

same_some : {A : Type 0} (a b : A) → Some a ≡ Some b → a ≡ b
same_some a b h = ap (λ o. unwrap_or o a) h

first_named : {A : Type 0} (word : A → List ℕ) (first : A) (values : List A) (text : List ℕ) (value : A) (t : Bool) → bytes_eq (word first) text ≡ t → (named word values text ≡ Some value → word value ≡ text) → cond t (Some first) (named word values text) ≡ Some value → word value ≡ text
first_named word first values text value true e later k = sym (ap word (same_some first value k)) ∙ (bytes_eq-Decides (word first) text).0 e
first_named word first values text value false e later k = later k

-- what is named by a text has it as its word
pub word-named : {A : Type 0} (word : A → List ℕ) (values : List A) (text : List ℕ) (value : A) → named word values text ≡ Some value → word value ≡ text
word-named word [] text value h = cc
word-named word (first ∷ values) text value h =
    first_named word first values text value (bytes_eq (word first) text) refl (λ k. word-named word values text value k) h

pub mode_of-mode_word : (mode : Mode) → mode_of (mode_word mode) ≡ Some mode
unfolding mode_of mode_word
mode_of-mode_word Off = refl
mode_of-mode_word Day = refl
mode_of-mode_word Night = refl

pub mode_word-mode_of : (text : List ℕ) (mode : Mode) → mode_of text ≡ Some mode → mode_word mode ≡ text
unfolding mode_of
mode_word-mode_of text mode h = word-named mode_word (Off ∷ Day ∷ Night ∷ []) text mode h

pub layer_of-layer_word : (layer : Layer) → layer_of (layer_word layer) ≡ Some layer
unfolding layer_of layer_word
layer_of-layer_word Token = refl
layer_of-layer_word Hidden = refl
layer_of-layer_word Object = refl
layer_of-layer_word Background = refl

pub layer_word-layer_of : (text : List ℕ) (layer : Layer) → layer_of text ≡ Some layer → layer_word layer ≡ text
unfolding layer_of
layer_word-layer_of text layer h = word-named layer_word (Token ∷ Hidden ∷ Object ∷ Background ∷ []) text layer h

pub wall_of-wall_word : (kind : WallKind) → wall_of (wall_word kind) ≡ Some kind
unfolding wall_of wall_word
wall_of-wall_word Vbl = refl
wall_of-wall_word Mbl = refl

pub wall_word-wall_of : (text : List ℕ) (kind : WallKind) → wall_of text ≡ Some kind → wall_word kind ≡ text
unfolding wall_of
wall_word-wall_of text kind h = word-named wall_word (Vbl ∷ Mbl ∷ []) text kind h

pub class_word-class_of : (text : List ℕ) (class : PropClass) → class_of text ≡ Some class → class_word class ≡ text
unfolding class_of
class_word-class_of text class h = word-named class_word (Public ∷ Own ∷ []) text class h
