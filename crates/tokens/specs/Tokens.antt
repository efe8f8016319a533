-- Tokens, and tables of tokens in order of ids.
use Rattle.std.specs.Prelude.{◌<◌, ◌≤◌, ℕ, ◌+◌, Bool, not, ◌&&◌, nat_le, List, [], ◌∷◌, map, Option, is_some, if◌then◌else◌}
use Rattle.std.specs.List.{filter, find}
use Rattle.std.specs.Ordering.{is_lt}
use Rattle.std.specs.FinMap.Entries.{is_sorted}
use Rattle.names.specs.declared.kinds.Layer.{Layer}
use Rattle.names.specs.declared.kinds.PropClass.{PropClass}
use Rattle.names.specs.declared.kinds.PropClass.TheVariants.{Public, Own, Secret}
use Rattle.names.specs.declared.token_id.TokenId.{TokenId}
use Rattle.names.specs.TokenId.{id_cmp, id_eq}
use Rattle.cells.specs.declared.cell.Cell.{Cell}
use Rattle.lattice.specs.Coordinates.{Coordinates, square_centre_of}
use Rattle.tokens.specs.Owners.{with_owner}
use Rattle.tokens.specs.Properties.{Property, with_value}
use Rattle.tokens.specs.declared.token.Token.{Token}

-- ---- one token

-- the token covers the cell in column x and row y: the square of cells of its size that begins at its cell has it
abbrev pub covers : Token → ℕ → ℕ → Bool
covers t x y = nat_le t.cell.x x && nat_le (x + 1) (t.cell.x + t.size) && nat_le t.cell.y y && nat_le (y + 1) (t.cell.y + t.size)

-- the same in words
pub record Covers (t : Token) (x y : ℕ) : Type 0 where
  pub left : t.cell.x ≤ x
  pub right : x < t.cell.x + t.size
  pub above : t.cell.y ≤ y
  pub under : y < t.cell.y + t.size

-- where a token looks from, and where its light is: the centre of its square
abbrev pub eye_of : Token → Coordinates
eye_of t = square_centre_of t.cell.x t.cell.y t.size

-- the properties of a class
abbrev pub props_of : PropClass → Token → List Property
props_of Public t = t.public
props_of Own t = t.own
props_of Secret t = t.secret

-- the token with other properties of a class
abbrev pub with_props : PropClass → List Property → Token → Token
with_props Public props t = record t { public = props }
with_props Own props t = record t { own = props }
with_props Secret props t = record t { secret = props }

-- ---- what a call makes of one token

abbrev pub placed : List ℕ → Cell → Token → Token
placed name cell t = record t { map = name; cell = cell }

abbrev pub on_layer : Layer → Token → Token
on_layer layer t = record t { layer = layer }

abbrev pub shown_if : Bool → Token → Token
shown_if on t = record t { visible = on }

abbrev pub owned_by : ℕ → Bool → Token → Token
owned_by seat on t = record t { owners = with_owner t.owners seat on }

abbrev pub with_sight : Option (List ℕ) → Token → Token
with_sight sight t = record t { sight = sight }

abbrev pub with_light : Option (List ℕ) → Token → Token
with_light light t = record t { light = light }

abbrev pub with_prop : PropClass → List ℕ → List ℕ → Token → Token
with_prop class name value t = with_props class (with_value name value (props_of class t)) t

-- ---- tables

abbrev pub has_id : TokenId → Token → Bool
has_id id t = id_eq t.id id

-- the ids rise: no id is there twice
abbrev pub in_order : List Token → Bool
in_order tokens = is_sorted id_cmp (map (λ t. (t.id, t)) tokens)

-- the token of that id
abbrev pub token_of : TokenId → List Token → Option Token
token_of id tokens = find (has_id id) tokens

-- a token of that id is there
abbrev pub has_token : TokenId → List Token → Bool
has_token id tokens = is_some (token_of id tokens)

-- the token of that id becomes f of it, and all others stay
abbrev pub changed : TokenId → (Token → Token) → List Token → List Token
changed id f tokens = map (λ t. if has_id id t then f t else t) tokens

-- the tokens without the one of that id
abbrev pub without : TokenId → List Token → List Token
without id tokens = filter (λ t. not (has_id id t)) tokens

-- the token stands at this id or behind it
abbrev pub is_behind : TokenId → Token → Bool
is_behind id t = not (is_lt (id_cmp t.id id))

-- the tokens with one more, before the first of a greater id
abbrev pub put : Token → List Token → List Token
put token [] = token ∷ []
put token (t ∷ ts) = if is_lt (id_cmp t.id token.id) then t ∷ put token ts else token ∷ t ∷ ts
