-- The text of a token's id: its maker in decimal, a colon, and its tag.
use Rattle.std.specs.Prelude.{◌≤◌, ◌≡◌, ℕ, ◌+◌, ◌*◌, ◌-◌, ◌==◌, ◌&&◌, nat_le, Bool, true, List, [], ◌∷◌, ◌++◌, if◌then◌else◌, Option, Some, None, option_map}
use Rattle.std.specs.List.{before_first, after_first}
use Rattle.std.specs.Char.{is_ascii_digit}
use Rattle.std.specs.Fmt.{decimal}
use Rattle.std.specs.Str.{bytes_eq}
use Rattle.std.specs.declared.cmp.Ordering.{Ordering}
use Rattle.std.specs.Ordering.{nat_cmp, on, then_cmp}
use Rattle.names.specs.declared.token_id.TokenId.{TokenId}
use Rattle.names.specs.Tag.{is_tag, tag_cmp}

abbrev pub colon : ℕ
colon = 58

abbrev pub is_colon : ℕ → Bool
is_colon byte = byte == colon

-- a seat's number and a tag
pub record IsTokenId (id : TokenId) : Type 0 where
  pub maker : id.maker ≤ 32
  pub tag : is_tag id.tag ≡ true

abbrev pub id_eq : TokenId → TokenId → Bool
id_eq a b = (a.maker == b.maker) && bytes_eq a.tag b.tag

-- the order of ids: by maker, then by tag
abbrev pub id_cmp : TokenId → TokenId → Ordering
id_cmp = then_cmp (on (λ id. id.maker) nat_cmp) (on (λ id. id.tag) tag_cmp)

unfoldable pub id_text : TokenId → List ℕ
id_text id = decimal id.maker ++ colon ∷ id.tag

abbrev pub number_of : ℕ → ℕ → ℕ
number_of tens ones = 10 * (tens - 48) + (ones - 48)

-- the seat's number that these bytes write in decimal: one digit, or two that begin with no 0 (48)
unfoldable pub maker_of : List ℕ → Option ℕ
maker_of [] = None
maker_of (ones ∷ []) = if is_ascii_digit ones then Some (number_of 48 ones) else None
maker_of (tens ∷ ones ∷ []) =
    if is_ascii_digit tens && is_ascii_digit ones && nat_le 49 tens && nat_le (number_of tens ones) 32 then Some (number_of tens ones)
    else None
maker_of (tens ∷ ones ∷ more ∷ rest) = None

-- the id of a maker in decimal and a tag
unfoldable pub id_of_parts : List ℕ → List ℕ → Option TokenId
id_of_parts maker tag = if is_tag tag then option_map (λ n. record { maker = n; tag = tag }) (maker_of maker) else None

-- the id whose text these bytes are, if there is one
unfoldable pub id_of : List ℕ → Option TokenId
id_of bytes = id_of_parts (before_first is_colon bytes) (after_first is_colon bytes)
