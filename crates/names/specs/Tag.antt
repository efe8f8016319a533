-- What a tag is.
use Rattle.std.specs.Prelude.{ℕ, Bool, ◌&&◌, ◌||◌, ◌==◌, nat_le, List, ◌++◌, ◌-◌, length, replicate, if◌then◌else◌, Option, Some, None}
use Rattle.std.specs.declared.cmp.Ordering.{Ordering}
use Rattle.std.specs.Ordering.{nat_cmp}
use Rattle.std.specs.Cmp.Lexicographic.{slice_cmp}
use Rattle.std.specs.List.{list_all}
use Rattle.std.specs.Char.{is_ascii_digit, is_ascii_lowercase}

-- how many bytes a tag has at most
abbrev pub tag_limit : ℕ
tag_limit = 24

-- a to z, 0 to 9, or _ (95)
abbrev pub is_tag_byte : ℕ → Bool
is_tag_byte byte = is_ascii_lowercase byte || is_ascii_digit byte || byte == 95

-- 1 to 24 bytes of a to z, 0 to 9 and _
unfoldable pub is_tag : List ℕ → Bool
is_tag bytes = nat_le 1 (length bytes) && nat_le (length bytes) tag_limit && list_all is_tag_byte bytes

-- the tag that these bytes are, if they are one
unfoldable pub tag_of : List ℕ → Option (List ℕ)
tag_of bytes = if is_tag bytes then Some bytes else None

-- the order of tags: by bytes, and a front of a tag before the tag
abbrev pub tag_cmp : List ℕ → List ℕ → Ordering
tag_cmp = slice_cmp nat_cmp

-- the bytes, and then zeros up to the limit
abbrev pub padded : List ℕ → List ℕ
padded bytes = bytes ++ replicate (tag_limit - length bytes) 0
