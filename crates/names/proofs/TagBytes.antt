-- Tags are ASCII.
use Rattle.std.proofs.Common.{◌≡◌, ℕ, ◌<◌, Bool, true, false, ◌&&◌, List, [], ◌∷◌, length, refl, arith, leb}
use Rattle.std.specs.Prelude.{IsUtf8}
use Rattle.std.specs.List.{list_all}
use Rattle.std.specs.Str.{IsAscii}
use Rattle.std.proofs.lemmas.Str.{IsUtf8-from_ascii}
use Rattle.std.proofs.lemmas.Str.Ascii.{IsAscii-nil, IsAscii-cons}
use Rattle.std.proofs.lemmas.Bool.Decides.{nat_tests}
use Rattle.names.specs.Tag.{is_tag, is_tag_byte}

tag_byte_is_ascii : (byte : ℕ) → is_tag_byte byte ≡ true → byte < 128
tag_byte_is_ascii byte h = grind (arith, nat_tests)

and_first : (x y : Bool) → (x && y) ≡ true → x ≡ true
and_first true y h = refl
and_first false y h = h

and_second : (x y : Bool) → (x && y) ≡ true → y ≡ true
and_second true y h = h
and_second false y h = cc

tag_bytes_are_ascii : (bytes : List ℕ) → list_all is_tag_byte bytes ≡ true → IsAscii bytes
tag_bytes_are_ascii [] h = IsAscii-nil
tag_bytes_are_ascii (b ∷ bs) h =
    IsAscii-cons b bs (tag_byte_is_ascii b (and_first (is_tag_byte b) (list_all is_tag_byte bs) h)) (tag_bytes_are_ascii bs (and_second (is_tag_byte b) (list_all is_tag_byte bs) h))

pub tag_is_utf8 : (bytes : List ℕ) → is_tag bytes ≡ true → IsUtf8 bytes
unfolding is_tag
tag_is_utf8 bytes h = IsUtf8-from_ascii bytes (tag_bytes_are_ascii bytes (and_second (leb 1 (length bytes) && leb (length bytes) 24) (list_all is_tag_byte bytes) h))
