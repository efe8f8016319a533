-- What the campaign text takes of a world where no type keeps it: names and sizes of tokens, keys and macros of seats.
use Rattle.std.specs.Prelude.{ℕ, ◌≡◌, ◌&&◌, not, nat_le, Bool, true, List, length, is_ok}
use Rattle.std.specs.List.{list_all}
use Rattle.lights.specs.Radii.{is_dark}
use Rattle.tokens.specs.declared.token.Token.{Token}
use Rattle.macro_parse.specs.Answers.{macro_of}
use Rattle.seats.specs.Book.{Book}
use Rattle.campaign_json.specs.declared.formats.Format.{Format}
use Rattle.campaign_json.specs.declared.formats.Format.TheVariants.{First, Second}
use Rattle.world.specs.World.{World}

-- a token's name has 1 to 40 bytes, and it is 1 to 4 cells wide
abbrev pub is_written_token : List ℕ → ℕ → Bool
is_written_token name size = nat_le 1 (length name) && (nat_le (length name) 40 && (nat_le 1 size && nat_le size 4))

abbrev pub are_written_tokens : List Token → Bool
are_written_tokens tokens = list_all (λ t. is_written_token t.name t.size) tokens

-- a key has 1 to 64 bytes
abbrev pub is_written_key : List ℕ → Bool
is_written_key key = nat_le 1 (length key) && nat_le (length key) 64

abbrev pub are_written_keys : List Book → Bool
are_written_keys books = list_all (λ b. is_written_key b.key) books

-- a macro's text has at most 2,000 bytes, and is one of the grammar of macros with dice within their limits
abbrev pub is_written_text : List ℕ → Bool
is_written_text text = nat_le (length text) 2000 && is_ok (macro_of text)

abbrev pub are_written_texts : List (List ℕ × List ℕ) → Bool
are_written_texts macros = list_all (λ named. is_written_text named.1) macros

abbrev pub are_written_macros : List Book → Bool
are_written_macros books = list_all (λ b. are_written_texts b.macros) books

pub record IsWritten (w : World) : Type 0 where
  pub tokens : are_written_tokens w.scene.tokens ≡ true
  pub keys : are_written_keys w.books ≡ true
  pub macros : are_written_macros w.books ≡ true

-- ---- formats

-- what the first format takes of a world: no map has a trail, and no light type is a darkness
pub record IsOfFirst (w : World) : Type 0 where
  pub trails : list_all (λ m. not m.trail) w.scene.maps ≡ true
  pub darknesses : list_all (λ light. not (is_dark light.1)) w.scene.lights ≡ true

-- what a format takes: the second takes every world
abbrev pub IsOfFormat : Format → World → Type 0
IsOfFormat First w = IsOfFirst w
IsOfFormat Second w = Unit {0}
