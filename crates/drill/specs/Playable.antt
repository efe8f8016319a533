-- A script as what reads it cuts it: whole lines, each of a seat of the campaign, and none too long.
use Rattle.std.specs.Prelude.{◌≡◌, ◌<◌, ◌≤◌, ℕ, List, [], ◌∷◌, ◌++◌, length, decimal}
use Rattle.std.specs.List.{AllByRecursion, flat_map}
use Rattle.json_fields.specs.Lines.{IsOneLine}

-- a seat's number, and the bytes of its command
pub record SeatLine : Type 0 where
  pub seat : ℕ
  pub command : List ℕ

-- the seat's number, a space, the command, and the line's end
abbrev pub with_end : SeatLine → List ℕ
with_end line = decimal line.seat ++ 32 ∷ (line.command ++ 10 ∷ [])

-- it is one of the five seats, and the command has at most 4,096 bytes, of which none ends the line
pub record IsPlayable (line : SeatLine) : Type 0 where
  pub seat : line.seat < 5
  pub few : length line.command ≤ 4096
  pub one_line : IsOneLine line.command

-- the text is so many such lines, and nothing else
pub record IsOfLines (count : ℕ) (text : List ℕ) : Type 0 where
  pub lines : List SeatLine
  pub text_is : text ≡ flat_map with_end lines
  pub count_is : length lines ≡ count
  pub playable : AllByRecursion IsPlayable lines
