-- The script of a drill: one line for each command, a seat's number, a space and the command as compact JSON.
use Rattle.std.specs.Prelude.{ℕ, zero, suc, ◌+◌, ◌-◌, ◌*◌, ◌<◌, ◌==◌, ◌&&◌, List, [], ◌∷◌, ◌++◌, codes, decimal, if◌then◌else◌, slice_index_or, slice_set}
use Rattle.std.specs.List.{range_with_len, flat_map}
use Rattle.cells.specs.declared.cell.Cell.{Cell}
use Rattle.serde_json.specs.Data.{Data, string, object, no_members, member}
use Rattle.serde_json.specs.Written.{compact_text}
use Rattle.drill.specs.Values.{whole, wholes, list}
use Rattle.drill.specs.Draws.{draw}
use Rattle.drill.specs.Numbered.{cells_up_to, tag_at}

-- ---- commands

-- a line of a script, with its end
abbrev pub script_line : ℕ → Data → List ℕ
script_line seat command = decimal seat ++ 32 ∷ (compact_text command ++ 10 ∷ [])

abbrev pub hello : ℕ → Data
hello seat = object (member (codes "do") (string (codes "hello")) (member (codes "key") (string (codes "k" ++ decimal seat)) (member (codes "seat") (whole seat) no_members)))

-- the id of the token of number k
abbrev pub token_text : ℕ → Data
token_text k = string (codes "0:" ++ tag_at k)

abbrev pub place : ℕ → ℕ → ℕ → Data
place k x y =
    object (member (codes "cell") (wholes (x ∷ y ∷ [])) (member (codes "do") (string (codes "place")) (member (codes "map") (string (codes "drill")) (member (codes "token") (token_text k) no_members))))

-- a wall two half cells to the right
abbrev pub wall : ℕ → ℕ → Data
wall ax ay =
    object (member (codes "a") (wholes (ax ∷ ay ∷ [])) (member (codes "b") (wholes ((ax + 2) ∷ (ay ∷ [])))
    (member (codes "do") (string (codes "wall")) (member (codes "kind") (string (codes "vbl")) (member (codes "map") (string (codes "drill")) no_members)))))

abbrev pub say : Data
say = object (member (codes "do") (string (codes "say")) (member (codes "text") (string (codes "hello")) (member (codes "to") (string (codes "all")) no_members)))

abbrev pub roll : List ℕ → List ℕ → Data
roll dice to = object (member (codes "dice") (string dice) (member (codes "do") (string (codes "roll")) (member (codes "to") (string to) no_members)))

abbrev pub move : ℕ → Cell → Data
move k cell = object (member (codes "do") (string (codes "move")) (member (codes "path") (list (wholes (cell.x ∷ cell.y ∷ []) ∷ [])) (member (codes "token") (token_text k) no_members)))

-- ---- moves

-- from a part of a cell by a drawn part of a step: 0 is one back, 1 none, 2 one on; one that would leave the map is negated
abbrev pub stepped : ℕ → ℕ → ℕ
stepped at part = if part == 1 then at else if part == 0 then (if at == 0 then 1 else at - 1) else (if at == 95 then 94 else at + 1)

-- where both drawn parts are none, the first is one on
abbrev pub first_part : ℕ → ℕ → ℕ
first_part dx dy = if dx == 1 && dy == 1 then 2 else dx

-- a step by the drawn parts
abbrev pub step_from : Cell → ℕ → ℕ → Cell
step_from cell dx dy = record { x = stepped cell.x (first_part dx dy); y = stepped cell.y dy }

-- ---- line after line

-- the cell is one of a map of 96 by 96 cells
abbrev pub IsOnMap : Cell → Type 0
IsOnMap cell = (cell.x < 96) × (cell.y < 96)

-- the drill's number, the place of the next draw, and the cells of the owned tokens
pub record Course : Type 0 where
  pub number : ℕ
  pub next : ℕ
  pub cells : List Cell

-- a seat's command, and what it leaves
pub record Made : Type 0 where
  pub seat : ℕ
  pub command : Data
  pub course : Course

-- the next draw, of m numbers from 0 on
abbrev pub drawn : Course → ℕ → ℕ
drawn c m = draw c.number c.next m

-- one more draw was made
abbrev pub after : Course → Course
after c = record c { next = c.next + 1 }

-- the game master's command of a kind
abbrev pub gm_line : Course → ℕ → Made
gm_line c kind =
    if kind == 0 then record { seat = 0; command = place (8 + drawn c 32) (drawn (after c) 96) (drawn (after (after c)) 96); course = after (after (after c)) }
    else if kind == 1 then record { seat = 0; command = wall (drawn c 191) (drawn (after c) 191); course = after (after c) }
    else if kind == 2 then record { seat = 0; command = say; course = c }
    else record { seat = 0; command = roll (codes "2d6") (codes "gm"); course = c }

-- the cell of the owned token of number k
abbrev pub token_cell : Course → ℕ → Cell
token_cell c k = slice_index_or c.cells k (record { x = 0; y = 0 })

-- the token of number k moves to the cell
abbrev pub moved : Course → ℕ → ℕ → Cell → Made
moved c seat k cell = record { seat = seat; command = move k cell; course = record c { cells = slice_set c.cells k cell } }

-- the number of one of the two tokens of a player
abbrev pub one_of_two : ℕ → ℕ → ℕ
one_of_two seat drawn = (seat - 1) + 4 * drawn

-- a player moves one of its two tokens by a step
abbrev pub move_line : Course → ℕ → Made
move_line c seat =
    let k = one_of_two seat (drawn c 2) in
    moved (after (after (after c))) seat k (step_from (token_cell c k) (drawn (after c) 3) (drawn (after (after c)) 3))

-- a player's command of a kind
abbrev pub player_line : Course → ℕ → ℕ → Made
player_line c seat kind =
    if kind == 2 then record { seat = seat; command = roll (codes "4d6k3") (codes "self"); course = c }
    else if kind == 3 then record { seat = seat; command = say; course = c }
    else move_line c seat

abbrev pub line_of : Course → ℕ → ℕ → Made
line_of c seat kind = if seat == 0 then gm_line c kind else player_line c seat kind

-- a line: its first two draws are its seat and its kind
unfoldable pub line_after : Course → Made
line_after c = line_of (after (after c)) (drawn c 5) (drawn (after c) 4)

-- so many lines
unfoldable pub lines_after : Course → ℕ → List ℕ
lines_after c zero = []
lines_after c (suc count) = let made = line_after c in script_line made.seat made.command ++ lines_after made.course count

-- before the first of them the walls took 2,400 draws and the tokens 80; the first eight tokens are owned
abbrev pub first_course : ℕ → Course
first_course n = record { number = n; next = 2480; cells = cells_up_to n 8 }

-- the hellos of the first so many seats
abbrev pub hellos_text : ℕ → List ℕ
hellos_text count = flat_map (λ seat. script_line seat (hello seat)) (range_with_len 0 count)

-- the hellos of the seats 0 to 4, and then the other lines
unfoldable pub drill_script : ℕ → ℕ → List ℕ
drill_script n lines = hellos_text 5 ++ lines_after (first_course n) (lines - 5)
