-- The lines that a history sends, each behind its seat.
use Rattle.std.specs.Prelude.{◌≡◌, ℕ, zero, suc, ◌==◌, decimal, List, [], ◌∷◌, ◌++◌, if◌then◌else◌, Option, Some, None}
use Rattle.std.specs.List.{flat_map, filter_map}
use Rattle.line_io.specs.Lines.{lines_of}
use Rattle.campaign_law.specs.declared.entry.Entry.{Entry}
use Rattle.campaign_law.specs.World.{World, lines_of as entry_lines, step}
use Rattle.campaign_law.specs.Law.{bytes_of}

-- a seat's number and TAB
abbrev pub seat_tag : ℕ → List ℕ
seat_tag seat = decimal seat ++ 9 ∷ []

-- a line behind its seat, with its LF
abbrev pub tagged_line : ℕ → List ℕ → List ℕ
tagged_line seat line = seat_tag seat ++ (line ++ 10 ∷ [])

abbrev pub tagged_lines : ℕ → List (List ℕ) → List ℕ
tagged_lines seat lines = flat_map (tagged_line seat) lines

-- what an entry sends to the seats below this number, in ascending order
abbrev pub entry_text_below : World → Entry → ℕ → List ℕ
entry_text_below w e zero = []
entry_text_below w e (suc seat) = entry_text_below w e seat ++ tagged_lines seat (entry_lines w e seat)

-- what an entry sends, to the seats 0 to 32
unfoldable pub entry_text : World → Entry → List ℕ
entry_text w e = entry_text_below w e 33

-- what a history sends, entry by entry
abbrev pub tagged : World → List Entry → List ℕ
tagged w [] = []
tagged w (e ∷ es) = entry_text w e ++ tagged (step w e) es

-- a text of whole lines: each has its LF
pub record IsWholeLines (text : List ℕ) : Type 0 where
  pub lines : List (List ℕ)
  pub is : text ≡ bytes_of lines

-- what a line has behind this front; none, where it begins otherwise
abbrev pub behind : List ℕ → List ℕ → Option (List ℕ)
behind [] line = Some line
behind (first ∷ front) [] = None
behind (first ∷ front) (byte ∷ line) = if first == byte then behind front line else None

-- the lines of a text that begin with a seat's number and TAB, without these
unfoldable pub lines_behind : ℕ → List ℕ → List (List ℕ)
lines_behind seat text = filter_map (behind (seat_tag seat)) (lines_of text)
