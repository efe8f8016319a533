-- Each line of a drill's script is of one of its seats, and none is too long.
use Rattle.std.proofs.Common.{◌≡◌, ℕ, zero, suc, ◌+◌, ◌-◌, ◌^◌, ◌==◌, ◌≤◌, ◌<◌, Bool, true, false, cond, List, [], ◌∷◌, ◌++◌, length-append, refl, sym, subst, ap, ◌∙◌, arith}
use Rattle.std.specs.List.{AllByRecursion, flat_map, range_with_len}
use Rattle.std.proofs.lemmas.Grind.{flat_map-append}
use Rattle.rand_chacha.specs.Block.{block_word}
use Rattle.seat_random.specs.Stream.{shown, word_of}
use Rattle.serde_json.specs.Data.{Data}
use Rattle.serde_json.specs.Written.{compact_text}
use Rattle.cells.specs.declared.cell.Cell.{Cell}
use Rattle.json_fields.proofs.OneLine.{IsOneLine-compact_text}
use Rattle.drill.specs.Draws.{draw}
use Rattle.drill.specs.Script.{Course, Made, after, drawn, drill_script, first_course, gm_line, hello, hellos_text, line_after, lines_after, move, move_line, one_of_two, place, player_line, script_line, step_from, token_cell, wall}
use Rattle.drill.specs.Playable.{IsOfLines, IsPlayable, SeatLine, with_end}
use Rattle.drill.proofs.Sizes.{length-compact_text, length-decimal, room}

-- ---- commands

-- there is room for the command in a line
abbrev IsSmall : Data → Type 0
IsSmall command = room command ≤ 4096

hello_small : (seat : ℕ) → IsSmall (hello seat)
hello_small seat = omega (arith, length-decimal seat)

place_small : (k x y : ℕ) → IsSmall (place k x y)
place_small k x y = omega (arith, length-decimal k)

wall_small : (ax ay : ℕ) → IsSmall (wall ax ay)
wall_small ax ay = omega arith

move_small : (k : ℕ) (cell : Cell) → IsSmall (move k cell)
move_small k cell = omega (arith, length-decimal k)

-- ---- a line

-- its seat is one of the five, and there is room for its command
pub record IsFit (made : Made) : Type 0 where
  pub seat : made.seat < 5
  pub small : IsSmall made.command

either_fit : (b : Bool) (x y : Made) → IsFit x → IsFit y → IsFit (cond b x y)
either_fit true x y h k = h
either_fit false x y h k = k

word_bound : (n : ℕ) (key : List ℕ) (counter nonce k : ℕ) → block_word n key counter nonce k < 2 ^ 32
unfolding block_word
word_bound n key counter nonce k = omega arith

-- a draw of five numbers
draw_bound : (n place : ℕ) → draw n place 5 < 5
unfolding draw word_of
draw_bound n place = below (word_bound _ _ _ _ _)
  where
    below : {word : ℕ} → word < 2 ^ 32 → shown word 5 - 1 < 5
    below h = omega (arith, h)

gm_fit : (c : Course) (kind : ℕ) → IsFit (gm_line c kind)
gm_fit c kind =
    either_fit (kind == 0) _ _ (record { seat = omega arith; small = place_small (8 + drawn c 32) (drawn (after c) 96) (drawn (after (after c)) 96) })
    (either_fit (kind == 1) _ _ (record { seat = omega arith; small = wall_small (drawn c 191) (drawn (after c) 191) })
    (either_fit (kind == 2) _ _ (record { seat = omega arith; small = omega arith }) (record { seat = omega arith; small = omega arith })))

move_fit : (c : Course) (seat : ℕ) → seat < 5 → IsFit (move_line c seat)
move_fit c seat few =
    let k : ℕ = one_of_two seat (drawn c 2) in
    record { seat = few; small = move_small k (step_from (token_cell c k) (drawn (after c) 3) (drawn (after (after c)) 3)) }

player_fit : (c : Course) (seat kind : ℕ) → seat < 5 → IsFit (player_line c seat kind)
player_fit c seat kind few =
    either_fit (kind == 2) _ _ (record { seat = few; small = omega arith })
    (either_fit (kind == 3) _ (move_line c seat) (record { seat = few; small = omega arith }) (move_fit c seat few))

line_fit : (c : Course) → IsFit (line_after c)
unfolding line_after
line_fit c =
    let on : Course = after (after c) in
    let seat : ℕ = drawn c 5 in
    let kind : ℕ = drawn (after c) 4 in
    either_fit (seat == 0) (gm_line on kind) (player_line on seat kind) (gm_fit on kind) (player_fit on seat kind (draw_bound c.number c.next))

abbrev line_with : ℕ → Data → SeatLine
line_with seat command = record { seat = seat; command = compact_text command }

playable : (seat : ℕ) (command : Data) → seat < 5 → IsSmall command → IsPlayable (line_with seat command)
playable seat command few small = record {
  seat = few;
  few = omega (arith, small, length-compact_text command);
  one_line = IsOneLine-compact_text command;
}

-- ---- line after line

no_lines : IsOfLines 0 []
no_lines = record { lines = []; text_is = refl; count_is = refl; playable = tt }

line_more : (seat : ℕ) (command : Data) (count : ℕ) (text : List ℕ) → seat < 5 → IsSmall command → IsOfLines count text → IsOfLines (suc count) (script_line seat command ++ text)
line_more seat command count text few small rest = record {
  lines = line_with seat command ∷ rest.lines;
  text_is = ap (λ t. script_line seat command ++ t) rest.text_is;
  count_is = ap suc rest.count_is;
  playable = (playable seat command few small, rest.playable);
}

hellos_are : (count from : ℕ) → from + count ≤ 5 → IsOfLines count (flat_map (λ seat. script_line seat (hello seat)) (range_with_len from count))
hellos_are zero from few = no_lines
hellos_are (suc count) from few = line_more from (hello from) count _ (omega (arith, few)) (hello_small from) (hellos_are count (from + 1) (omega (arith, few)))

others_are : (c : Course) (count : ℕ) → IsOfLines count (lines_after c count)
unfolding lines_after
others_are c zero = no_lines
others_are c (suc count) =
    let made : Made = line_after c in
    let fit : IsFit made = line_fit c in
    line_more made.seat made.command count (lines_after made.course count) fit.seat fit.small (others_are made.course count)

all_both : {X : Type 0} (P : X → Type 0) (xs ys : List X) → AllByRecursion P xs → AllByRecursion P ys → AllByRecursion P (xs ++ ys)
all_both P [] ys h k = k
all_both P (x ∷ xs) ys h k = (h.0, all_both P xs ys h.1 k)

both_are : (m n : ℕ) (s t : List ℕ) → IsOfLines m s → IsOfLines n t → IsOfLines (m + n) (s ++ t)
both_are m n s t front back = record {
  lines = front.lines ++ back.lines;
  text_is = (λ i. front.text_is i ++ back.text_is i) ∙ sym (flat_map-append with_end front.lines back.lines);
  count_is = omega (arith, length-append front.lines back.lines, front.count_is, back.count_is);
  playable = all_both IsPlayable front.lines back.lines front.playable back.playable;
}

script_are : (n lines : ℕ) → IsOfLines (5 + (lines - 5)) (drill_script n lines)
unfolding drill_script
script_are n lines = both_are 5 (lines - 5) (hellos_text 5) (lines_after (first_course n) (lines - 5)) (hellos_are 5 0 (omega arith)) (others_are (first_course n) (lines - 5))

pub script_of_lines : (n lines : ℕ) (text : List ℕ) → 5 ≤ lines → text ≡ drill_script n lines → IsOfLines lines text
script_of_lines n lines text least is =
    let count : 5 + (lines - 5) ≡ lines = omega (arith, least) in
    subst (λ t. IsOfLines lines t) (sym is) (subst (λ k. IsOfLines k (drill_script n lines)) count (script_are n lines))
