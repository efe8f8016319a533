-- A drill's script is played to its end in its world.
use Rattle.std.proofs.Common.{◌≡◌, ◌≢◌, ℕ, suc, ◌+◌, ◌≤◌, ◌<◌, Bool, true, false, ◌||◌, nat_lt, List, [], ◌∷◌, ◌++◌, length, Some, append_assoc, refl, sym, ◌∙◌, ap, subst, arith}
use Rattle.std.specs.Prelude.{All, decimal}
use Rattle.std.specs.List.{AllByRecursion, flat_map}
use Rattle.std.proofs.lemmas.Bool.Decides.{nat_tests}
use Rattle.std.proofs.lemmas.Fmt.{decimal_digit}
use Rattle.std.proofs.lemmas.List.Elements.{All-nil, All-cons}
use Rattle.line_io.specs.Lines.{HasNoLineEnd, lines_of}
use Rattle.line_io.specs.Script.{script_parts}
use Rattle.line_io.proofs.LinesLemmas.{lines_of-line, lines_of-nil}
use Rattle.line_io.proofs.ScriptRelation.{parts_of}
use Rattle.campaign_law.specs.declared.entry.Entry.{Entry}
use Rattle.campaign_law.specs.World.{World, replay}
use Rattle.campaign_law.proofs.States.{length-replay}
use Rattle.script_play.specs.Script.{Script, done, entry_of, entry_of_line, is_past_limits, script_from, script_of, with_takens}
use Rattle.script_play.proofs.Scripts.{followed, line_script, script_line, script_none}
use Rattle.drill.specs.Campaign.{world_with}
use Rattle.drill.specs.Playable.{IsOfLines, IsPlayable, SeatLine, with_end}
use Rattle.tabletop.specs.Drilled.{drill_origin}

-- ---- a line

-- without its end
abbrev bytes_of : SeatLine → List ℕ
bytes_of line = decimal line.seat ++ 32 ∷ line.command

all_from : (P : ℕ → Type 0) (xs : List ℕ) → AllByRecursion P xs → All P xs
all_from P [] h = All-nil P
all_from P (x ∷ xs) h = All-cons P x xs h.0 (all_from P xs h.1)

module _ (line : SeatLine) (playable : IsPlayable line) where
  digit : decimal line.seat ≡ (48 + line.seat) ∷ []
  digit = decimal_digit line.seat (omega (arith, playable.seat))

  has_no_end : HasNoLineEnd (bytes_of line)
  has_no_end =
      let ended : HasNoLineEnd ((48 + line.seat) ∷ 32 ∷ line.command) = all_from (λ byte. byte ≢ 10) ((48 + line.seat) ∷ 32 ∷ line.command) ((λ e. absurd (omega (arith, e))), ((λ e. absurd (omega (arith, e))), playable.one_line)) in
      subst (λ digits. HasNoLineEnd (digits ++ 32 ∷ line.command)) (sym digit) ended

  cut_first : (rest : List ℕ) → lines_of (with_end line ++ rest) ≡ bytes_of line ∷ lines_of rest
  cut_first rest =
      let digits : List ℕ = decimal line.seat in
      ap lines_of
      (append_assoc digits (32 ∷ (line.command ++ 10 ∷ [])) rest
      ∙ ap (λ t. digits ++ 32 ∷ t) (append_assoc line.command (10 ∷ []) rest)
      ∙ sym (append_assoc digits (32 ∷ line.command) (10 ∷ rest)))
      ∙ lines_of-line (bytes_of line) rest has_no_end

  either : (a b : Bool) → a ≡ false → b ≡ false → (a || b) ≡ false
  either false b h k = k
  either true b h k = cc

  is_within : (number : ℕ) → number ≤ 1000000 → is_past_limits number (bytes_of line) ≡ false
  is_within number few =
      let size : length (bytes_of line) ≡ suc (suc (length line.command)) = ap (λ digits. length (digits ++ 32 ∷ line.command)) digit in
      either (nat_lt 1000000 number) (nat_lt 4112 (length (bytes_of line))) (below 1000000 number few) (below 4112 (length (bytes_of line)) (omega (arith, size, playable.few)))
    where
      below : (most n : ℕ) → n ≤ most → nat_lt most n ≡ false
      below most n le = grind (arith, nat_tests)

  enters : (w : World) → length w.seats ≡ 5 → entry_of_line w (bytes_of line) ≡ Some (entry_of w line.seat line.command)
  enters w five =
      let parts : script_parts (bytes_of line) ≡ Some (line.seat, line.command) = parts_of (bytes_of line) line.seat line.command (record { text = refl; seat = omega (arith, playable.seat); command = playable.few }) in
      let there : nat_lt line.seat (length w.seats) ≡ true = is_there line.seat (length w.seats) (omega (arith, playable.seat, five)) in
      rw (parts, there) refl
    where
      is_there : (seat count : ℕ) → seat < count → nat_lt seat count ≡ true
      is_there seat count lt = grind (arith, nat_tests)

-- ---- line after line

lines_end : (lines : List SeatLine) (w : World) (number : ℕ) → AllByRecursion IsPlayable lines → length w.seats ≡ 5 → number + length lines ≤ 1000001 → (script_from w number (lines_of (flat_map with_end lines))).ending ≡ done
lines_end [] w number each five few = ap (λ ls. let s : Script = script_from w number ls in s.ending) lines_of-nil ∙ ap (λ (s : Script). s.ending) (script_none w number)
lines_end (line ∷ lines) w number each five few =
    let rest : List ℕ = flat_map with_end lines in
    let e : Entry = entry_of w line.seat line.command in
    let now : World = replay w (with_takens w e) in
    let cut : lines_of (with_end line ++ rest) ≡ bytes_of line ∷ lines_of rest = cut_first line each.0 rest in
    let within : is_past_limits number (bytes_of line) ≡ false = is_within line each.0 number (omega (arith, few)) in
    let entered : entry_of_line w (bytes_of line) ≡ Some e = enters line each.0 w five in
    ap (λ (s : Script). s.ending)
    (ap (script_from w number) cut
    ∙ script_line w number (bytes_of line) (lines_of rest)
    ∙ (λ i. line_script number (within i) (entered i) (followed w number (lines_of rest))))
    ∙ lines_end lines now (suc number) each.1 (length-replay w (with_takens w e) ∙ five) (omega (arith, few))

-- ---- the drill

five_seats : (n : ℕ) → length (let w : World = drill_origin n in w.seats) ≡ 5
unfolding drill_origin world_with
five_seats n = refl

pub script_ends : (n count : ℕ) (text : List ℕ) → count ≤ 10000 → IsOfLines count text → (script_of (drill_origin n) text).ending ≡ done
script_ends n count text most is =
    ap (λ t. let s : Script = script_of (drill_origin n) t in s.ending) is.text_is
    ∙ lines_end is.lines (drill_origin n) 1 is.playable (five_seats n) (omega (arith, most, is.count_is))
