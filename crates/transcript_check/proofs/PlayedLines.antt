-- A script while it is played: the entries so far, and the lines that are to come.
use Rattle.std.proofs.Common.{◌≡◌, ℕ, suc, ◌+◌, ◌≤◌, Bool, true, false, ◌||◌, List, [], ◌∷◌, length, Some, None, refl, sym, ◌∙◌, ap, append_assoc, arith}
use Rattle.std.specs.Prelude.{Option, nat_lt}
use Rattle.std.proofs.lemmas.List.{append-nil}
use Rattle.std.proofs.lemmas.Bool.Decides.{nat_tests}
use Rattle.line_io.specs.Lines.{lines_of}
use Rattle.line_io.proofs.LinesLemmas.{lines_of-nil}
use Rattle.campaign_law.specs.declared.entry.Entry.{Entry}
use Rattle.campaign_law.specs.World.{World, replay}
use Rattle.campaign_law.specs.Law.{Course, world_of}
use Rattle.campaign_law.proofs.SessionFronts.{replay-append}
use Rattle.script_play.specs.Script.{Script, done, after_entries, entry_of_line, with_takens, is_past_limits, script_from, script_of}
use Rattle.script_play.proofs.Scripts.{line_script, followed, script_none, script_line}
use Rattle.transcript_check.specs.declared.tracing.Stop.{Stop}
use Rattle.transcript_check.specs.declared.tracing.Stop.TheVariants.{BadLine, TooLarge, Memory}
use Rattle.transcript_check.specs.Tracing.{IsStopOf, PlaysLine}

-- the whole script is the entries so far, and then what the lines from this number on give
pub record IsPlayedTo (whole : Script) (c : Course) (number : ℕ) (lines : List (List ℕ)) : Type 0 where
  pub is : whole ≡ after_entries c.history (script_from (world_of c) number lines)

pub to_begin : (c : Course) (text : List ℕ) → c.history ≡ [] → IsPlayedTo (script_of c.origin text) c 1 (lines_of text)
to_begin c text none = record { is = sym (λ i. after_entries (none i) (script_from (replay c.origin (none i)) 1 (lines_of text))) }

-- a line within the limits is one of the first
pub few_lines : (number : ℕ) (line : List ℕ) → is_past_limits number line ≡ false → number ≤ 1000000
few_lines number line within = by (nat_lt 1000000 number) refl within
  where
    by : (many : Bool) → nat_lt 1000000 number ≡ many → (many || nat_lt 4112 (length line)) ≡ false → number ≤ 1000000
    by true is h = absurd cc
    by false is h = grind (arith, nat_tests)

-- ---- a line

line_within : (w : World) (number : ℕ) (line : List ℕ) (lines : List (List ℕ)) (entry : Option Entry) → is_past_limits number line ≡ false → entry_of_line w line ≡ entry → script_from w number (line ∷ lines) ≡ line_script number false entry (followed w number lines)
line_within w number line lines entry within is = script_line w number line lines ∙ (λ i. line_script number (within i) (is i) (followed w number lines))

pub stops_past : (w : World) (number : ℕ) (line : List ℕ) (lines : List (List ℕ)) → is_past_limits number line ≡ true → IsStopOf (script_from w number (line ∷ lines)) TooLarge
stops_past w number line lines past = ap (λ (s : Script). s.ending) (script_line w number line lines ∙ ap (λ b. line_script number b (entry_of_line w line) (followed w number lines)) past)

pub stops_bad : (w : World) (number : ℕ) (line : List ℕ) (lines : List (List ℕ)) → is_past_limits number line ≡ false → entry_of_line w line ≡ None → IsStopOf (script_from w number (line ∷ lines)) (BadLine number)
stops_bad w number line lines within none = ap (λ (s : Script). s.ending) (line_within w number line lines None within none)

-- ---- line after line

pub to_next : (whole : Script) (old new : Course) (number : ℕ) (line : List ℕ) (lines : List (List ℕ)) → new.origin ≡ old.origin → IsPlayedTo whole old number (line ∷ lines) → PlaysLine old new number line → IsPlayedTo whole new (number + 1) lines
to_next whole old new number line lines same to plays =
    let ts : List Entry = with_takens (world_of old) plays.entry in
    let world : replay (world_of old) ts ≡ world_of new = sym (replay-append old.origin old.history ts) ∙ (λ i. replay (sym same i) (sym plays.history i)) in
    let next : suc number ≡ number + 1 = omega arith in
    record {
      is =
          to.is
          ∙ ap (after_entries old.history) (line_within (world_of old) number line lines (Some plays.entry) plays.within plays.is)
          ∙ (λ i. after_entries old.history (after_entries ts (script_from (world i) (next i) lines)))
          ∙ ap (λ es. record (script_from (world_of new) (number + 1) lines) { entries = es }) (sym (append_assoc old.history ts (script_from (world_of new) (number + 1) lines).entries))
          ∙ ap (λ es. after_entries es (script_from (world_of new) (number + 1) lines)) (sym plays.history);
    }

-- nothing is left
pub to_end : (whole : Script) (c : Course) (number : ℕ) (rest : List ℕ) → rest ≡ [] → IsPlayedTo whole c number (lines_of rest) → whole ≡ record { entries = c.history; ending = done }
to_end whole c number rest none to =
    to.is
    ∙ ap (λ ls. after_entries c.history (script_from (world_of c) number ls)) (ap lines_of none ∙ lines_of-nil)
    ∙ ap (after_entries c.history) (script_none (world_of c) number)
    ∙ ap (λ es. record { entries = es; ending = done }) (append-nil c.history)

-- a line stops it
pub to_stop : (whole : Script) (c : Course) (number : ℕ) (line : List ℕ) (lines : List (List ℕ)) (stop : Stop) → IsPlayedTo whole c number (line ∷ lines) → IsStopOf (script_from (world_of c) number (line ∷ lines)) stop → IsStopOf whole stop
to_stop whole c number line lines (BadLine k) to stops = ap (λ (s : Script). s.ending) to.is ∙ stops
to_stop whole c number line lines TooLarge to stops = ap (λ (s : Script). s.ending) to.is ∙ stops
to_stop whole c number line lines Memory to stops = tt
