-- Lines that were read and not entered yet.
use Rattle.std.proofs.Common.{◌≡◌, ◌≤◌, ℕ, Bool, true, false, cond, nat_le, List, [], ◌∷◌, ◌++◌, length, refl, sym, ◌∙◌, ap, subst, arith, append_assoc}
use Rattle.std.specs.Prelude.{Option, Some, None, All}
use Rattle.std.proofs.lemmas.Bool.Decides.{nat_tests}
use Rattle.std.proofs.lemmas.List.Elements.{All-nil, All-cons, All-append}
use Rattle.line_io.specs.declared.lines.NextLine.{NextLine}
use Rattle.line_io.specs.declared.lines.NextLine.TheVariants.{Line, End, TooLong, ReadFault, Memory}
use Rattle.line_io.specs.Lines.{lines_of as text_lines, first_within}
use Rattle.line_io.specs.Reader.{Answers}
use Rattle.line_io.specs.Told.{WhereTold}
use Rattle.session.specs.Inputs.{IsShort, CameFirst, CamePast}

-- ---- lines that came, entered or not

none_came : (text : Option (List ℕ)) → CameFirst [] text text
none_came None = tt
none_came (Some text) = refl

-- none
pub past_none : (text : Option (List ℕ)) → CamePast [] text text
past_none text = record { others = []; short = All-nil IsShort; came = none_came text }

pub past_same : (text rest : Option (List ℕ)) → rest ≡ text → CamePast [] text rest
past_same text rest same = subst (λ r. CamePast [] text r) (sym same) (past_none text)

-- these
pub past_of : (others lines : List (List ℕ)) (text rest : Option (List ℕ)) → All IsShort others → CameFirst (lines ++ others) text rest → CamePast lines text rest
past_of others lines text rest short came = record { others = others; short = short; came = came }

both_came : (lines more : List (List ℕ)) (t u v : Option (List ℕ)) → CameFirst lines t u → CameFirst more u v → CameFirst (lines ++ more) t v
both_came lines more None None None came next = tt
both_came lines more None None (Some v) came next = next
both_came lines more None (Some u) v came next = absurd came
both_came lines more (Some t) None v came next = absurd came
both_came lines more (Some t) (Some u) None came next = next
both_came lines more (Some t) (Some u) (Some v) came next = came ∙ ap (λ l. lines ++ l) next ∙ sym (append_assoc lines more (text_lines v))

-- and further ones
pub past_more : (lines : List (List ℕ)) (t u v : Option (List ℕ)) → CamePast lines t u → CamePast [] u v → CamePast lines t v
past_more lines t u v past more = record {
  others = past.others ++ more.others;
  short = All-append IsShort past.others more.others past.short more.short;
  came = subst (λ l. CameFirst l t v) (append_assoc lines past.others more.others) (both_came (lines ++ past.others) more.others t u v past.came more.came);
}

is_within : (cap : ℕ) (lines : List (List ℕ)) (line : List ℕ) → first_within cap lines ≡ Line line → length line ≤ cap
is_within cap [] line is = cc
is_within cap (first ∷ lines) line is = by_length (nat_le (length first) cap) refl is
  where
    by_length : (b : Bool) → nat_le (length first) cap ≡ b → cond b (Line first) TooLong ≡ Line line → length line ≤ cap
    by_length true e same =
        let fits : length first ≤ cap = grind (arith, nat_tests) in
        let one : first ≡ line = cc in
        subst (λ l. length l ≤ cap) one fits
    by_length false e same = cc

one_past : (line bytes rest : List ℕ) → length line ≤ 4096 → text_lines bytes ≡ line ∷ text_lines rest → CamePast [] (Some bytes) (Some rest)
one_past line bytes rest short came = record { others = line ∷ []; short = All-cons IsShort line [] short (All-nil IsShort); came = came }

by_answer : (bytes rest : List ℕ) (answer : NextLine) (ended : Bool) → Answers 4096 bytes answer ended rest → CamePast [] (Some bytes) (Some rest)
by_answer bytes rest (Line line) ended is = one_past line bytes rest (is_within 4096 (text_lines bytes) line is.0) is.1
by_answer bytes rest End ended is = past_same (Some bytes) (Some rest) (ap Some (is.1 ∙ sym is.0))
by_answer bytes rest TooLong ended is = past_same (Some bytes) (Some rest) (ap Some is.1)
by_answer bytes rest ReadFault ended is = past_same (Some bytes) (Some rest) (ap Some is)
by_answer bytes rest Memory ended is = one_past is.0 bytes rest (is_within 4096 (text_lines bytes) is.0 is.1) is.2

-- an answer takes one at most
pub past_next : (cap : ℕ) (text rest : Option (List ℕ)) (answer : NextLine) (ended : Bool) → cap ≡ 4096 → WhereTold text rest (λ bytes rest. Answers cap bytes answer ended rest) → CamePast [] text rest
past_next cap text rest answer ended is told = by_told text rest (subst (λ c. WhereTold text rest (λ bytes rest. Answers c bytes answer ended rest)) is told)
  where
    by_told : (text rest : Option (List ℕ)) → WhereTold text rest (λ bytes rest. Answers 4096 bytes answer ended rest) → CamePast [] text rest
    by_told None None told = past_none None
    by_told None (Some rest) told = absurd told
    by_told (Some text) None told = absurd told
    by_told (Some text) (Some rest) told = by_answer text rest answer ended told
