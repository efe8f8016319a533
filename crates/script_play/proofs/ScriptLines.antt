-- The command of a script line stands at its end.
use Rattle.std.proofs.Common.{◌≡◌, ℕ, ◌-◌, ◌≤◌, true, cond, nat_lt, List, [], ◌∷◌, ◌++◌, length, drop, Some, None, option_and_then, sym, ◌∙◌, ap, subst, append_assoc, arith, length-append}
use Rattle.std.proofs.Math.Seq.{drop-append_seam}
use Rattle.line_io.specs.Script.{IsScriptLine, script_parts}
use Rattle.campaign_law.specs.declared.entry.Entry.{Entry}
use Rattle.campaign_law.specs.World.{World}
use Rattle.script_play.specs.Script.{entry_of, entry_of_line}

-- what stands behind the front of a list
behind : (front words : List ℕ) → drop (length (front ++ words) - length words) (front ++ words) ≡ words
behind front words = ap (λ n. drop n (front ++ words)) (omega (arith, length-append front words)) ∙ drop-append_seam front words

-- and how long the front is
pub record StandsBehind (line words : List ℕ) : Type 0 where
  pub shorter : length words ≤ length line
  pub is : drop (length line - length words) line ≡ words

parts_behind : (front words : List ℕ) → StandsBehind (front ++ 32 ∷ words) words
parts_behind front words =
    let whole : (front ++ 32 ∷ []) ++ words ≡ front ++ 32 ∷ words = append_assoc front (32 ∷ []) words in
    record {
      shorter = omega (arith, length-append front (32 ∷ words));
      is = subst (λ line. drop (length line - length words) line ≡ words) whole (behind (front ++ 32 ∷ []) words);
    }

pub command_behind : (line : List ℕ) (number : ℕ) (words : List ℕ) → IsScriptLine line number words → StandsBehind line words
command_behind line number words h = subst (λ l. StandsBehind l words) (sym h.text) (parts_behind _ words)

-- ---- the entry of a line

pub entry_found : (w : World) (line : List ℕ) (seat : ℕ) (words rest : List ℕ) (e : Entry) → script_parts line ≡ Some (seat, words) → nat_lt seat (length w.seats) ≡ true
    → e ≡ entry_of w seat rest → rest ≡ words → Some e ≡ entry_of_line w line
entry_found w line seat words rest e parts within is same =
    ap Some (is ∙ ap (entry_of w seat) same)
    ∙ sym (ap (option_and_then (λ parts. cond (nat_lt parts.0 (length w.seats)) (Some (entry_of w parts.0 parts.1)) None)) parts ∙ ap (λ b. cond b (Some (entry_of w seat words)) None) within)
