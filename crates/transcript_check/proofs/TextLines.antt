-- The first line of a text.
use Rattle.std.proofs.Common.{◌≡◌, ◌<◌, ◌≤◌, ◌+◌, ℕ, suc, List, [], ◌∷◌, ◌++◌, length, take, drop, get_or, sym, ◌∙◌, ap, subst, arith}
use Rattle.std.proofs.Math.Seq.{drop-cons}
use Rattle.std.proofs.lemmas.List.{take-append-drop, take_all}
use Rattle.line_io.specs.Lines.{HasNoLineEnd, lines_of}
use Rattle.line_io.proofs.LinesLemmas.{lines_of-nil, lines_of-line, lines_of-last}

-- up to an LF
pub line_to : (text rest : List ℕ) (end : ℕ) → end < length text → get_or text end 0 ≡ 10 → HasNoLineEnd (take end text) → rest ≡ drop (end + 1) text → lines_of text ≡ take end text ∷ lines_of rest
line_to text rest end within lf none is =
    let next : suc end ≡ end + 1 = omega arith in
    ap lines_of (sym (take-append-drop end text) ∙ ap (λ r. take end text ++ r) (drop-cons text end 0 within ∙ (λ i. lf i ∷ drop (next i) text)))
    ∙ lines_of-line (take end text) (drop (end + 1) text) none
    ∙ ap (λ r. take end text ∷ lines_of r) (sym is)

-- a last piece without LF
last_piece : (text : List ℕ) → 0 < length text → HasNoLineEnd text → lines_of text ≡ text ∷ []
last_piece [] some none = absurd (omega (arith, some))
last_piece (byte ∷ line) some none = lines_of-last byte line none

pub line_whole : (text rest : List ℕ) (end : ℕ) → 0 < length text → length text ≤ end → HasNoLineEnd (take end text) → rest ≡ [] → lines_of text ≡ text ∷ lines_of rest
line_whole text rest end some past none is =
    last_piece text some (subst HasNoLineEnd (take_all end text past) none)
    ∙ ap (λ ls. text ∷ ls) (sym (ap lines_of is ∙ lines_of-nil))
