-- The lines that stand behind a seat's number are those that the seat was sent.
use Rattle.std.proofs.Common.{◌≡◌, ◌≢◌, ℕ, zero, suc, ◌≤◌, Bool, true, false, cond, eqb, List, [], ◌∷◌, ◌++◌, Some, None, refl, sym, ◌∙◌, ap, append_assoc, arith, eq-eqb}
use Rattle.std.specs.Prelude.{All, decimal, nat_lt}
use Rattle.std.proofs.lemmas.List.Elements.{All-nil, All-cons}
use Rattle.std.specs.List.{AllByRecursion, filter_map, cons_option}
use Rattle.std.specs.Str.Parse.{AllDigits}
use Rattle.std.proofs.lemmas.List.{append-nil}
use Rattle.std.proofs.lemmas.Bool.{ne_eqb, eqb-true}
use Rattle.std.proofs.lemmas.Bool.Decides.{nat_tests}
use Rattle.std.proofs.lemmas.Fmt.{decimal_injective, decimal_is_IsNumeral}
use Rattle.std.proofs.lemmas.Str.Parse.{digit_from_value}
use Rattle.line_io.specs.Lines.{HasNoLineEnd, lines_of}
use Rattle.line_io.proofs.LinesLemmas.{lines_of-nil, lines_of-line}
use Rattle.json_fields.specs.Lines.{IsOneLine}
use Rattle.campaign_law.specs.declared.entry.Entry.{Entry}
use Rattle.campaign_law.specs.World.{World, lines_of as entry_lines, step, sent}
use Rattle.campaign_law.proofs.OneLines.{AreOneLine, lines_one}
use Rattle.script_play.specs.Tagged.{seat_tag, tagged_line, tagged_lines, entry_text_below, entry_text, tagged, behind, lines_behind}

-- ---- a seat's number and TAB

digits_of_seat : (seat : ℕ) → seat ≤ 32 → AllDigits 10 (decimal seat)
digits_of_seat seat h = (decimal_is_IsNumeral seat (omega arith)).0.1

no_line_end : (digits line : List ℕ) → AllDigits 10 digits → IsOneLine line → AllByRecursion (λ byte. byte ≢ 10) ((digits ++ 9 ∷ []) ++ line)
no_line_end [] line d h = (λ e. absurd (omega (arith, e)), h)
no_line_end (digit ∷ digits) line d h = (λ e. absurd (omega (arith, e, digit_from_value digit d.0)), no_line_end digits line d.1 h)

all_from : (P : ℕ → Type 0) (xs : List ℕ) → AllByRecursion P xs → All P xs
all_from P [] h = All-nil P
all_from P (x ∷ xs) h = All-cons P x xs h.0 (all_from P xs h.1)

tag_one_line : (seat : ℕ) (line : List ℕ) → seat ≤ 32 → IsOneLine line → HasNoLineEnd (seat_tag seat ++ line)
tag_one_line seat line small h = all_from (λ byte. byte ≢ 10) (seat_tag seat ++ line) (no_line_end (decimal seat) line (digits_of_seat seat small) h)

behind_own : (front line : List ℕ) → behind front (front ++ line) ≡ Some line
behind_own [] line = refl
behind_own (byte ∷ front) line = ap (λ same. cond same (behind front (front ++ line)) None) (eq-eqb byte byte refl) ∙ behind_own front line

behind_other : (xs ys line : List ℕ) → AllDigits 10 xs → AllDigits 10 ys → xs ≢ ys → behind (xs ++ 9 ∷ []) ((ys ++ 9 ∷ []) ++ line) ≡ None
behind_other [] [] line dx dy ne = absurd (ne refl)
behind_other [] (y ∷ ys) line dx dy ne = ap (λ same. cond same (behind [] ((ys ++ 9 ∷ []) ++ line)) None) (ne_eqb 9 y (λ e. absurd (omega (arith, e, digit_from_value y dy.0))))
behind_other (x ∷ xs) [] line dx dy ne = ap (λ same. cond same (behind (xs ++ 9 ∷ []) line) None) (ne_eqb x 9 (λ e. absurd (omega (arith, e, digit_from_value x dx.0))))
behind_other (x ∷ xs) (y ∷ ys) line dx dy ne = by_first (eqb x y) refl (λ e. behind_other xs ys line dx.1 dy.1 (λ same. ne (λ i. e i ∷ same i)))
  where
    by_first : (same : Bool) → eqb x y ≡ same → (x ≡ y → behind (xs ++ 9 ∷ []) ((ys ++ 9 ∷ []) ++ line) ≡ None) → cond (eqb x y) (behind (xs ++ 9 ∷ []) ((ys ++ 9 ∷ []) ++ line)) None ≡ None
    by_first true h rest = ap (λ same. cond same (behind (xs ++ 9 ∷ []) ((ys ++ 9 ∷ []) ++ line)) None) h ∙ rest (eqb-true x y h)
    by_first false h rest = ap (λ same. cond same (behind (xs ++ 9 ∷ []) ((ys ++ 9 ∷ []) ++ line)) None) h

behind_tag : (p q : ℕ) (line : List ℕ) → p ≤ 32 → q ≤ 32 → (own : Bool) → eqb q p ≡ own → behind (seat_tag p) (seat_tag q ++ line) ≡ cond own (Some line) None
behind_tag p q line small small' true h = ap (λ s. behind (seat_tag p) (seat_tag s ++ line)) (eqb-true q p h) ∙ behind_own (seat_tag p) line
behind_tag p q line small small' false h = behind_other (decimal p) (decimal q) line (digits_of_seat p small) (digits_of_seat q small') (λ e. absurd_bool (eqb q p) (eq-eqb q p (sym (decimal_injective p q (omega arith) (omega arith) e))) h)
  where
    absurd_bool : {A : Type 0} (b : Bool) → b ≡ true → b ≡ false → A
    absurd_bool b h k = let e : true ≡ false = sym h ∙ k in cc

-- ---- one line, the lines of a seat, an entry, a history

one_behind : (p q : ℕ) (line rest : List ℕ) → p ≤ 32 → q ≤ 32 → IsOneLine line → (own : Bool) → eqb q p ≡ own → lines_behind p (tagged_line q line ++ rest) ≡ cond own (line ∷ []) [] ++ lines_behind p rest
unfolding lines_behind
one_behind p q line rest small small' h own is =
    let text : tagged_line q line ++ rest ≡ (seat_tag q ++ line) ++ 10 ∷ rest =
    append_assoc (seat_tag q) (line ++ 10 ∷ []) rest
    ∙ ap (λ r. seat_tag q ++ r) (append_assoc line (10 ∷ []) rest)
    ∙ sym (append_assoc (seat_tag q) line (10 ∷ rest)) in
    ap (λ t. filter_map (behind (seat_tag p)) (lines_of t)) text
    ∙ ap (filter_map (behind (seat_tag p))) (lines_of-line (seat_tag q ++ line) rest (tag_one_line q line small' h))
    ∙ ap (λ o. cons_option o (filter_map (behind (seat_tag p)) (lines_of rest))) (behind_tag p q line small small' own is)
    ∙ by_own own
  where
    by_own : (own : Bool) → cons_option (cond own (Some line) None) (filter_map (behind (seat_tag p)) (lines_of rest)) ≡ cond own (line ∷ []) [] ++ filter_map (behind (seat_tag p)) (lines_of rest)
    by_own true = refl
    by_own false = refl

seat_behind : (p q : ℕ) (lines : List (List ℕ)) (rest : List ℕ) → p ≤ 32 → q ≤ 32 → AreOneLine lines → (own : Bool) → eqb q p ≡ own → lines_behind p (tagged_lines q lines ++ rest) ≡ cond own lines [] ++ lines_behind p rest
seat_behind p q [] rest small small' h true is = refl
seat_behind p q [] rest small small' h false is = refl
seat_behind p q (line ∷ lines) rest small small' h true is =
    ap (lines_behind p) (append_assoc (tagged_line q line) (tagged_lines q lines) rest)
    ∙ one_behind p q line (tagged_lines q lines ++ rest) small small' h.0 true is
    ∙ ap (λ ls. line ∷ ls) (seat_behind p q lines rest small small' h.1 true is)
seat_behind p q (line ∷ lines) rest small small' h false is =
    ap (lines_behind p) (append_assoc (tagged_line q line) (tagged_lines q lines) rest)
    ∙ one_behind p q line (tagged_lines q lines ++ rest) small small' h.0 false is
    ∙ seat_behind p q lines rest small small' h.1 false is

-- below n, or n itself
both : (w : World) (e : Entry) (p n : ℕ) (below own whole : Bool) → nat_lt p n ≡ below → eqb n p ≡ own → nat_lt p (suc n) ≡ whole → cond below (entry_lines w e p) [] ++ cond own (entry_lines w e n) [] ≡ cond whole (entry_lines w e p) []
both w e p n true true whole a b c = absurd (grind (arith, nat_tests))
both w e p n true false true a b c = append-nil (entry_lines w e p)
both w e p n true false false a b c = absurd (grind (arith, nat_tests))
both w e p n false true true a b c = ap (entry_lines w e) (eqb-true n p b)
both w e p n false true false a b c = absurd (grind (arith, nat_tests))
both w e p n false false true a b c = absurd (grind (arith, nat_tests))
both w e p n false false false a b c = refl

below_behind : (w : World) (e : Entry) (p n : ℕ) (rest : List ℕ) → p ≤ 32 → n ≤ 33 → (below : Bool) → nat_lt p n ≡ below → lines_behind p (entry_text_below w e n ++ rest) ≡ cond below (entry_lines w e p) [] ++ lines_behind p rest
below_behind w e p zero rest small few true h = absurd (grind (arith, nat_tests))
below_behind w e p zero rest small few false h = refl
below_behind w e p (suc n) rest small few below h =
    ap (lines_behind p) (append_assoc (entry_text_below w e n) (tagged_lines n (entry_lines w e n)) rest)
    ∙ below_behind w e p n (tagged_lines n (entry_lines w e n) ++ rest) small (omega arith) (nat_lt p n) refl
    ∙ ap (λ ls. cond (nat_lt p n) (entry_lines w e p) [] ++ ls) (seat_behind p n (entry_lines w e n) rest small (omega arith) (lines_one w e n) (eqb n p) refl)
    ∙ sym (append_assoc (cond (nat_lt p n) (entry_lines w e p) []) (cond (eqb n p) (entry_lines w e n) []) (lines_behind p rest))
    ∙ ap (λ ls. ls ++ lines_behind p rest) (both w e p n (nat_lt p n) (eqb n p) below refl refl h)

pub entry_behind : (w : World) (e : Entry) (p : ℕ) (rest : List ℕ) → p ≤ 32 → lines_behind p (entry_text w e ++ rest) ≡ entry_lines w e p ++ lines_behind p rest
unfolding entry_text
entry_behind w e p rest small = below_behind w e p 33 rest small (omega arith) true (grind (arith, nat_tests))

-- what a history sends a seat stands behind its number
pub history_behind : (w : World) (h : List Entry) (p : ℕ) (rest : List ℕ) → p ≤ 32 → lines_behind p (tagged w h ++ rest) ≡ sent w h p ++ lines_behind p rest
history_behind w [] p rest small = refl
history_behind w (e ∷ h) p rest small =
    ap (lines_behind p) (append_assoc (entry_text w e) (tagged (step w e) h) rest)
    ∙ entry_behind w e p (tagged (step w e) h ++ rest) small
    ∙ ap (λ ls. entry_lines w e p ++ ls) (history_behind (step w e) h p rest small)
    ∙ sym (append_assoc (entry_lines w e p) (sent (step w e) h p) (lines_behind p rest))

none_behind : (p : ℕ) → lines_behind p [] ≡ []
unfolding lines_behind
none_behind p = ap (filter_map (behind (seat_tag p))) lines_of-nil

pub sent_behind : (w : World) (h : List Entry) (p : ℕ) → p ≤ 32 → lines_behind p (tagged w h) ≡ sent w h p
sent_behind w h p small =
    ap (lines_behind p) (sym (append-nil (tagged w h)))
    ∙ history_behind w h p [] small
    ∙ ap (λ ls. sent w h p ++ ls) (none_behind p)
    ∙ append-nil (sent w h p)
