-- Texts of whole lines.
use Rattle.std.proofs.Common.{◌≡◌, ℕ, zero, suc, List, [], ◌∷◌, ◌++◌, refl, sym, ◌∙◌, append_assoc}
use Rattle.std.proofs.lemmas.List.{append-nil}
use Rattle.std.proofs.lemmas.Grind.{flat_map-append}
use Rattle.campaign_law.specs.declared.entry.Entry.{Entry}
use Rattle.campaign_law.specs.World.{World, lines_of as entry_lines, step}
use Rattle.campaign_law.specs.Law.{bytes_of}
use Rattle.script_play.specs.Tagged.{seat_tag, tagged_line, tagged_lines, entry_text_below, entry_text, tagged, IsWholeLines}

pub bytes_of-append : (xs ys : List (List ℕ)) → bytes_of (xs ++ ys) ≡ bytes_of xs ++ bytes_of ys
bytes_of-append xs ys = flat_map-append (λ (line : List ℕ). line ++ 10 ∷ []) xs ys

pub whole_none : IsWholeLines []
whole_none = record { lines = []; is = refl }

pub whole_both : (a b : List ℕ) → IsWholeLines a → IsWholeLines b → IsWholeLines (a ++ b)
whole_both a b x y = record { lines = x.lines ++ y.lines; is = (λ i. x.is i ++ y.is i) ∙ sym (bytes_of-append x.lines y.lines) }

-- ---- what is sent

pub tagged_line_whole : (seat : ℕ) (line : List ℕ) → IsWholeLines (tagged_line seat line)
tagged_line_whole seat line = record { lines = (seat_tag seat ++ line) ∷ []; is = sym (append_assoc (seat_tag seat) line (10 ∷ [])) ∙ sym (append-nil ((seat_tag seat ++ line) ++ 10 ∷ [])) }

pub tagged_lines_whole : (seat : ℕ) (lines : List (List ℕ)) → IsWholeLines (tagged_lines seat lines)
tagged_lines_whole seat [] = whole_none
tagged_lines_whole seat (line ∷ lines) = whole_both (tagged_line seat line) (tagged_lines seat lines) (tagged_line_whole seat line) (tagged_lines_whole seat lines)

entry_below_whole : (w : World) (e : Entry) (seat : ℕ) → IsWholeLines (entry_text_below w e seat)
entry_below_whole w e zero = whole_none
entry_below_whole w e (suc seat) = whole_both (entry_text_below w e seat) (tagged_lines seat (entry_lines w e seat)) (entry_below_whole w e seat) (tagged_lines_whole seat (entry_lines w e seat))

entry_whole : (w : World) (e : Entry) → IsWholeLines (entry_text w e)
unfolding entry_text
entry_whole w e = entry_below_whole w e 33

pub tagged_whole : (w : World) (es : List Entry) → IsWholeLines (tagged w es)
tagged_whole w [] = whole_none
tagged_whole w (e ∷ es) = whole_both (entry_text w e) (tagged (step w e) es) (entry_whole w e) (tagged_whole (step w e) es)
