-- What is kept of a book's tags.
use Rattle.std.proofs.Common.{◌≡◌, ◌≤◌, ℕ, ◌+◌, nat_le, false, List, [], ◌∷◌, ◌++◌, length, refl, ◌∙◌, arith}
use Rattle.std.specs.List.{list_any, IsDistinct}
use Rattle.std.specs.Str.{bytes_eq}
use Rattle.std.specs.Cmp.Lexicographic.{nat_list_eq_equiv}
use Rattle.std.proofs.lemmas.Bool.Decides.{nat_tests}
use Rattle.std.proofs.lemmas.List.{length-append}
use Rattle.std.proofs.lemmas.Map.Keys.{IsDistinct-push}
use Rattle.seats.specs.declared.seat_state.SeatState.{SeatState}
use Rattle.seats.specs.declared.seat_state.SeatState.TheVariants.{Free}
use Rattle.seats.specs.Book.{IsKept, tag_used, tags_spent, most_tags}

-- a tag is looked for from either side
used_either : (tags : List (List ℕ)) (tag : List ℕ) → list_any (bytes_eq tag) tags ≡ tag_used tags tag
used_either [] tag = refl
used_either (used ∷ tags) tag = rw (nat_list_eq_equiv.symm tag used, used_either tags tag) refl

pub kept_fresh : (seat : ℕ) → IsKept seat [] 0 Free
unfolding IsDistinct
kept_fresh seat = record { in_line_limit = omega arith; lines_left = λ h. omega arith; tags_differ = tt; in_tag_limit = omega arith }

room_left : (most count : ℕ) → nat_le most count ≡ false → count + 1 ≤ most
room_left most count h = grind (arith, nat_tests)

pub kept_with : (seat : ℕ) (tags : List (List ℕ)) (tag : List ℕ) (lines : ℕ) (state : SeatState) → tag_used tags tag ≡ false → tags_spent seat tags ≡ false → IsKept seat tags lines state → IsKept seat (tags ++ tag ∷ []) lines state
kept_with seat tags tag lines state new room kept = record {
  in_line_limit = kept.in_line_limit;
  lines_left = kept.lines_left;
  tags_differ = IsDistinct-push nat_list_eq_equiv tags tag kept.tags_differ (used_either tags tag ∙ new);
  in_tag_limit = rw (length-append tags (tag ∷ [])) (room_left (most_tags seat) (length tags) room);
}
