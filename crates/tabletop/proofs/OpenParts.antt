-- How long a log is before its closed gate.
use Rattle.std.proofs.Common.{◌≡◌, ◌≤◌, ◌<◌, ◌^◌, ◌+◌, ℕ, List, [], ◌∷◌, ◌++◌, length, sym, ◌∙◌, ap, arith, append_assoc, length-append}
use Rattle.std.specs.List.{flat_map}
use Rattle.std.specs.Int.{w32, to_be_bytes}
use Rattle.std.proofs.lemmas.List.{append-nil}
use Rattle.std.proofs.lemmas.Grind.{flat_map-append}
use Rattle.campaign_law.specs.declared.entry.Entry.{Entry}
use Rattle.crash_log.specs.Entries.{entry_bytes}
use Rattle.crash_log.specs.Log.{head_bytes, record_bytes, open_part}
use Rattle.log_play.specs.Kept.{HasNoRoom}
use Rattle.tabletop.specs.Logged.{IsFull}

open_part-append : (text : List ℕ) (xs ys : List Entry) → open_part text (xs ++ ys) ≡ open_part text xs ++ flat_map record_bytes ys
unfolding open_part
open_part-append text xs ys =
    ap (λ (l : List ℕ). head_bytes text ++ l) (flat_map-append record_bytes xs ys)
    ∙ sym (append_assoc (head_bytes text) (flat_map record_bytes xs) (flat_map record_bytes ys))

longer : (text : List ℕ) (xs ys : List Entry) → length (open_part text xs) ≤ length (open_part text (xs ++ ys))
longer text xs ys = omega (arith, ap length (open_part-append text xs ys), length-append (open_part text xs) (flat_map record_bytes ys))

one_record : (e : Entry) → length (flat_map record_bytes (e ∷ [])) ≡ 5 + length (entry_bytes e)
one_record e = omega (arith, ap length (append-nil (record_bytes e)), length-append (to_be_bytes w32 (length (entry_bytes e))) (entry_bytes e))

one_longer : (text : List ℕ) (entries : List Entry) (e : Entry) → length (open_part text (entries ++ e ∷ [])) ≡ length (open_part text entries) + 5 + length (entry_bytes e)
one_longer text entries e = omega (arith, ap length (open_part-append text entries (e ∷ [])), length-append (open_part text entries) (flat_map record_bytes (e ∷ [])), one_record e)

-- the next entry has no room in a log whose closed gate stands there
pub is_full : (text : List ℕ) (kept put whole : List Entry) (end : ℕ) → end ≡ length (open_part text (kept ++ put)) → HasNoRoom end put whole → IsFull text kept put whole
is_full text kept put whole end end_at h = record {
  next = h.next;
  is_next = h.is_next;
  far = omega (arith, h.far, end_at, one_longer text (kept ++ put) h.next, ap (λ (es : List Entry). length (open_part text es)) (append_assoc kept put (h.next ∷ [])));
}

-- and where all have room it isn't so
pub has_room : (text : List ℕ) (kept put whole : List Entry) → length (open_part text (kept ++ whole)) < 2 ^ 30 → IsFull text kept put whole → ⊥
has_room text kept put whole room h =
    let front : List Entry = put ++ h.next ∷ [] in
    let all : kept ++ whole ≡ (kept ++ front) ++ h.is_next.rest = ap (λ es. kept ++ es) h.is_next.is ∙ sym (append_assoc kept front h.is_next.rest) in
    omega (arith, room, h.far, longer text (kept ++ front) h.is_next.rest, ap (λ (es : List Entry). length (open_part text es)) all)
