-- What the writing half writes is of lines that safe entries have.
use Rattle.std.proofs.Common.{◌≡◌, ℕ, suc, ◌≤◌, ◌<◌, ◌⊎◌, List, [], ◌∷◌, ◌++◌, length, take, drop, refl, sym, ◌∙◌, ap, subst, arith, append_assoc, inl, inr}
use Rattle.std.specs.Prelude.{Option, Result, Ok, Err, All}
use Rattle.std.specs.Io.KnownBytes.{append_known}
use Rattle.std.proofs.lemmas.List.{append-nil, take-append-le, take-append-drop, take_all}
use Rattle.std.proofs.lemmas.List.Elements.{All-nil, All-cons}
use mathlib.Core.List.{IsPrefix}
use Rattle.campaign_law.specs.declared.entry.Entry.{Entry}
use Rattle.campaign_law.specs.World.{World}
use Rattle.campaign_law.specs.Law.{IsOpening, bytes_of}
use Rattle.turn_lock.specs.Pass.{PassState, HasTurn, known, hears, places}
use Rattle.turn_lock.proofs.Prefixes.{prefix_trans, prefix_length}
use Rattle.session.specs.declared.hold.Hold.{Hold}
use Rattle.session.specs.declared.exchange.Found.{Found}
use Rattle.session.specs.declared.exchange.Found.TheVariants.{Lines}
use Rattle.session.specs.declared.writing.Wrote.{Wrote}
use Rattle.session.specs.declared.writing.Wrote.TheVariants.{All as AllWritten, Memory, WriteFault}
use Rattle.session.specs.declared.writing.Wrote.TheVariants as writes
use Rattle.session.specs.Held.{lines_of}
use Rattle.session.specs.Sent.{Sends, Exchanges, Drops}
use Rattle.session.specs.Written.{IsWriting}
use Rattle.session.specs.Safely.{TellsSafely, WritesSafely}
use Rattle.session.proofs.Alone.{joined_in_front, alone_in_front}
use Rattle.session.proofs.WritingTurns.{append_known-none, append_known-append, writes_part}
use Rattle.session.proofs.WritingEnds.{turned, finds, goes_on}
use Rattle.session.proofs.ServedSessions.{wrote_first, wrote_front}

front_take : {A : Type 0} (k : ℕ) (f h : List A) → IsPrefix f h → k ≤ length f → take k h ≡ take k f
front_take k f h prefix le = ap (take k) (sym prefix.1) ∙ take-append-le k f prefix.0 le

-- ---- before a piece

pub starts_safely : (Safe : ℕ → Type 0) (w : World) (hold : Hold) (p : PassState Entry World) (n : ℕ) (before : Option (List ℕ)) → WritesSafely Safe w hold p (hears p n) before before
starts_safely Safe w hold p n before = record { more = []; text = []; own = sym (append-nil p.own); written = append_known-none before; told = inl refl }

places_behind : (es : List Entry) (n m : ℕ) → n ≤ m → All (λ k. n ≤ k) (places m es)
places_behind [] n m le = All-nil _
places_behind (e ∷ es) n m le = All-cons (λ k. n ≤ k) m (places (suc m) es) le (places_behind es n (suc m) (omega (arith, le)))

-- what is of safe entries stays so in a longer history
tells_longer : (Safe : ℕ → Type 0) (w : World) (f h : List Entry) (hold : Hold) (own more text : List ℕ) → IsPrefix f h → All (λ k. length f ≤ k) more → TellsSafely Safe w f hold own text → TellsSafely Safe w h hold (own ++ more) text
tells_longer Safe w f h hold own more text prefix late is =
    let longer = prefix_length f h prefix in
    let past = is.past in
    let within = is.within in
    record {
      n = is.n;
      safe = is.safe;
      past = past;
      within = omega (arith, within, longer);
      front = λ joined alone. subst (λ l. IsPrefix text (bytes_of (lines_of w l hold))) (sym (front_take is.n f h prefix within))
          (is.front (joined_in_front w f h hold prefix (omega (arith, past, within)) joined) (alone_in_front w f h own more hold prefix late alone));
    }

-- a turn of the pass
pub turned_safely : (Safe : ℕ → Type 0) (w : World) (hold : Hold) (p q r : PassState Entry World) {ran : List Entry → List Entry → Type 0} (es : List Entry) (before mid : Option (List ℕ)) → WritesSafely Safe w hold p q before mid → HasTurn ran es (known q) (known r)
    → WritesSafely Safe w hold p r before mid
turned_safely Safe w hold p q r es before mid is turn = record {
  more = is.more ++ new;
  text = is.text;
  own = turn.own_is ∙ ap (λ l. l ++ new) is.own ∙ append_assoc p.own is.more new;
  written = is.written;
  told = by_told is.told;
}
  where
    new : List ℕ
    new = places (length turn.found) es

    begins : IsPrefix q.front turn.found
    begins = turn.begins

    by_told : (is.text ≡ []) ⊎ TellsSafely Safe w q.front hold is.more is.text → (is.text ≡ []) ⊎ TellsSafely Safe w r.front hold (is.more ++ new) is.text
    by_told (inl none) = inl none
    by_told (inr tells) =
        inr (tells_longer Safe w q.front r.front hold is.more new is.text (prefix_trans q.front turn.found r.front begins (es, sym turn.front_is))
        (places_behind es (length q.front) (length turn.found) (prefix_length q.front turn.found begins)) tells)

-- what was safe stays so
pub still_safely : (Safe Safer : ℕ → Type 0) (w : World) (hold : Hold) (p q : PassState Entry World) (before mid : Option (List ℕ)) → ((n : ℕ) → Safe n → Safer n) → WritesSafely Safe w hold p q before mid → WritesSafely Safer w hold p q before mid
still_safely Safe Safer w hold p q before mid still is = record { more = is.more; text = is.text; own = is.own; written = is.written; told = by_told is.told }
  where
    by_told : (is.text ≡ []) ⊎ TellsSafely Safe w q.front hold is.more is.text → (is.text ≡ []) ⊎ TellsSafely Safer w q.front hold is.more is.text
    by_told (inl none) = inl none
    by_told (inr tells) = inr (record { n = tells.n; safe = still tells.n tells.safe; past = tells.past; within = tells.within; front = tells.front })

pub leaves_safely : (Safe : ℕ → Type 0) (w : World) (hold : Hold) (p r s : PassState Entry World) (before after : Option (List ℕ)) → WritesSafely Safe w hold p r before after → Drops w hold r s → WritesSafely Safe w hold p s before after
leaves_safely Safe w hold p r s before after is drops = turned_safely Safe w hold p r s _ before after is drops.turn

-- ---- a piece

module _ (Safe Safer : ℕ → Type 0) (w : World) (hold : Hold) (p q r : PassState Entry World) (count : ℕ) (before mid : Option (List ℕ)) (found : Found) (long : ℕ) (is : IsWriting w hold p q count before mid) (turn : Exchanges w hold count found long q r) where
  pub waits_safely : WritesSafely Safe w hold p q before mid → WritesSafely Safe w hold p r before mid
  waits_safely safely = turned_safely Safe w hold p q r _ before mid safely turn.turn

  now : IsWriting w hold p r count before mid
  now = (turned w hold p q r count before mid found long is turn).0

  past : hold.place < length r.front
  past = (turned w hold p q r count before mid found long is turn).1

  long_is : long ≡ length r.front
  long_is = turn.turn.has_run.1

  whole : take long r.front ≡ r.front
  whole = take_all long r.front (omega (arith, long_is))

  -- nothing of it was written
  none_sent : (after : Option (List ℕ)) → ((n : ℕ) → Safe n → Safer n) → after ≡ mid → WritesSafely Safe w hold p q before mid → WritesSafely Safer w hold p r before after
  none_sent after still same safely = subst (WritesSafely Safer w hold p r before) (sym same) (still_safely Safe Safer w hold p r before mid still (waits_safely safely))

  -- all of it was written
  all_sent : (text : List ℕ) (lines next : ℕ) (after : Option (List ℕ)) → IsOpening w → found ≡ Lines text lines → Sends (Ok next) text count lines mid after → Safer long → WritesSafely Safer w hold p r before after
  all_sent text lines next after opening same sends safe =
      let on = goes_on w hold p q r count before mid found long is turn text lines next after opening same sends in
      record {
        more = on.more;
        text = on.text;
        own = on.got.own;
        written = on.has.written;
        told = inr (record {
          n = long;
          safe = safe;
          past = omega (arith, past, long_is);
          within = omega (arith, long_is);
          front = λ joined alone. subst (λ l. IsPrefix on.text (bytes_of (lines_of w l hold))) (sym whole) (wrote_first (lines_of w r.front hold) next on.text (on.wrote joined alone)).prefix;
        });
      }

  -- a part of it was written
  part_sent : (text : List ℕ) (lines : ℕ) (after : Option (List ℕ)) → IsOpening w → found ≡ Lines text lines → Sends (Err WriteFault) text count lines mid after → Safer long → WritesSafely Safer w hold p r before after
  part_sent text lines after opening same sends safe =
      let f = finds w hold p q r count before mid found long is turn (Lines text lines) same in
      let part : List ℕ = take sends.count text in
      record {
        more = now.more;
        text = now.text ++ part;
        own = now.got.own;
        written = sends.written ∙ ap (λ known. append_known known part) now.has.written ∙ append_known-append before now.text part;
        told = inr (record {
          n = long;
          safe = safe;
          past = omega (arith, past, long_is);
          within = omega (arith, long_is);
          front = λ joined alone. subst (λ l. IsPrefix (now.text ++ part) (bytes_of (lines_of w l hold))) (sym whole)
              (wrote_front WriteFault (lines_of w r.front hold) count (now.text ++ part)
              (writes_part w hold p r count before mid text lines opening now past f.0 f.1 part (drop sends.count text, take-append-drop sends.count text) joined alone)).prefix;
        });
      }

  some_sent : (text : List ℕ) (lines : ℕ) (result : Result ℕ Wrote) (after : Option (List ℕ)) → ((n : ℕ) → Safe n → Safer n) → IsOpening w → found ≡ Lines text lines → Sends result text count lines mid after → Safer long → WritesSafely Safe w hold p q before mid
      → WritesSafely Safer w hold p r before after
  some_sent text lines (Ok next) after still opening same sends safe safely = all_sent text lines next after opening same sends safe
  some_sent text lines (Err AllWritten) after still opening same sends safe safely = absurd sends
  some_sent text lines (Err writes.Cut) after still opening same sends safe safely = absurd sends
  some_sent text lines (Err Memory) after still opening same sends safe safely = none_sent after still sends safely
  some_sent text lines (Err WriteFault) after still opening same sends safe safely = part_sent text lines after opening same sends safe

  pub sends_safely : (text : List ℕ) (lines : ℕ) (result : Result ℕ Wrote) (after : Option (List ℕ)) → ((n : ℕ) → Safe n → Safer n) → IsOpening w → found ≡ Lines text lines → Sends result text count lines mid after → (after ≡ mid) ⊎ Safer long → WritesSafely Safe w hold p q before mid
      → WritesSafely Safer w hold p r before after
  sends_safely text lines result after still opening same sends (inl none) safely = none_sent after still none safely
  sends_safely text lines result after still opening same sends (inr safe) safely = some_sent text lines result after still opening same sends safe safely
