-- The walk over a log, gate by gate.
use Rattle.std.proofs.Common.{◌≡◌, ◌≤◌, ◌<◌, ◌^◌, ℕ, ◌+◌, List, [], ◌∷◌, ◌++◌, length, take, drop, refl, sym, ◌∙◌, ap, subst, arith, append_assoc, length-append, take-append-drop, length-drop}
use Rattle.std.specs.Prelude.{codes}
use Rattle.std.specs.Int.{w32, to_be_bytes}
use Rattle.std.proofs.lemmas.List.{take_at, drop_at, take_all, drop-drop, take-append-le, drop-append-le}
use Rattle.std.proofs.lemmas.List.Elements.{All-nil, All-push}
use Rattle.crash_log.specs.Entries.{entry_bytes, Fits}
use Rattle.crash_log.specs.Log.{head_bytes, record_bytes, open_part, IsLog, IsBadGate, HasBadGate}
use Rattle.crash_log.specs.Reading.{HasHead, IsShut, HasRecord, IsReadTo, IsGateFault, IsRecordsFault}
use Rattle.campaign_law.specs.declared.entry.Entry.{Entry}
use Rattle.crash_log.specs.declared.faults.LogFault.{LogFault}
use Rattle.crash_log.specs.declared.faults.LogFault.TheVariants.{DiskFault, BadLog, Full, Memory}
use Rattle.crash_log.proofs.Crash.{open_part-push, length-record}
use Rattle.crash_log.proofs.Creates.{open_none, length-head}

snoc_front : (xs ys : List Entry) (x y : Entry) → xs ++ x ∷ [] ≡ ys ++ y ∷ [] → xs ≡ ys
snoc_front xs ys x y same =
    let long : length ys ≡ length xs = omega (arith, ap length same, length-append xs (x ∷ []), length-append ys (y ∷ [])) in
    sym (take_at xs (x ∷ []) (length xs) refl) ∙ ap (take (length xs)) same ∙ take_at ys (y ∷ []) (length xs) long

module _ (file text : List ℕ) (entries : List Entry) (gate : ℕ) (walk : IsReadTo file text entries gate) where
  pub rest_is : drop gate file ≡ walk.rest
  rest_is = ap (drop gate) walk.is ∙ drop_at (open_part text entries) walk.rest gate (sym walk.at)

  pub gate_within : gate ≤ length file
  gate_within = omega (arith, ap length walk.is, length-append (open_part text entries) walk.rest, walk.at)

  pub walk_bad : IsBadGate gate (drop gate file) → HasBadGate file gate
  walk_bad bad = record {
    text = text;
    entries = entries;
    rest = walk.rest;
    is = walk.is;
    few = walk.few;
    fit = walk.fit;
    at = walk.at;
    earlier = walk.earlier;
    bad = subst (IsBadGate gate) rest_is bad;
  }

  pub walk_end : gate < 2 ^ 30 → IsShut (drop gate file) → IsLog text entries file
  walk_end low shut = record {
    gate = shut.gate;
    behind = shut.behind;
    is = walk.is ∙ ap (λ (l : List ℕ). open_part text entries ++ l) (sym rest_is ∙ shut.is);
    closed = shut.closed;
    few = walk.few;
    fit = walk.fit;
    place = omega (arith, low, walk.at);
  }

  pub walk_on : (e : Entry) (next : ℕ) → gate < 2 ^ 30 → HasRecord (drop gate file) e → next ≡ gate + 5 + length (entry_bytes e) → IsReadTo file text (entries ++ e ∷ []) next
  walk_on e next low there next_is = record {
    rest = there.behind;
    is = walk.is ∙ ap (λ (l : List ℕ). open_part text entries ++ l) (sym rest_is ∙ there.is) ∙ sym (append_assoc (open_part text entries) (record_bytes e) there.behind)
        ∙ ap (λ (l : List ℕ). l ++ there.behind) (sym (open_part-push text entries e));
    at = omega (arith, next_is, walk.at, ap length (open_part-push text entries e), length-append (open_part text entries) (record_bytes e), length-record e);
    few = walk.few;
    fit = All-push Fits entries e walk.fit there.fits;
    earlier = λ front last is. let same : entries ≡ front = snoc_front entries front e last is in omega (arith, low, walk.at, ap (λ (es : List Entry). length (open_part text es)) same);
  }

  pub walk_fault : (fault : LogFault) → IsGateFault gate (drop gate file) fault → IsRecordsFault file fault
  walk_fault DiskFault h = tt
  walk_fault (BadLog at) h = subst (HasBadGate file) (sym h.0) (walk_bad h.1)
  walk_fault Full h = h
  walk_fault Memory h = tt

pub walk_start : (file text : List ℕ) → HasHead file text → IsReadTo file text [] (10 + length text)
walk_start file text head = record {
  rest = head.rest;
  is = head.is ∙ ap (λ (l : List ℕ). l ++ head.rest) (sym (open_none text));
  at = omega (arith, ap length (open_none text), length-head text);
  few = head.few;
  fit = All-nil Fits;
  earlier = λ front e is. absurd (omega (arith, ap length is, length-append front (e ∷ [])));
}

-- ---- the head

pub head_front : (file text rest : List ℕ) → file ≡ head_bytes text ++ rest → take 6 file ≡ codes "TTLOG1"
head_front file text rest is = ap (take 6) is

pub head_size : (file text rest : List ℕ) → file ≡ head_bytes text ++ rest → take 4 (drop 6 file) ≡ to_be_bytes w32 (length text)
head_size file text rest is = ap (λ (l : List ℕ). take 4 (drop 6 l)) is

pub head_long : (file text rest : List ℕ) → file ≡ head_bytes text ++ rest → 10 + length text ≤ length file
head_long file text rest is = omega (arith, ap length is, length-append (head_bytes text) rest, length-head text)

pub head_there : (file text : List ℕ) (size : ℕ) → 10 ≤ length file → take 6 file ≡ codes "TTLOG1" → to_be_bytes w32 size ≡ take 4 (drop 6 file) → text ≡ take size (drop 10 file) → length text ≡ size → size ≤ 16777216 → HasHead file text
head_there file text size enough mark sized is long few = record {
  rest = drop size (drop 10 file);
  is = sym (take-append-drop 6 file)
      ∙ ap (λ (l : List ℕ). take 6 file ++ l) (sym (take-append-drop 4 (drop 6 file)))
      ∙ (λ i. mark i ++ (sym sized i ++ drop-drop 4 6 file i))
      ∙ (λ i. codes "TTLOG1" ++ (to_be_bytes w32 (sym long i) ++ sym (take-append-drop size (drop 10 file)) i))
      ∙ ap (λ (l : List ℕ). codes "TTLOG1" ++ (to_be_bytes w32 (length text) ++ (l ++ drop size (drop 10 file)))) (sym is)
      ∙ ap (λ (l : List ℕ). codes "TTLOG1" ++ l) (sym (append_assoc (to_be_bytes w32 (length text)) text (drop size (drop 10 file))));
  few = omega (arith, long, few);
}

-- ten bytes of the file were read
pub head_from : (piece file text : List ℕ) (size : ℕ) → length piece ≡ 10 → 10 ≤ length file → take 10 piece ≡ take 10 file → take 6 piece ≡ codes "TTLOG1" → to_be_bytes w32 size ≡ take 4 (drop 6 piece)
    → text ≡ take size (drop 10 file) → length text ≡ size → size ≤ 16777216 → HasHead file text
head_from piece file text size l enough same mark sized is long few =
    let whole : piece ≡ take 10 file = sym (take_all 10 piece (omega (arith, l))) ∙ same in
    let split : file ≡ piece ++ drop 10 file = sym (take-append-drop 10 file) ∙ ap (λ (p : List ℕ). p ++ drop 10 file) (sym whole) in
    let mark_there : take 6 file ≡ codes "TTLOG1" = ap (take 6) split ∙ take-append-le 6 piece (drop 10 file) (omega (arith, l)) ∙ mark in
    let size_there : take 4 (drop 6 file) ≡ take 4 (drop 6 piece) =
    ap (λ (f : List ℕ). take 4 (drop 6 f)) split ∙ ap (take 4) (drop-append-le 6 piece (drop 10 file) (omega (arith, l))) ∙ take-append-le 4 (drop 6 piece) (drop 10 file) (omega (arith, l, length-drop 6 piece)) in
    head_there file text size enough mark_there (sized ∙ sym size_there) is long few
