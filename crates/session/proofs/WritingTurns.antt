-- Turn after turn of the writing half.
use Rattle.std.proofs.Common.{◌≡◌, ℕ, suc, ◌≤◌, ◌<◌, ◌+◌, Bool, true, false, cond, eqb, List, [], ◌∷◌, ◌++◌, length, take, drop, map, max, get_or, slice_get, refl, sym, ◌∙◌, ap, subst, arith, append_assoc, length-drop, inl, inr}
use Rattle.std.specs.Prelude.{Option, Some, None, option_map, All, flat_map, filter}
use Rattle.std.specs.Io.KnownBytes.{append_known}
use Rattle.std.proofs.lemmas.List.{append-nil, take-append-le, drop-append-le, take-append-drop, take_all}
use Rattle.std.proofs.lemmas.List.Elements.{All-nil, All-cons, All-append}
use mathlib.Core.List.{IsPrefix}
use Rattle.campaign_law.specs.declared.entry.Entry.{Entry}
use Rattle.campaign_law.specs.declared.entry.Entry.TheVariants.{Join, Line, Leave, Taken, Cut}
use Rattle.campaign_law.specs.Seat.{Seat}
use Rattle.campaign_law.specs.Session.{session, waiting}
use Rattle.campaign_law.specs.World.{World, seat_at, replay}
use Rattle.campaign_law.specs.Law.{IsOpening, bytes_of}
use Rattle.campaign_law.proofs.SessionFronts.{session_grows}
use Rattle.turn_lock.specs.Pass.{PassState, HasTurn, known, hears, places}
use Rattle.turn_lock.proofs.Prefixes.{prefix_self, prefix_trans, prefix_length}
use Rattle.session.specs.declared.hold.Hold.{Hold}
use Rattle.session.specs.declared.exchange.Found.{Found}
use Rattle.session.specs.Held.{is_held, is_cut, lines_of, HasJoined}
use Rattle.session.specs.Exchanged.{WaitsAs, Finds, Exchanged}
use Rattle.session.specs.Own.{StandsAt, Got, IsAlone}
use Rattle.session.specs.declared.writing.Wrote.{Wrote}
use Rattle.session.specs.declared.writing.Wrote.TheVariants.{All as AllWritten, Memory, WriteFault}
use Rattle.session.specs.declared.writing.Wrote.TheVariants as writes
use Rattle.session.specs.Left.{LeftSo}
use Rattle.session.specs.Written.{IsTakenOf, IsWriters, line_ends, HasLines, IsFirst, IsPart, WroteBy, IsCutSo, HasWritten, IsWriting}
use Rattle.session.proofs.Alone.{joined_in_front, alone_in_front, stands_longer, more_counted, takes_within, drops_nothing, waits_next, no_more}

pub append_known-none : (known : Option (List ℕ)) → known ≡ append_known known []
append_known-none None = refl
append_known-none (Some bytes) = ap Some (sym (append-nil bytes))

pub append_known-append : (known : Option (List ℕ)) (xs ys : List ℕ) → append_known (append_known known xs) ys ≡ append_known known (xs ++ ys)
append_known-append None xs ys = refl
append_known-append (Some bytes) xs ys = ap Some (append_assoc bytes xs ys)

pub bytes_of-append : (xs ys : List (List ℕ)) → bytes_of (xs ++ ys) ≡ bytes_of xs ++ bytes_of ys
bytes_of-append [] ys = refl
bytes_of-append (x ∷ xs) ys = ap (λ l. (x ++ 10 ∷ []) ++ l) (bytes_of-append xs ys) ∙ sym (append_assoc (x ++ 10 ∷ []) (bytes_of xs) (bytes_of ys))

-- ---- before the first turn

pub starts : (w : World) (hold : Hold) (p : PassState Entry World) (n : ℕ) (before : Option (List ℕ)) → hold.place < n → IsWriting w hold p (hears p n) 0 before before
starts w hold p n before past = record {
  more = [];
  text = [];
  got = record { front = prefix_self p.front; number = refl; own = sym (append-nil p.own); each = All-nil _ };
  heard = omega (arith, past);
  has = record { written = append_known-none before; counted = omega arith };
  fresh = inr (refl, refl);
  wrote = λ joined alone. record { within = omega arith; text_is = refl };
}

-- ---- a turn

-- the first lines of a session are those of it in a longer history
first_longer : (lines more : List (List ℕ)) (count : ℕ) (text : List ℕ) → IsPrefix lines more → IsFirst lines count text → IsFirst more count text
first_longer lines more count text prefix first = record {
  within = let l = prefix_length lines more prefix in omega (arith, first.within);
  text_is = first.text_is ∙ ap bytes_of (sym (take-append-le count lines prefix.0 first.within) ∙ ap (take count) prefix.1);
}

pub lines_longer : (w : World) (f h : List Entry) (hold : Hold) → IsPrefix f h → hold.place < length f → IsPrefix (lines_of w f hold) (lines_of w h hold)
lines_longer w f h hold prefix long = subst (λ l. IsPrefix (lines_of w f hold) (lines_of w l hold)) prefix.1 (session_grows w f prefix.0 hold.place hold.seat (omega arith))

late_places : (entered : Bool) (e : Entry) (n m : ℕ) → n ≤ m → All (λ k. n ≤ k) (places m (cond entered (e ∷ []) []))
late_places true e n m le = All-cons (λ k. n ≤ k) m [] le (All-nil _)
late_places false e n m le = All-nil _

pub stands_last : (rule : List Entry → Entry → Type 0) (found : List Entry) (entered : Bool) (e : Entry) → (entered ≡ true → rule found e) → All (StandsAt rule (found ++ cond entered (e ∷ []) [])) (places (length found) (cond entered (e ∷ []) []))
stands_last rule found false e lawful = All-nil _
stands_last rule found true e lawful =
    All-cons (StandsAt rule (found ++ e ∷ [])) (length found) []
    (record { entry = e; there = get_at_end found e; lawful = subst (λ l. rule l e) (sym (take-append-le (length found) found (e ∷ []) (omega arith) ∙ take_all (length found) found (omega arith))) (lawful refl) })
    (All-nil _)
  where
    get_at_end : (xs : List Entry) (x : Entry) → slice_get (xs ++ x ∷ []) (length xs) ≡ Some x
    get_at_end [] x = refl
    get_at_end (y ∷ xs) x = get_at_end xs x

module _ (w : World) (hold : Hold) (p q r : PassState Entry World) (count : ℕ) (before mid : Option (List ℕ)) where
  -- after a turn of the writing half it goes on
  pub exchanged : (entered : Bool) (found : Found) (long : ℕ) → IsWriting w hold p q count before mid → r.number ≡ q.number
      → HasTurn (λ f l. Exchanged w hold count f entered found l × (long ≡ length l)) (cond entered (Taken hold.seat count ∷ []) []) (known q) (known r)
      → IsWriting w hold p r count before mid × (hold.place < length r.front) × Finds w hold count r.front found
  exchanged entered found long is number turn =
      let e : Entry = Taken hold.seat count in
      let es : List Entry = cond entered (e ∷ []) [] in
      let f : List Entry = turn.found in
      let new : List ℕ = places (length f) es in
      let begins : IsPrefix q.front f = turn.begins in
      let grows : IsPrefix f r.front = (es, sym turn.front_is) in
      let prefix : IsPrefix q.front r.front = prefix_trans q.front f r.front begins grows in
      let longer = prefix_length f r.front grows in
      let older = prefix_length q.front f begins in
      let past : hold.place < length f = (let a = is.heard in let b = turn.as_long in omega arith) in
      let last : All (StandsAt (IsTakenOf w hold count) r.front) new = subst (λ l. All (StandsAt (IsTakenOf w hold count) l) new) (sym turn.front_is) (stands_last (IsTakenOf w hold count) f entered e (λ did. (refl, omega arith, turn.has_run.0.held did))) in (
        record {
          more = is.more ++ new;
          text = is.text;
          got = record {
            front = prefix_trans p.front q.front r.front is.got.front prefix;
            number = number ∙ is.got.number;
            own = turn.own_is ∙ ap (λ l. l ++ new) is.got.own ∙ append_assoc p.own is.more new;
            each = All-append (StandsAt (IsTakenOf w hold count) r.front) is.more new (stands_longer (IsTakenOf w hold count) q.front r.front is.more prefix is.got.each) last;
          };
          heard = (let a = is.heard in let b = turn.heard_is in omega (arith, a, b));
          has = is.has;
          fresh = inl (omega arith);
          wrote = λ joined alone. elim is.fresh [
            | inl there ↦ first_longer (lines_of w q.front hold) (lines_of w r.front hold) count is.text (lines_longer w q.front r.front hold prefix there)
                (is.wrote (joined_in_front w q.front r.front hold prefix there joined) (alone_in_front w q.front r.front is.more new hold prefix (late_places entered e (length q.front) (length f) older) alone))
            | inr none ↦ record { within = omega (arith, none.0); text_is = none.1 ∙ sym (ap (λ n. bytes_of (take n (lines_of w r.front hold))) none.0) }
          ];
        },
        omega arith,
        turn.has_run.0.finds,
      )

-- ---- what was found is written

length-with_ends : (lines : List (List ℕ)) → length (map (λ line. line ++ 10 ∷ []) lines) ≡ length lines
length-with_ends [] = refl
length-with_ends (line ∷ lines) = ap suc (length-with_ends lines)

joined-map : (lines : List (List ℕ)) → flat_map (λ line. line) (map (λ line. line ++ 10 ∷ []) lines) ≡ bytes_of lines
joined-map [] = refl
joined-map (line ∷ lines) = ap (λ l. (line ++ 10 ∷ []) ++ l) (joined-map lines)

pub bytes_of-parts : (count : ℕ) (lines : List (List ℕ)) → bytes_of (take count lines) ++ bytes_of (drop count lines) ≡ bytes_of lines
bytes_of-parts count lines = sym (bytes_of-append (take count lines) (drop count lines)) ∙ ap bytes_of (take-append-drop count lines)

ends_one : (x : ℕ) (xs ys zs : List ℕ) → line_ends zs ≡ line_ends xs + line_ends ys → line_ends (x ∷ zs) ≡ line_ends (x ∷ xs) + line_ends ys
ends_one x xs ys zs rest = by_end (eqb x 10)
  where
    by_end : (b : Bool) → length (cond b (x ∷ filter (λ byte. eqb byte 10) zs) (filter (λ byte. eqb byte 10) zs)) ≡ length (cond b (x ∷ filter (λ byte. eqb byte 10) xs) (filter (λ byte. eqb byte 10) xs)) + line_ends ys
    by_end true = omega (arith, rest)
    by_end false = rest

line_ends-append : (xs ys : List ℕ) → line_ends (xs ++ ys) ≡ line_ends xs + line_ends ys
line_ends-append [] ys = omega arith
line_ends-append (x ∷ xs) ys = ends_one x xs ys (xs ++ ys) (line_ends-append xs ys)

-- each line with its LF has one
whole_lines : (lines : List (List ℕ)) → length lines ≤ line_ends (bytes_of lines)
whole_lines [] = omega arith
whole_lines (line ∷ lines) =
    let a = line_ends-append (line ++ 10 ∷ []) (bytes_of lines) in
    let b = line_ends-append line (10 ∷ []) in
    let rest = whole_lines lines in
    omega (arith, a, b, rest)

-- whatever waits is lines with their LFs
waiting_ends : (w : World) (h : List Entry) (hold : Hold) (count : ℕ) (text : List ℕ) (number : ℕ) → WaitsAs w h hold count text number → number ≤ line_ends text
waiting_ends w h hold count text number found = by_seat (seat_at (replay w h) hold.seat) found.waits
  where
    by_seat : (s : Option Seat) → Some found.lines ≡ option_map (λ s. waiting count s.taken (session w h hold.seat)) s → number ≤ line_ends text
    by_seat None is = cc
    by_seat (Some s) is =
        let ls : List (List ℕ) = drop (max count s.taken) (session w h hold.seat) in
        let same : found.lines ≡ map (λ line. line ++ 10 ∷ []) ls = cc (is) in
        let a : line_ends text ≡ line_ends (bytes_of ls) = ap line_ends (found.text_is ∙ ap (flat_map (λ line. line)) same ∙ joined-map ls) in
        let b : number ≡ length ls = found.number_is ∙ ap length same ∙ length-with_ends ls in
        let c = whole_lines ls in
        omega (arith, a, b, c)

-- what was written before, and more
has_more : (text more : List ℕ) (count further : ℕ) (before mid after : Option (List ℕ)) → HasLines text count before mid → further ≤ line_ends more → after ≡ append_known mid more → HasLines (text ++ more) (count + further) before after
has_more text more count further before mid after has le written = record {
  written = written ∙ ap (λ known. append_known known more) has.written ∙ append_known-append before text more;
  counted = let a = line_ends-append text more in let b = has.counted in omega (arith, a, b, le);
}

module _ (w : World) (hold : Hold) (p r : PassState Entry World) (count : ℕ) (before mid : Option (List ℕ)) (text : List ℕ) (number : ℕ) (opening : IsOpening w) (is : IsWriting w hold p r count before mid) (long : hold.place < length r.front) (held : is_held w r.front hold ≡ true) (found : WaitsAs w r.front hold count text number) where
  -- the lines that were found are the next ones of the session
  next_lines : HasJoined w r.front hold → IsAlone w r.front is.more hold → found.lines ≡ map (λ line. line ++ 10 ∷ []) (drop count (lines_of w r.front hold))
  next_lines joined alone = waits_next w r.front hold count opening joined long (takes_within w r.front is.more hold count alone is.got.each) found.lines alone.once held found.waits

  next_text : HasJoined w r.front hold → IsAlone w r.front is.more hold → text ≡ bytes_of (drop count (lines_of w r.front hold))
  next_text joined alone = found.text_is ∙ ap (flat_map (λ line. line)) (next_lines joined alone) ∙ joined-map (drop count (lines_of w r.front hold))

  -- whoever takes them, they are lines with their LFs
  found_ends : number ≤ line_ends text
  found_ends = waiting_ends w r.front hold count text number found

  pub writes_on : (after : Option (List ℕ)) → after ≡ append_known mid text → IsWriting w hold p r (count + number) before after
  writes_on after written = record {
    more = is.more;
    text = is.text ++ text;
    got = record { front = is.got.front; number = is.got.number; own = is.got.own; each = more_counted w hold count (count + number) r.front is.more (omega arith) is.got.each };
    heard = is.heard;
    has = has_more is.text text count number before mid after is.has found_ends written;
    fresh = inl long;
    wrote = λ joined alone.
        let all : List (List ℕ) = lines_of w r.front hold in
        let first = is.wrote joined alone in
        let many : count + number ≡ length all = omega (arith, first.within, found.number_is, ap length (next_lines joined alone) ∙ length-with_ends (drop count all) ∙ length-drop count all) in
        record {
          within = omega (arith, many);
          text_is =
              (λ i. first.text_is i ++ next_text joined alone i)
              ∙ bytes_of-parts count all
              ∙ sym (ap bytes_of (take_all (count + number) all (omega (arith, many))));
        };
  }

  -- a part of what was found
  pub writes_part : (part : List ℕ) → IsPrefix part text → HasJoined w r.front hold → IsAlone w r.front is.more hold → IsPart (lines_of w r.front hold) count (is.text ++ part)
  writes_part part prefix joined alone =
      let first = is.wrote joined alone in
      record {
        within = first.within;
        part = part;
        prefix = subst (IsPrefix part) (next_text joined alone) prefix;
        text_is = ap (λ l. l ++ part) first.text_is;
      }

-- ---- the end

writers_of : (w : World) (hold : Hold) (count : ℕ) (l : List Entry) (e : Entry) → IsTakenOf w hold count l e → IsWriters w hold count l e
writers_of w hold count l (Join seat key reader writer) is = is
writers_of w hold count l (Line seat bytes) is = is
writers_of w hold count l (Leave seat drop) is = absurd is
writers_of w hold count l (Taken seat taken) is = is
writers_of w hold count l (Cut seat) is = absurd is

all_writers : (w : World) (hold : Hold) (count : ℕ) (h : List Entry) (own : List ℕ) → All (StandsAt (IsTakenOf w hold count) h) own → All (StandsAt (IsWriters w hold count) h) own
all_writers w hold count h own each = λ i d lt. let at = each i d lt in record { entry = at.entry; there = at.there; lawful = writers_of w hold count (take (get_or own i d) h) at.entry at.lawful }

-- its passes no longer hold the seat, so all was written
pub writes_all : (w : World) (hold : Hold) (p r : PassState Entry World) (count : ℕ) (before mid : Option (List ℕ)) → IsOpening w → IsWriting w hold p r count before mid → hold.place < length r.front → is_held w r.front hold ≡ false → is_cut w r.front hold ≡ false → HasWritten w hold p r AllWritten before mid
writes_all w hold p r count before mid opening is long gone uncut = record {
  more = is.more;
  count = count;
  text = is.text;
  got = record { front = is.got.front; number = is.got.number; own = is.got.own; each = all_writers w hold count r.front is.more is.got.each };
  drops = λ _. is.got.each;
  cut = uncut;
  long = long;
  gone = gone;
  has = is.has;
  wrote = λ joined alone.
      let all : List (List ℕ) = lines_of w r.front hold in
      let first = is.wrote joined alone in
      let most = no_more w r.front hold count opening joined long (takes_within w r.front is.more hold count alone is.got.each) (drops_nothing w r.front is.more hold count alone is.got.each joined uncut) gone in
      let many : count ≡ length all = omega (arith, first.within, most) in
      (many, first.text_is ∙ ap bytes_of (take_all count all (omega (arith, many))));
}

-- the session was cut, and what waited was dropped
pub writes_until_cut : (w : World) (hold : Hold) (p r : PassState Entry World) (count : ℕ) (before mid : Option (List ℕ)) → IsWriting w hold p r count before mid → hold.place < length r.front → is_held w r.front hold ≡ false → is_cut w r.front hold ≡ true → HasWritten w hold p r writes.Cut before mid
writes_until_cut w hold p r count before mid is long gone cut = record {
  more = is.more;
  count = count;
  text = is.text;
  got = record { front = is.got.front; number = is.got.number; own = is.got.own; each = all_writers w hold count r.front is.more is.got.each };
  drops = λ all. cc;
  cut = cut;
  long = long;
  gone = gone;
  has = is.has;
  wrote = is.wrote;
}

-- what was written before a last turn
record Before (end : Wrote) (w : World) (hold : Hold) (p r : PassState Entry World) (count : ℕ) (before after : Option (List ℕ)) : Type 0 where
  more : List ℕ
  text : List ℕ
  got : Got (IsTakenOf w hold count) p r more
  long : hold.place < length r.front
  has : HasLines text count before after
  wrote : HasJoined w r.front hold → IsAlone w r.front more hold → WroteBy end (lines_of w r.front hold) count text

drop_prefix : (count : ℕ) (lines more : List (List ℕ)) → count ≤ length lines → IsPrefix lines more → IsPrefix (bytes_of (drop count lines)) (bytes_of (drop count more))
drop_prefix count lines more le prefix = (bytes_of prefix.0, sym (bytes_of-append (drop count lines) prefix.0) ∙ ap bytes_of (sym (drop-append-le count lines prefix.0 le) ∙ ap (drop count) prefix.1))

by_longer : (end : Wrote) (lines more : List (List ℕ)) (count : ℕ) (text : List ℕ) → IsPrefix lines more → (end ≡ AllWritten → ⊥) → WroteBy end lines count text → WroteBy end more count text
by_longer AllWritten lines more count text prefix stopped wrote = absurd (stopped refl)
by_longer writes.Cut lines more count text prefix stopped wrote = first_longer lines more count text prefix wrote
by_longer Memory lines more count text prefix stopped wrote = first_longer lines more count text prefix wrote
by_longer WriteFault lines more count text prefix stopped wrote = record {
  within = (let l = prefix_length lines more prefix in omega (arith, wrote.within));
  part = wrote.part;
  prefix = prefix_trans wrote.part (bytes_of (drop count lines)) (bytes_of (drop count more)) wrote.prefix (drop_prefix count lines more wrote.within prefix);
  text_is = wrote.text_is ∙ ap (λ ls. bytes_of ls ++ wrote.part) (sym (take-append-le count lines prefix.0 wrote.within) ∙ ap (take count) prefix.1);
}

-- the turn in which it leaves the seat
gives_up : (end : Wrote) (w : World) (hold : Hold) (p r s : PassState Entry World) (count : ℕ) (before after : Option (List ℕ)) (entered cut : Bool) → (end ≡ AllWritten → ⊥) → IsCutSo end w s.front hold → Before end w hold p r count before after → s.number ≡ r.number
    → HasTurn (λ f l. LeftSo w hold true f entered cut l) (cond entered (Leave hold.seat true ∷ []) []) (known r) (known s) → HasWritten w hold p s end before after
gives_up end w hold p r s count before after entered cut stopped cut_so is number turn =
    let e : Entry = Leave hold.seat true in
    let es : List Entry = cond entered (e ∷ []) [] in
    let f : List Entry = turn.found in
    let new : List ℕ = places (length f) es in
    let begins : IsPrefix r.front f = turn.begins in
    let grows : IsPrefix f s.front = (es, sym turn.front_is) in
    let prefix : IsPrefix r.front s.front = prefix_trans r.front f s.front begins grows in
    let whole = prefix_length r.front s.front prefix in
    let older = prefix_length r.front f begins in
    let old : All (StandsAt (IsWriters w hold count) s.front) is.more = stands_longer (IsWriters w hold count) r.front s.front is.more prefix (all_writers w hold count r.front is.more is.got.each) in
    let last : All (StandsAt (IsWriters w hold count) s.front) new = subst (λ l. All (StandsAt (IsWriters w hold count) l) new) (sym turn.front_is) (stands_last (IsWriters w hold count) f entered e (λ did. (refl, refl, turn.has_run.left.held did))) in
    record {
      more = is.more ++ new;
      count = count;
      text = is.text;
      got = record {
        front = prefix_trans p.front r.front s.front is.got.front prefix;
        number = number ∙ is.got.number;
        own = turn.own_is ∙ ap (λ l. l ++ new) is.got.own ∙ append_assoc p.own is.more new;
        each = All-append (StandsAt (IsWriters w hold count) s.front) is.more new old last;
      };
      drops = λ all. absurd (stopped all);
      cut = cut_so;
      long = (let l = is.long in omega arith);
      gone = turn.has_run.left.gone refl;
      has = is.has;
      wrote = λ joined alone. by_longer end (lines_of w r.front hold) (lines_of w s.front hold) count is.text (lines_longer w r.front s.front hold prefix is.long) stopped
          (is.wrote (joined_in_front w r.front s.front hold prefix is.long joined) (alone_in_front w r.front s.front is.more new hold prefix (late_places entered e (length r.front) (length f) older) alone));
    }

pub stops_for_memory : (w : World) (hold : Hold) (p r s : PassState Entry World) (count : ℕ) (before mid : Option (List ℕ)) (entered cut : Bool) → IsWriting w hold p r count before mid → hold.place < length r.front → s.number ≡ r.number
    → HasTurn (λ f l. LeftSo w hold true f entered cut l) (cond entered (Leave hold.seat true ∷ []) []) (known r) (known s) → HasWritten w hold p s Memory before mid
stops_for_memory w hold p r s count before mid entered cut is long number turn =
    gives_up Memory w hold p r s count before mid entered cut (λ e. cc) tt (record { more = is.more; text = is.text; got = is.got; long = long; has = is.has; wrote = is.wrote }) number turn

pub stops_for_fault : (w : World) (hold : Hold) (p r s : PassState Entry World) (count : ℕ) (before mid after : Option (List ℕ)) (text part : List ℕ) (number : ℕ) (entered cut : Bool) → IsOpening w → (is : IsWriting w hold p r count before mid) → hold.place < length r.front → is_held w r.front hold ≡ true → WaitsAs w r.front hold count text number
    → IsPrefix part text → after ≡ append_known mid part → s.number ≡ r.number
    → HasTurn (λ f l. LeftSo w hold true f entered cut l) (cond entered (Leave hold.seat true ∷ []) []) (known r) (known s) → HasWritten w hold p s WriteFault before after
stops_for_fault w hold p r s count before mid after text part number entered cut opening is long held found prefix written numbers turn =
    gives_up WriteFault w hold p r s count before after entered cut (λ e. cc) tt
    (record {
      more = is.more;
      text = is.text ++ part;
      got = is.got;
      long = long;
      has = record { written = written ∙ ap (λ known. append_known known part) is.has.written ∙ append_known-append before is.text part; counted = (let a = line_ends-append is.text part in let b = is.has.counted in omega (arith, a, b)) };
      wrote = writes_part w hold p r count before mid text number opening is long held found part prefix;
    }) numbers turn
