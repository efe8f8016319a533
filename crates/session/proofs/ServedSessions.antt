-- Both halves in one history.
use Rattle.std.proofs.Common.{◌≡◌, ◌≢◌, ℕ, ◌≤◌, ◌<◌, Bool, true, false, cond, eqb, ◌&&◌, List, ◌∷◌, ◌++◌, length, take, suc, drop, slice_get, get_or, refl, sym, ◌∙◌, ap, subst, arith, inl, inr, append_assoc}
use Rattle.std.specs.Prelude.{Option, Some, All, Contains}
use Rattle.std.proofs.lemmas.List.{take-append-le, take_all}
use Rattle.std.proofs.lemmas.List.Elements.{All-cons, All-contains, Contains-append_cases}
use Rattle.std.proofs.lemmas.Option.{slice_get_within}
use mathlib.Core.List.{IsPrefix}
use Rattle.campaign_law.specs.declared.entry.Entry.{Entry}
use Rattle.campaign_law.specs.declared.entry.Entry.TheVariants.{Join, Line, Leave, Taken, Cut}
use Rattle.campaign_law.specs.World.{World, seat_at, replay}
use Rattle.campaign_law.specs.Law.{IsOpening, bytes_of}
use Rattle.campaign_law.proofs.SessionFronts.{session_stays, ended_stays}
use Rattle.turn_lock.specs.Pass.{PassState}
use Rattle.turn_lock.proofs.Prefixes.{prefix_get, prefix_self, prefix_trans}
use Rattle.line_io.specs.Told.{WhereTold}
use Rattle.line_io.specs.Reader.{bytes_to_come}
use Rattle.line_io.specs.ReaderState.{ReaderState}
use Rattle.session.specs.declared.hold.Hold.{Hold}
use Rattle.session.specs.declared.hearing.ReadEnd.{ReadEnd}
use Rattle.session.specs.declared.hearing.ReadEnd.TheVariants.{Bye, Spent, Stopped}
use Rattle.session.specs.declared.hearing.ReadEnd.TheVariants as read_ends
use Rattle.session.specs.declared.input.Stop.{Stop}
use Rattle.session.specs.declared.input.Stop.TheVariants.{End, TooLong, ReadFault, Memory as NoMemory}
use Rattle.session.specs.declared.sitting.Ended.{Ended}
use Rattle.session.specs.declared.sitting.Ended.TheVariants.{Left as LeftSo}
use Rattle.session.specs.declared.sitting.Ended.TheVariants as ends
use Rattle.session.specs.declared.writing.Wrote.{Wrote}
use Rattle.session.specs.declared.writing.Wrote.TheVariants.{All as AllWritten, Memory, WriteFault}
use Rattle.session.specs.declared.writing.Wrote.TheVariants as write_ends
use Rattle.session.specs.Held.{is_read, is_cut, is_over, lines_of, HasJoined}
use Rattle.session.specs.Own.{StandsAt, takes_from, IsAlone}
use Rattle.session.specs.Heard.{IsReaders, CameBut, AreFirst, IsByeAt, IsSpentAt, IsUnspent, IsClosedBy, ClosedBy, HasHeard}
use Rattle.campaign_law.specs.Outcome.{seat_of}
use Rattle.campaign_law.specs.Session.{closes}
use Rattle.session.proofs.GoneSessions.{taken_never_closes, read_throughout}
use Rattle.session.specs.Ends.{ended_by, is_whole, wants_memory}
use Rattle.session.specs.Inputs.{Stops, CamePast}
use Rattle.session.specs.Spoken.{is_spent}
use Rattle.session.specs.Written.{IsTakenOf, IsWriters, IsFirst, WroteBy, IsCutSo, HasWritten}
use Rattle.session.specs.Served.{is_of_session, IsUndisturbed, IsFront, IsCause, IsServed}
use Rattle.session.proofs.Alone.{joined_in_front, stands_longer, over_when_gone}
use Rattle.session.proofs.MachineLines.{printed_by_machine}
use Rattle.session.proofs.ReadingTurns.{lines_at-longer, cuts_longer}
use Rattle.session.proofs.Cutting.{cut_longer}
use Rattle.session.proofs.WritingTurns.{bytes_of-append, bytes_of-parts, lines_longer}

-- an entry by which lines are taken or dropped is one of the session, and none of the reading half's
takes_of_session : (seat : ℕ) (e : Entry) → takes_from seat e ≡ true → is_of_session seat e ≡ true
takes_of_session seat (Join s key reader writer) takes = cc
takes_of_session seat (Line s bytes) takes = cc
takes_of_session seat (Leave s drop) takes = second drop (eqb s seat) takes
  where
    second : (a b : Bool) → (a && b) ≡ true → b ≡ true
    second true b h = h
    second false b h = cc
takes_of_session seat (Taken s count) takes = takes
takes_of_session seat (Cut s) takes = cc

readers_take_none : (w : World) (hold : Hold) (l : List Entry) (e : Entry) → IsReaders w hold l e → takes_from hold.seat e ≡ true → ⊥
readers_take_none w hold l (Join seat key reader writer) is takes = is
readers_take_none w hold l (Line seat bytes) is takes = cc
readers_take_none w hold l (Leave seat drop) is takes = let z : false ≡ true = sym (ap (λ b. b && eqb seat hold.seat) is.1) ∙ takes in cc
readers_take_none w hold l (Taken seat count) is takes = is
readers_take_none w hold l (Cut seat) is takes = cc

front_take : {A : Type 0} (k : ℕ) (f h : List A) → IsPrefix f h → k ≤ length f → take k h ≡ take k f
front_take k f h prefix le = ap (take k) (sym prefix.1) ∙ take-append-le k f prefix.0 le

-- nobody else takes the lines of an undisturbed session
pub alone_of : (w : World) (f h : List Entry) (readers writers : List ℕ) (hold : Hold) → IsPrefix f h → All (StandsAt (IsReaders w hold) h) readers → IsUndisturbed w h (readers ++ writers) hold → IsAlone w f writers hold
alone_of w f h readers writers hold prefix each quiet = record {
  takes = λ k e behind open_ there takes.
      let lt = slice_get_within f k e there in
      let in_whole = prefix_get f h k e prefix there in
      elim (Contains-append_cases readers writers k (quiet.own_alone k e behind (ap (λ l. is_over w l hold) (front_take k f h prefix (omega arith)) ∙ open_) in_whole (takes_of_session hold.seat e takes))) [
        | inl theirs ↦ (
            let at = All-contains (StandsAt (IsReaders w hold) h) readers k each theirs in
            let same : at.entry ≡ e = cc (at.there, in_whole) in
            absurd (readers_take_none w hold (take k h) e (subst (IsReaders w hold (take k h)) same at.lawful) takes))
        | inr mine ↦ mine
      ];
  once = λ k key behind there. quiet.once k key behind (prefix_get f h k (Join hold.seat key hold.reader hold.writer) prefix there);
}

prefix_append : {A : Type 0} (xs ys zs : List A) → IsPrefix ys zs → IsPrefix (xs ++ ys) (xs ++ zs)
prefix_append xs ys zs prefix = (prefix.0, append_assoc xs ys prefix.0 ∙ ap (λ l. xs ++ l) prefix.1)

pub wrote_first : (lines : List (List ℕ)) (count : ℕ) (text : List ℕ) → IsFirst lines count text → IsFront lines count text
wrote_first lines count text wrote = record {
  prefix = subst (λ l. IsPrefix l (bytes_of lines)) (sym wrote.text_is) (bytes_of (drop count lines), bytes_of-parts count lines);
  whole = subst (λ l. IsPrefix (bytes_of (take count lines)) l) (sym wrote.text_is) (prefix_self (bytes_of (take count lines)));
}

-- what was written of the lines in a front is so of all of them
pub wrote_front : (end : Wrote) (lines : List (List ℕ)) (count : ℕ) (text : List ℕ) → WroteBy end lines count text → IsFront lines count text
wrote_front AllWritten lines count text wrote = record {
  prefix = subst (λ l. IsPrefix l (bytes_of lines)) (sym wrote.1) (prefix_self (bytes_of lines));
  whole = subst (λ l. IsPrefix (bytes_of (take count lines)) l) (sym wrote.1) (subst (λ l. IsPrefix (bytes_of l) (bytes_of lines)) (sym (take_all count lines (omega (arith, wrote.0)))) (prefix_self (bytes_of lines)));
}
wrote_front write_ends.Cut lines count text wrote = wrote_first lines count text wrote
wrote_front Memory lines count text wrote = wrote_first lines count text wrote
wrote_front WriteFault lines count text wrote = record {
  prefix = subst (λ l. IsPrefix l (bytes_of lines)) (sym wrote.text_is) (subst (IsPrefix (bytes_of (take count lines) ++ wrote.part)) (bytes_of-parts count lines) (prefix_append (bytes_of (take count lines)) wrote.part (bytes_of (drop count lines)) wrote.prefix));
  whole = (wrote.part, sym wrote.text_is);
}

front_longer : (lines more : List (List ℕ)) (count : ℕ) (text : List ℕ) → IsPrefix lines more → count ≤ length lines → IsFront lines count text → IsFront more count text
front_longer lines more count text prefix le wrote = record {
  prefix = prefix_trans text (bytes_of lines) (bytes_of more) wrote.prefix (bytes_of prefix.0, sym (bytes_of-append lines prefix.0) ∙ ap bytes_of prefix.1);
  whole = subst (λ l. IsPrefix (bytes_of l) text) (sym (sym (ap (take count) prefix.1) ∙ take-append-le count lines prefix.0 le)) wrote.whole;
}

within_of : (end : Wrote) (lines : List (List ℕ)) (count : ℕ) (text : List ℕ) → WroteBy end lines count text → count ≤ length lines
within_of AllWritten lines count text wrote = omega (arith, wrote.0)
within_of write_ends.Cut lines count text wrote = wrote.within
within_of Memory lines count text wrote = wrote.within
within_of WriteFault lines count text wrote = wrote.within

quiet_in_front : (w : World) (f h : List Entry) (own : List ℕ) (hold : Hold) → IsPrefix f h → IsUndisturbed w h own hold → IsUndisturbed w f own hold
quiet_in_front w f h own hold prefix quiet = record {
  own_alone = λ k e behind open_ there is.
      let lt = slice_get_within f k e there in
      quiet.own_alone k e behind (ap (λ l. is_over w l hold) (front_take k f h prefix (omega arith)) ∙ open_) (prefix_get f h k e prefix there) is;
  once = λ k key behind there. quiet.once k key behind (prefix_get f h k (Join hold.seat key hold.reader hold.writer) prefix there);
}

-- a reading half whose session is undisturbed, and whose writing half dropped nothing, always finds the seat Joined
never_gone : (w : World) (h : List Entry) (hold : Hold) (p q s t : PassState Entry World) (read : ReadEnd) (gone : Bool) (wrote : Wrote) (text rest before after : Option (List ℕ)) → HasJoined w h hold → (gone ≡ true → is_read w (take (suc hold.place) h) hold ≡ true)
    → (heard : HasHeard w hold p q read gone text rest) → (written : HasWritten w hold s t wrote before after) → wrote ≡ AllWritten → is_cut w q.front hold ≡ false → hold.place < length q.front → IsPrefix q.front h → IsPrefix t.front h
    → IsUndisturbed w h (heard.more ++ written.more) hold → gone ≡ false
never_gone w h hold p q s t read gone wrote text rest before after joined begun heard written all uncut long reads writes quiet = by_gone gone refl
  where
    harmless : (k : ℕ) (e : Entry) → Contains written.more k → slice_get q.front k ≡ Some e → (closes e && eqb (seat_of e) hold.seat) ≡ true → ⊥
    harmless k e mine there closing =
        let at = All-contains (StandsAt (IsTakenOf w hold written.count) t.front) written.more k (written.drops all) mine in
        let a = prefix_get t.front h k at.entry writes at.there in
        let b = prefix_get q.front h k e reads there in
        let same : at.entry ≡ e = cc (a, b) in
        taken_never_closes w hold written.count (take k t.front) e (subst (IsTakenOf w hold written.count (take k t.front)) same at.lawful) closing

    by_gone : (b : Bool) → gone ≡ b → b ≡ false
    by_gone false e = refl
    by_gone true e =
        let begun_there = ap (λ l. is_read w l hold) (sym (front_take (suc hold.place) q.front h reads (omega (arith, long)))) ∙ begun e in
        let read = read_throughout w q.front hold (joined_in_front w q.front h hold reads long joined) begun_there heard.more written.more uncut (heard.kept e) harmless (quiet_in_front w q.front h (heard.more ++ written.more) hold reads quiet) (length q.front) long (omega arith) in
        let z : true ≡ false = sym read ∙ ap (λ l. is_read w l hold) (take_all (length q.front) q.front (omega arith)) ∙ heard.closed in absurd cc

-- ---- how it ended

never_whole : (b : Bool) → is_whole (cond b ends.Memory ends.Cut) ≡ true → ⊥
never_whole true so = cc
never_whole false so = cc

never_left : (b : Bool) → cond b ends.Memory ends.Cut ≡ LeftSo → ⊥
never_left true so = cc
never_left false so = cc

-- how a session ended that wasn't stopped: all was written, and neither a cut nor want of memory ended its reading
record IsWhole (read : ReadEnd) (wrote : Wrote) : Type 0 where
  wrote_all : wrote ≡ AllWritten
  memory : read ≢ Stopped NoMemory
  uncut : read ≢ read_ends.Cut

whole_of : (read : ReadEnd) (wrote : Wrote) → is_whole (ended_by read wrote) ≡ true → IsWhole read wrote
whole_of Bye AllWritten so = record { wrote_all = refl; memory = λ e. cc; uncut = λ e. cc }
whole_of Spent AllWritten so = record { wrote_all = refl; memory = λ e. cc; uncut = λ e. cc }
whole_of read_ends.Cut AllWritten so = cc
whole_of (Stopped End) AllWritten so = record { wrote_all = refl; memory = λ e. cc; uncut = λ e. cc }
whole_of (Stopped TooLong) AllWritten so = record { wrote_all = refl; memory = λ e. cc; uncut = λ e. cc }
whole_of (Stopped ReadFault) AllWritten so = record { wrote_all = refl; memory = λ e. cc; uncut = λ e. cc }
whole_of (Stopped NoMemory) AllWritten so = cc
whole_of read write_ends.Cut so = absurd (never_whole (wants_memory read) so)
whole_of read Memory so = cc
whole_of read WriteFault so = cc

-- neither front has a Cut of it
pub whole_uncut : (w : World) (hold : Hold) (p q s t : PassState Entry World) (read : ReadEnd) (gone : Bool) (wrote : Wrote) (ended : Ended) (text rest before after : Option (List ℕ)) → ended ≡ ended_by read wrote → HasHeard w hold p q read gone text rest → HasWritten w hold s t wrote before after → is_whole ended ≡ true
    → (is_cut w q.front hold ≡ false) × (is_cut w t.front hold ≡ false)
whole_uncut w hold p q s t read gone wrote ended text rest before after end heard written so =
    let all = whole_of read wrote (ap is_whole (sym end) ∙ so) in
    (heard.uncut all.uncut all.memory, subst (λ x. IsCutSo x w t.front hold) all.wrote_all written.cut)

-- one that just left wasn't ended by the seat's last line
left_of : (read : ReadEnd) (wrote : Wrote) → ended_by read wrote ≡ LeftSo → (read ≢ Spent) × (read ≢ read_ends.Cut)
left_of Bye AllWritten so = ((λ e. cc), (λ e. cc))
left_of Spent AllWritten so = cc
left_of read_ends.Cut AllWritten so = cc
left_of (Stopped stop) AllWritten so = ((λ e. cc), (λ e. cc))
left_of read write_ends.Cut so = absurd (never_left (wants_memory read) so)
left_of read Memory so = cc
left_of read WriteFault so = cc

-- the cause in a front of the history is one in the whole
module _ (w : World) (f h : List Entry) (hold : Hold) (own : List ℕ) (reader : ReaderState) (left : Option (List ℕ)) (prefix : IsPrefix f h) (long : hold.place < length f) (within : All (λ k. k < length f) own) where
  spent_longer : (k : ℕ) → k < length f → IsSpentAt w f hold.seat k → IsSpentAt w h hold.seat k
  spent_longer k lt is = ap (λ l. is_spent (seat_at (replay w l) hold.seat)) (front_take (suc k) f h prefix (omega arith)) ∙ is

  bye_longer : (k : ℕ) → IsByeAt f hold.seat k → IsByeAt h hold.seat k
  bye_longer k is = record { bytes = is.bytes; there = prefix_get f h k (Line hold.seat is.bytes) prefix is.there; bye = is.bye }

  own_within : (k : ℕ) → Contains (hold.place ∷ own) k → k < length f
  own_within k has = All-contains (λ k. k < length f) (hold.place ∷ own) k (All-cons (λ k. k < length f) hold.place own long within) has

  cut_cause : (b : Bool) → is_cut w h hold ≡ true → IsCause (cond b ends.Memory ends.Cut) w h hold own reader left
  cut_cause true cut = tt
  cut_cause false cut = cut

  pub cause_of : (read : ReadEnd) (wrote : Wrote) → (wrote ≡ write_ends.Cut → is_cut w h hold ≡ true) → ClosedBy read w f hold own → ((stop : Stop) → read ≡ Stopped stop → Stops stop reader left) → IsCause (ended_by read wrote) w h hold own reader left
  cause_of read Memory cut closed stops = tt
  cause_of read WriteFault cut closed stops = tt
  cause_of read write_ends.Cut cut closed stops = cut_cause (wants_memory read) (cut refl)
  cause_of Bye AllWritten cut closed stops = inl (closed.0, closed.1, bye_longer closed.0 closed.2)
  cause_of Spent AllWritten cut closed stops = (closed.0, closed.1, spent_longer closed.0 (own_within closed.0 closed.1) closed.2)
  cause_of read_ends.Cut AllWritten cut closed stops = cut_longer w f h hold prefix long closed
  cause_of (Stopped End) AllWritten cut closed stops = inr (stops End refl)
  cause_of (Stopped TooLong) AllWritten cut closed stops = stops TooLong refl
  cause_of (Stopped ReadFault) AllWritten cut closed stops = stops ReadFault refl
  cause_of (Stopped NoMemory) AllWritten cut closed stops = tt

  closed_longer : IsClosedBy w f hold own → IsClosedBy w h hold own
  closed_longer closed = (closed.0, closed.1, elim closed.2 [ inl bye ↦ inl (bye_longer closed.0 bye) | inr spent ↦ inr (spent_longer closed.0 (All-contains (λ k. k < length f) own closed.0 within closed.1) spent) ])

stands_within : (rule : List Entry → Entry → Type 0) (f : List Entry) (own : List ℕ) → All (StandsAt rule f) own → All (λ k. k < length f) own
stands_within rule f own each = λ i d lt. let at = each i d lt in slice_get_within f (get_or own i d) at.entry at.there

-- a session whose Join was accepted in the longer history
pub served : (w : World) (h : List Entry) (hold : Hold) (p q s t : PassState Entry World) (read : ReadEnd) (gone : Bool) (wrote : Wrote) (ended : Ended) (text : Option (List ℕ)) (reader : ReaderState) (left before after : Option (List ℕ)) → IsOpening w → HasJoined w h hold
    → (gone ≡ true → is_read w (take (suc hold.place) h) hold ≡ true) → (heard : HasHeard w hold p q read gone text (bytes_to_come reader left)) → (written : HasWritten w hold s t wrote before after) → ended ≡ ended_by read wrote → ((stop : Stop) → read ≡ Stopped stop → Stops stop reader left)
    → (read ≢ Spent → read ≢ read_ends.Cut → StandsAt (IsUnspent w hold) q.front hold.place)
    → hold.place < length q.front → IsPrefix q.front h → IsPrefix t.front h → IsServed w h hold heard.more written.more ended text reader left before after
served w h hold p q s t read gone wrote ended text reader left before after opening joined begun heard written end stops first long reads writes =
    let readers : All (StandsAt (IsReaders w hold) h) heard.more = stands_longer (IsReaders w hold) q.front h heard.more reads heard.got.each in
    let writers : All (StandsAt (IsWriters w hold written.count) h) written.more = stands_longer (IsWriters w hold written.count) t.front h written.more writes written.got.each in
    let joined_there = joined_in_front w t.front h hold writes written.long joined in
    let over_there = over_when_gone w t.front hold joined_there written.long written.gone in
    let same = lines_at-longer (IsReaders w hold) q.front h heard.more reads heard.got.each in
    record {
      count = written.count;
      output = written.text;
      has = written.has;
      heard = readers;
      told = writers;
      cuts = cuts_longer w (IsReaders w hold) q.front h heard.more heard.more reads heard.got.each (λ k has. has) heard.cuts;
      lines = subst (λ l. AreFirst l text) (sym same) heard.first;
      past = subst (λ l. CamePast l text (bytes_to_come reader left)) (sym same) heard.past;
      over = subst (λ l. is_over w l hold ≡ true) writes.1 (ended_stays w t.front writes.0 hold.place hold.seat (let l = written.long in omega arith) over_there);
      written = λ quiet.
          let by = written.wrote joined_there (alone_of w t.front h heard.more written.more hold writes readers quiet) in
          front_longer (lines_of w t.front hold) (lines_of w h hold) written.count written.text (lines_longer w t.front h hold writes written.long)
          (within_of wrote (lines_of w t.front hold) written.count written.text by)
          (wrote_front wrote (lines_of w t.front hold) written.count written.text by);
      whole = λ quiet so.
          let all = whole_of read wrote (ap is_whole (sym end) ∙ so) in
          let by = written.wrote joined_there (alone_of w t.front h heard.more written.more hold writes readers quiet) in
          let done = subst (λ x. WroteBy x (lines_of w t.front hold) written.count written.text) all.wrote_all by in
          let still : lines_of w h hold ≡ lines_of w t.front hold = subst (λ l. lines_of w l hold ≡ lines_of w t.front hold) writes.1 (session_stays w t.front writes.0 hold.place hold.seat (let l = written.long in omega arith) over_there) in
          done.1 ∙ ap bytes_of (sym still);
      player = λ player. printed_by_machine w h hold opening player;
      all_read = λ quiet so.
          let all = whole_of read wrote (ap is_whole (sym end) ∙ so) in
          record {
            hand = heard.hand;
            came = subst (λ l. WhereTold text (bytes_to_come reader left) (CameBut heard.hand l)) (sym same) (heard.all (never_gone w h hold p q s t read gone wrote text (bytes_to_come reader left) before after joined begun heard written all.wrote_all (heard.uncut all.uncut all.memory) long reads writes quiet) all.uncut all.memory);
            closed = λ some. closed_longer w q.front h hold heard.more reader left reads long (stands_within (IsReaders w hold) q.front heard.more heard.got.each) (heard.behind some);
          };
      cause = subst (λ x. IsCause x w h hold heard.more reader left) (sym end) (cause_of w q.front h hold heard.more reader left reads long (stands_within (IsReaders w hold) q.front heard.more heard.got.each) read wrote (λ cut. cut_longer w t.front h hold writes written.long (subst (λ x. IsCutSo x w t.front hold) cut written.cut)) heard.cause stops);
      unspent = λ left_so.
          let other = left_of read wrote (sym end ∙ left_so) in
          stands_longer (IsUnspent w hold) q.front h (hold.place ∷ heard.more) reads (All-cons (StandsAt (IsUnspent w hold) q.front) hold.place heard.more (first other.0 other.1) (heard.unspent other.0 other.1));
    }
