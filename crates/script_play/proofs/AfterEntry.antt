-- What is sent after an entry of a script is what the entry sends.
use Rattle.std.proofs.Common.{◌≡◌, ℕ, zero, suc, ◌+◌, ◌-◌, ◌<◌, ◌≤◌, Bool, true, false, cond, List, [], ◌∷◌, ◌++◌, length, drop, Some, None, refl, sym, ◌∙◌, ap, subst, arith}
use Rattle.std.specs.Prelude.{Option, option_map, unwrap_or, option_and_then, IfSome, slice_get, nat_lt, Result, Ok, Err}
use Rattle.std.proofs.lemmas.List.{append-nil}
use Rattle.std.proofs.lemmas.Bool.Decides.{nat_tests}
use Rattle.campaign_law.specs.declared.entry.Entry.{Entry}
use Rattle.campaign_law.specs.Seat.{Seat}
use Rattle.campaign_law.specs.Outcome.{seat_of}
use Rattle.campaign_law.specs.World.{World, seat_at, seat_after, lines_of, step, replay}
use Rattle.campaign_law.specs.Session.{queued_of, unless_free, session}
use Rattle.campaign_law.specs.Law.{Course, IsOpening, world_of, answer_after}
use Rattle.campaign_law.proofs.Lists.{ap₂}
use Rattle.campaign_law.proofs.Sessions.{IsKept, kept_at, replay_more, session_more, seat_at-after}
use Rattle.campaign_law.proofs.Seats.{IsSound}
use Rattle.script_play.specs.Script.{entry_of, joining_key, NothingWaits}
use Rattle.script_play.specs.Tagged.{tagged_lines, entry_text_below, entry_text}
use Rattle.script_play.specs.Sending.{untaken, waiting_lines, reply_to, sent_below, WroteFront, Sends}
use Rattle.script_play.specs.Played.{IsOfLine, IsPrefix, GoesOn, entries_since, HasAllButLast, HasWritten, played}
use Rattle.script_play.specs.declared.run.Played.{Played}
use Rattle.script_play.specs.declared.run.Played.TheVariants.{Done, ReadFault, WriteFault, BadLine, TooLarge, Memory}
use Rattle.script_play.proofs.EntryLines.{LeavesAt, leaves_at, seat_of_entry_by, waits_queued, lines_sent, text_of_seats, seats_of_replay}
use Rattle.script_play.proofs.Takens.{AllSound, all_at}
use Rattle.line_io.specs.Script.{script_parts}

-- the course after one more entry
abbrev pub with_entry : Course → Entry → Course
with_entry c e = record c { history = c.history ++ e ∷ [] }

-- what waits and is sent goes by the origin and the history alone
pub waiting_same : (c d : Course) (seat : ℕ) → c.origin ≡ d.origin → c.history ≡ d.history → waiting_lines c seat ≡ waiting_lines d seat
waiting_same c d seat o h = λ i. untaken (seat_at (replay (o i) (h i)) seat) (session (o i) (h i) seat)

sent_same : (c d : Course) (acting : ℕ) (reply : Option (List ℕ)) (seat : ℕ) → c.origin ≡ d.origin → c.history ≡ d.history → sent_below c acting reply seat ≡ sent_below d acting reply seat
sent_same c d acting reply zero o h = refl
sent_same c d acting reply (suc seat) o h = ap₂ (λ t ls. t ++ tagged_lines seat (reply_to acting seat reply ++ ls)) (sent_same c d acting reply seat o h) (waiting_same c d seat o h)

-- an entry that a seat of the world sends by a script
pub record OfSeat (w : World) (e : Entry) : Type 0 where
  pub there : seat_of e < length w.seats
  pub leaves : LeavesAt w e

of_parts : (w : World) (e : Entry) (seat : ℕ) (bytes : List ℕ) (within : Bool) → nat_lt seat (length w.seats) ≡ within → cond within (Some (entry_of w seat bytes)) None ≡ Some e → OfSeat w e
of_parts w e seat bytes true lt h =
    let same : entry_of w seat bytes ≡ e = ap (λ (o : Option Entry). unwrap_or o e) h in
    let key : Option (List ℕ) = joining_key w seat bytes in
    subst (OfSeat w) same (record {
      there = subst (λ q. q < length w.seats) (sym (seat_of_entry_by seat bytes key)) (grind (arith, nat_tests));
      leaves = leaves_at w seat bytes key;
    })
of_parts w e seat bytes false lt h = cc

pub of_line : (w : World) (e : Entry) (parts : Option (ℕ × List ℕ)) → option_and_then (λ (parts : ℕ × List ℕ). cond (nat_lt parts.0 (length w.seats)) (Some (entry_of w parts.0 parts.1)) None) parts ≡ Some e → OfSeat w e
of_line w e None h = cc
of_line w e (Some parts) h = of_parts w e parts.0 parts.1 (nat_lt parts.0 (length w.seats)) refl h

seat_there : (seats : List Seat) (p : ℕ) → p < length seats → (s : Seat) × (slice_get seats p ≡ Some s)
seat_there [] p lt = absurd (omega arith)
seat_there (s ∷ seats) zero lt = (s, refl)
seat_there (s ∷ seats) (suc p) lt = seat_there seats p (omega arith)

-- what waits for a seat after the entry
waits_then : (c : Course) (e : Entry) (p : ℕ) (s : Seat) → IsOpening c.origin → LeavesAt (world_of c) e → NothingWaits (world_of c) → seat_at (world_of c) p ≡ Some s → waiting_lines (with_entry c e) p ≡ queued_of (world_of c) e p
waits_then c e p s opening leaves quiet is =
    let w : World = world_of c in
    let ls : List (List ℕ) = session c.origin c.history p in
    let kept : IsKept ls s = subst (λ b. IfSome b (IsKept ls)) is (kept_at c.origin c.history p opening) in
    let all : s.taken ≡ s.queued = all_at w.seats p s quiet is in
    let after : seat_at (step w e) p ≡ Some (seat_after w e p s) = seat_at-after w e p ∙ ap (option_map (seat_after w e p)) is in
    let now : seat_at (world_of (with_entry c e)) p ≡ Some (seat_after w e p s) = ap (λ w'. seat_at w' p) (replay_more c.origin c.history e) ∙ after in
    let lines : session c.origin (c.history ++ e ∷ []) p ≡ unless_free (ls ++ queued_of w e p) (Some (seat_after w e p s)) = session_more c.origin [] c.history e p ∙ ap (unless_free (ls ++ queued_of w e p)) after in
    ap₂ untaken now lines ∙ waits_queued w e p s ls leaves is kept all

pub seat_sent : (c : Course) (e : Entry) (p : ℕ) → IsOpening c.origin → OfSeat (world_of c) e → NothingWaits (world_of c) → p < length (world_of c).seats → reply_to (seat_of e) p (answer_after c e).line ++ waiting_lines (with_entry c e) p ≡ lines_of (world_of c) e p
seat_sent c e p opening own quiet lt =
    let w : World = world_of c in
    let x = seat_there w.seats p lt in
    let y = seat_there w.seats (seat_of e) own.there in
    ap (λ ls. reply_to (seat_of e) p (answer_after c e).line ++ ls) (waits_then c e p x.0 opening own.leaves quiet x.1)
    ∙ lines_sent w e p y.0 own.leaves y.1

seats_sent : (c : Course) (e : Entry) (n : ℕ) → IsOpening c.origin → OfSeat (world_of c) e → NothingWaits (world_of c) → n ≤ length (world_of c).seats → sent_below (with_entry c e) (seat_of e) (answer_after c e).line n ≡ entry_text_below (world_of c) e n
seats_sent c e zero opening own quiet le = refl
seats_sent c e (suc n) opening own quiet le = ap₂ (λ t ls. t ++ tagged_lines n ls) (seats_sent c e n opening own quiet (omega arith)) (seat_sent c e n opening own quiet (omega arith))

-- all of it
pub sends_entry : (c : Course) (e : Entry) → IsOpening c.origin → IsOfLine (world_of c) e → NothingWaits (world_of c) → length c.origin.seats ≤ 33 → sent_below (with_entry c e) (seat_of e) (answer_after c e).line (length c.origin.seats) ≡ entry_text (world_of c) e
unfolding entry_text
sends_entry c e opening line quiet few =
    let w : World = world_of c in
    let own : OfSeat w e = of_line w e (script_parts line.line) line.is in
    let size : length w.seats ≡ length c.origin.seats = seats_of_replay c.origin c.history in
    let whole : length w.seats + (33 - length w.seats) ≡ 33 = omega (arith, size, few) in
    ap (sent_below (with_entry c e) (seat_of e) (answer_after c e).line) (sym size)
    ∙ seats_sent c e (length w.seats) opening own quiet (omega arith)
    ∙ sym (text_of_seats w e (33 - length w.seats) own.there)
    ∙ ap (entry_text_below w e) whole

sound_of : (before : Option Seat) (ls : List (List ℕ)) → IfSome before (IsKept ls) → IfSome before IsSound
sound_of None ls k = tt
sound_of (Some s) ls k = k.sound

pub all_sound : (c : Course) → IsOpening c.origin → AllSound (world_of c)
all_sound c opening p = sound_of (seat_at (world_of c) p) (session c.origin c.history p) (kept_at c.origin c.history p opening)

-- ---- the entries since

pub since_is : (old new : Course) (es : List Entry) → new.history ≡ old.history ++ es → entries_since old new ≡ es
since_is old new es h = ap (drop (length old.history)) h ∙ drop_front old.history es
  where
    drop_front : (xs ys : List Entry) → drop (length xs) (xs ++ ys) ≡ ys
    drop_front [] ys = refl
    drop_front (x ∷ xs) ys = drop_front xs ys

pub goes_on : (old new : Course) (es : List Entry) → new.origin ≡ old.origin → new.history ≡ old.history ++ es → GoesOn old new
goes_on old new es o h = record { origin = o; history = h ∙ ap (λ r. old.history ++ r) (sym (since_is old new es h)) }

pub nothing_since : (c : Course) → entries_since c c ≡ []
nothing_since c = since_is c c [] (sym (append-nil c.history))

pub stays : (c : Course) → GoesOn c c
stays c = goes_on c c [] refl (sym (append-nil c.history))

pub prefix_none : {A : Type 0} (front whole : List A) → front ≡ [] → IsPrefix front whole
prefix_none front whole h = record { rest = whole; is = ap (λ f. f ++ whole) (sym h) }

-- ---- what was written

one_cut : (w : World) (e : Entry) (before after : Option (List ℕ)) (f : WroteFront before (entry_text w e) after) → HasAllButLast w (e ∷ []) f.front
one_cut w e before after f = record {
  prefix = record { rest = f.rest; is = append-nil (entry_text w e) ∙ f.is };
  all_but_last = record { rest = f.front; is = refl };
}

one_written : {A : Type 0} (r : Result A Played) (w : World) (e : Entry) (before after : Option (List ℕ)) → Sends r (entry_text w e) before after → HasWritten (played r) w (e ∷ []) before after
one_written (Ok value) w e before after s = record { text = entry_text w e; written = s; part = sym (append-nil (entry_text w e)) }
one_written (Err WriteFault) w e before after s = record { text = s.part.front; written = s.part.written; part = one_cut w e before after s.part }
one_written (Err Memory) w e before after s = record { text = s.part.front; written = s.part.written; part = (one_cut w e before after s.part, s.whole refl) }
one_written (Err Done) w e before after s = absurd s.cut
one_written (Err (BadLine number)) w e before after s = absurd s.cut
one_written (Err TooLarge) w e before after s = absurd s.cut
one_written (Err ReadFault) w e before after s = absurd s.cut

pub entered_written : {A : Type 0} (r : Result A Played) (old new : Course) (e : Entry) (acting : ℕ) (reply before after : Option (List ℕ)) → new.origin ≡ old.origin → new.history ≡ old.history ++ e ∷ [] → IsOpening old.origin → IsOfLine (world_of old) e → NothingWaits (world_of old) → length new.origin.seats ≤ 33 → acting ≡ seat_of e → reply ≡ (answer_after old e).line → Sends r (sent_below new acting reply (length new.origin.seats)) before after → HasWritten (played r) (world_of old) (entries_since old new) before after
entered_written r old new e acting reply before after o h opening line quiet few own told s =
    let few' : length old.origin.seats ≤ 33 = subst (λ (w : World). length w.seats ≤ 33) o few in
    let text : sent_below new acting reply (length new.origin.seats) ≡ entry_text (world_of old) e =
    sent_same new (with_entry old e) acting reply (length new.origin.seats) o h
    ∙ (λ i. sent_below (with_entry old e) (own i) (told i) (length (o i).seats))
    ∙ sends_entry old e opening line quiet few' in
    subst (λ es. HasWritten (played r) (world_of old) es before after) (sym (since_is old new (e ∷ []) h))
    (one_written r (world_of old) e before after (subst (λ t. Sends r t before after) text s))
