-- A player's lines in one session are among those that the player machine prints.
use Rattle.std.proofs.Common.{◌≡◌, ℕ, ◌≤◌, Bool, true, false, cond, eqb, List, [], ◌∷◌, ◌++◌, take, drop, refl, sym, ◌∙◌, ap, subst, append_assoc}
use Rattle.std.proofs.lemmas.List.{take-append-drop}
use Rattle.seats.specs.SeatState.{is_free}
use Rattle.player_view.specs.View.{view_of}
use Rattle.campaign_law.specs.declared.entry.Entry.{Entry}
use Rattle.campaign_law.specs.Outcome.{Outcome, seat_of}
use Rattle.campaign_law.specs.World.{World, seat_at, outcome_of, scene_after, queued_reply, other_lines, lines_of as entry_lines_of, step, replay, sent}
use Rattle.campaign_law.specs.Law.{IsOpening}
use Rattle.campaign_law.specs.Player.{opening, trace, machine}
use Rattle.campaign_law.specs.Session.{queued_of, standing, lines_until_free, session_at}
use Rattle.campaign_law.proofs.Simulation.{sent_is_machine}
use Rattle.session.specs.declared.hold.Hold.{Hold}
use Rattle.session.specs.Among.{AreAmong}
use Rattle.session.specs.Held.{lines_of}

abbrev Lines : Type 0
Lines = List (List ℕ)

among_itself : (lines : Lines) → AreAmong lines lines
among_itself [] = tt
among_itself (line ∷ lines) = ([], lines, refl, among_itself lines)

among_behind : (lines others before : Lines) → AreAmong lines others → AreAmong lines (before ++ others)
among_behind [] others before are = tt
among_behind (line ∷ lines) others before are =
    (before ++ are.0, are.1, ap (λ l. before ++ l) are.2 ∙ sym (append_assoc before are.0 (line ∷ are.1)), are.3)

among_append : (first second others more : Lines) → AreAmong first others → AreAmong second more → AreAmong (first ++ second) (others ++ more)
among_append [] second others more front rest = among_behind second more others rest
among_append (line ∷ first) second others more front rest =
    (front.0, front.1 ++ more, ap (λ l. l ++ more) front.2 ∙ append_assoc front.0 (line ∷ front.1) more, among_append first second front.1 more front.3 rest)

-- the reply stands in no queue where it is direct
queued_reply_among : (acts direct : Bool) (reply : Lines) → AreAmong (cond acts (cond direct [] reply) []) (cond acts reply [])
queued_reply_among true true reply = tt
queued_reply_among true false reply = among_itself reply
queued_reply_among false direct reply = tt

queued_among : (w : World) (e : Entry) (seat : ℕ) → AreAmong (queued_of w e seat) (entry_lines_of w e seat)
queued_among w e seat =
    let acts : Bool = eqb (seat_of e) seat in
    let o : Outcome = outcome_of w e in
    let others : Lines = other_lines seat acts (seat_at w seat) o (view_of w.scene seat) (view_of (scene_after w e) seat) in
    among_append (cond acts (queued_reply o) []) others (cond acts o.reply []) others (queued_reply_among acts o.direct o.reply) (among_itself others)

until_free : (free : Bool) (rest all : Lines) → AreAmong rest all → AreAmong (cond free [] rest) all
until_free true rest all are = tt
until_free false rest all are = are

until_free_among : (w : World) (h : List Entry) (seat : ℕ) → AreAmong (lines_until_free w h seat) (sent w h seat)
until_free_among w [] seat = tt
until_free_among w (e ∷ h) seat =
    let free : Bool = is_free (standing (seat_at (step w e) seat)) in
    let rest : Lines = lines_until_free (step w e) h seat in
    among_append (queued_of w e seat) (cond free [] rest) (entry_lines_of w e seat) (sent (step w e) h seat) (queued_among w e seat) (until_free free rest (sent (step w e) h seat) (until_free_among (step w e) h seat))

sent-append : (w : World) (h more : List Entry) (seat : ℕ) → sent w (h ++ more) seat ≡ sent w h seat ++ sent (replay w h) more seat
sent-append w [] more seat = refl
sent-append w (e ∷ h) more seat =
    ap (λ l. entry_lines_of w e seat ++ l) (sent-append (step w e) h more seat) ∙ sym (append_assoc (entry_lines_of w e seat) (sent (step w e) h seat) (sent (replay (step w e) h) more seat))

session_among : (w : World) (h : List Entry) (place seat : ℕ) → AreAmong (session_at w h place seat) (sent w h seat)
session_among w h place seat =
    let before : World = replay w (take place h) in
    let behind : Lines = sent before (drop place h) seat in
    let whole : sent w (take place h) seat ++ behind ≡ sent w h seat = sym (sent-append w (take place h) (drop place h) seat) ∙ ap (λ l. sent w l seat) (take-append-drop place h) in
    subst (AreAmong (session_at w h place seat)) whole (among_behind (session_at w h place seat) behind (sent w (take place h) seat) (until_free_among before (drop place h) seat))

pub printed_by_machine : (w : World) (h : List Entry) (hold : Hold) → IsOpening w → 1 ≤ hold.seat → AreAmong (lines_of w h hold) (machine (opening w hold.seat) (trace w h hold.seat))
printed_by_machine w h hold begins player = subst (AreAmong (lines_of w h hold)) (sent_is_machine w h hold.seat begins player) (session_among w h hold.place hold.seat)
