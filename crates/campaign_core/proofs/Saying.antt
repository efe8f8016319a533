-- What an entry says, and who heard it.
use Rattle.std.proofs.Common.{◌≡◌, ℕ, ◌+◌, ◌≤◌, ◌++◌, Bool, true, false, cond, ◌||◌, ◌&&◌, eqb, List, [], ◌∷◌, length, Some, None, refl, sym, ◌∙◌, ap, subst, arith, eqb-true}
use Rattle.std.specs.Prelude.{Option, option_map, Result, Ok, Err, map, filter, find}
use Rattle.seats.specs.Book.{Book, freed, join_refusal}
use Rattle.seats.specs.SeatState.{is_joined}
use Rattle.seats.specs.declared.seat_state.JoinRefusal.{JoinRefusal}
use Rattle.chat.specs.declared.to.To.{To}
use Rattle.command_json.specs.Commands.{command_of}
use Rattle.command_json.specs.declared.command.Command.{Command}
use Rattle.command_json.specs.declared.command.LineFault.{LineFault}
use Rattle.command_rules.specs.declared.refusal.Refusal.{Refusal}
use Rattle.command_rules.specs.declared.refusal.Refusal.TheVariants.{NoHello}
use Rattle.command_rules.specs.MacroRules.{Call, call_in}
use Rattle.player_view.specs.Asked.{Asked}
use Rattle.player_view.specs.View.{view_of}
use Rattle.campaign_law.specs.declared.entry.Entry.{Entry}
use Rattle.campaign_law.specs.declared.entry.Entry.TheVariants.{Join, Line, Leave, Taken, Cut}
use Rattle.campaign_law.specs.Messages.{Message, message_by, texts_in, text_message, text_messages, run_messages}
use Rattle.campaign_law.specs.Outcome.{Report, Outcome, nothing, join_outcome, said, called_by, broken_rule, decided, read_outcome, refused_direct, outcome_at, seat_of}
use Rattle.campaign_law.specs.Seat.{Seat, settled, was_joined}
use Rattle.campaign_law.specs.Session.{changes_state}
use Rattle.campaign_law.specs.World.{World, seat_at, asked_of, report_of, outcome_of, scene_after, addressed, is_present, is_to, messages_to, queued_lines, changed, seat_after, some_to_list, step, replay}
use Rattle.campaign_law.proofs.Messages.{outcome_few}
use Rattle.campaign_law.proofs.Outcomes.{absent_joins}
use Rattle.campaign_law.proofs.Seats.{joined_before, joined_still}
use Rattle.campaign_law.proofs.Sessions.{seat_at-after}
use Rattle.campaign_core.specs.Said.{last_from, last_of, last_said, last_messages, messages_in, said_by, said_in, is_heard}
use Rattle.campaign_core.specs.Taking.{is_taken}

-- ---- the last entry

last_from_more : (w : World) (d : Entry) (h : List Entry) (e : Entry) → last_from w d (h ++ e ∷ []) ≡ record { world = replay (step w d) h; entry = e }
last_from_more w d [] e = refl
last_from_more w d (c ∷ h) e = last_from_more (step w d) c h e

last_of_more : (w : World) (h : List Entry) (e : Entry) → last_of w (h ++ e ∷ []) ≡ Some (record { world = replay w h; entry = e })
last_of_more w [] e = refl
last_of_more w (d ∷ h) e = ap Some (last_from_more w d h e)

-- what an entry says that is appended to a history
pub last_said_is : (w : World) (h : List Entry) (e : Entry) (seat : ℕ) → last_said w (h ++ e ∷ []) seat ≡ said_by (replay w h) e seat
last_said_is w h e seat = ap (said_in seat) (last_of_more w h e)

pub last_messages_is : (w : World) (h : List Entry) (e : Entry) → last_messages w (h ++ e ∷ []) ≡ (outcome_of (replay w h) e).messages
last_messages_is w h e = ap messages_in (last_of_more w h e)

-- ---- entries that say nothing

left_silent : (asked : Asked) (report : Report) (before : Option Seat) (seat : ℕ) (drop : Bool) → (outcome_at asked report before (Leave seat drop)).messages ≡ []
left_silent asked report None seat drop_it = refl
left_silent asked report (Some s) seat drop_it = refl

freed_silent : (b : Book) (j : Bool) → (cond j (record nothing { book = Some (freed b) }) nothing).messages ≡ []
freed_silent b true = refl
freed_silent b false = refl

cut_silent : (asked : Asked) (report : Report) (before : Option Seat) (seat : ℕ) → (outcome_at asked report before (Cut seat)).messages ≡ []
cut_silent asked report None seat = refl
cut_silent asked report (Some s) seat = freed_silent s.book (is_joined s.book.state)

took_silent : (asked : Asked) (report : Report) (before : Option Seat) (seat count : ℕ) → (outcome_at asked report before (Taken seat count)).messages ≡ []
took_silent asked report None seat count = refl
took_silent asked report (Some s) seat count = refl

-- a Leave that changes its seat's state, and a Cut of a Joined seat
pub moved_silent : (w : World) (e : Entry) → changes_state w e ≡ true → (outcome_of w e).messages ≡ []
moved_silent w (Join seat key reader writer) moves = cc
moved_silent w (Line seat bytes) moves = cc
moved_silent w (Taken seat count) moves = cc
moved_silent w (Leave seat drop_it) moves = left_silent (asked_of w seat) (report_of w (Leave seat drop_it)) (seat_at w seat) seat drop_it
moved_silent w (Cut seat) moves = cut_silent (asked_of w seat) (report_of w (Cut seat)) (seat_at w seat) seat

pub taken_silent : (w : World) (e : Entry) → is_taken e ≡ true → (outcome_of w e).messages ≡ []
taken_silent w (Join seat key reader writer) taken = cc
taken_silent w (Line seat bytes) taken = cc
taken_silent w (Leave seat drop_it) taken = cc
taken_silent w (Cut seat) taken = cc
taken_silent w (Taken seat count) taken = took_silent (asked_of w seat) (report_of w (Taken seat count)) (seat_at w seat) seat count

-- ---- who says something

-- each of the messages is from this seat
abbrev AreFrom : ℕ → List Message → Type 0
AreFrom from [] = Unit {0}
AreFrom from (m ∷ ms) = (m.from ≡ from) × AreFrom from ms

AreFrom-append : (from : ℕ) (xs ys : List Message) → AreFrom from xs → AreFrom from ys → AreFrom from (xs ++ ys)
AreFrom-append from [] ys p q = q
AreFrom-append from (x ∷ xs) ys p q = (p.0, AreFrom-append from xs ys p.1 q)

words_from : (from : ℕ) (words : Option (To × List ℕ)) → AreFrom from (message_by from words)
words_from from None = tt
words_from from (Some words) = (refl, tt)

text_from : (from : ℕ) (to : To) (k : ℕ) (text : List ℕ) → AreFrom from (text_message from to k text)
text_from from to k [] = tt
text_from from to k (c ∷ text) = (refl, tt)

texts_from : (from : ℕ) (to : To) (k : ℕ) (texts : List (List ℕ)) → AreFrom from (text_messages from to k texts)
texts_from from to k [] = tt
texts_from from to k (text ∷ texts) = AreFrom-append from (text_message from to k text) (text_messages from to (k + 1) texts) (text_from from to k text) (texts_from from to (k + 1) texts)

run_from : (from : ℕ) (call : Option Call) (texts : List (List ℕ)) → AreFrom from (run_messages from call texts)
run_from from None texts = tt
run_from from (Some call) texts = texts_from from call.to 0 texts

decided_from : (asked : Asked) (report : Report) (seat : ℕ) (b : Book) (c : Command) (r : Option Refusal) → AreFrom seat (decided asked report seat b c r).messages
decided_from asked report seat b c (Some r) = tt
decided_from asked report seat b c None =
    let texts : List (List ℕ) = texts_in (called_by asked seat b c) in
    AreFrom-append seat (message_by seat (said b c)) (run_messages seat (call_in c) texts) (words_from seat (said b c)) (run_from seat (call_in c) texts)

read_from : (asked : Asked) (report : Report) (seat : ℕ) (b : Book) (r : Result Command LineFault) → AreFrom seat (read_outcome asked report seat b r).messages
read_from asked report seat b (Err fault) = tt
read_from asked report seat b (Ok c) = decided_from asked report seat b c (broken_rule asked seat b c)

-- they are the seat's that acts, which is Joined where there are any
record AreSpoken (seat : ℕ) (was : Bool) (ms : List Message) : Type 0 where
  from : AreFrom seat ms
  joined : was ≡ false → ms ≡ []

none_spoken : (seat : ℕ) (was : Bool) (ms : List Message) → ms ≡ [] → AreSpoken seat was ms
none_spoken seat was ms none = record { from = subst (AreFrom seat) (sym none) tt; joined = λ j. none }

line_spoken : (asked : Asked) (report : Report) (seat : ℕ) (b : Book) (r : Result Command LineFault) (j : Bool) → AreSpoken seat j (cond j (read_outcome asked report seat b r) (refused_direct 0 NoHello)).messages
line_spoken asked report seat b r true = record { from = read_from asked report seat b r; joined = λ j. cc }
line_spoken asked report seat b r false = none_spoken seat false [] refl

join_silent : (asked : Asked) (b : Book) (reader writer : ℕ) (r : Option JoinRefusal) → (join_outcome asked b reader writer r).messages ≡ []
join_silent asked b reader writer None = refl
join_silent asked b reader writer (Some r) = refl

outcome_spoken : (asked : Asked) (report : Report) (before : Option Seat) (e : Entry) → AreSpoken (seat_of e) (was_joined before) (outcome_at asked report before e).messages
outcome_spoken asked report None (Join seat key reader writer) = none_spoken seat false [] refl
outcome_spoken asked report None (Line seat bytes) = none_spoken seat false [] refl
outcome_spoken asked report (Some s) (Join seat key reader writer) = none_spoken seat (is_joined s.book.state) _ (join_silent asked s.book reader writer (join_refusal s.book key))
outcome_spoken asked report (Some s) (Line seat bytes) = line_spoken asked report seat s.book (command_of bytes (eqb seat 0)) (is_joined s.book.state)
outcome_spoken asked report before (Leave seat drop_it) = none_spoken seat (was_joined before) _ (left_silent asked report before seat drop_it)
outcome_spoken asked report before (Taken seat count) = none_spoken seat (was_joined before) _ (took_silent asked report before seat count)
outcome_spoken asked report before (Cut seat) = none_spoken seat (was_joined before) _ (cut_silent asked report before seat)

-- ---- who hears it

-- the line of the message that was found
abbrev pub found : Option Message → List (List ℕ)
found m = some_to_list (option_map (λ (message : Message). message.line) m)

none_of : {A : Type 0} (xs : List A) → length xs ≤ 0 → xs ≡ []
none_of [] h = refl
none_of (x ∷ xs) h = absurd (omega arith)

none_said : (seat : ℕ) (b : Bool) → cond b (addressed seat []) [] ≡ []
unfolding addressed
none_said seat true = refl
none_said seat false = refl

-- where one message at most reaches the seat, the first that it heard is all that it heard
heard_is : (seat from : ℕ) (joined : Bool) (ms : List Message) → AreFrom from ms → length (addressed seat ms) ≤ 1
    → found (find (is_heard seat joined) ms) ≡ cond (joined || eqb from seat) (addressed seat ms) []
unfolding addressed
heard_is seat from joined [] are few = sym (none_said seat (joined || eqb from seat))
heard_is seat from joined (m ∷ ms) are few =
    ap (λ n. found (cond (is_to seat m && (joined || eqb n seat)) (Some m) (find (is_heard seat joined) ms))) are.0
    ∙ by (is_to seat m) (joined || eqb from seat) (find (is_heard seat joined) ms) (filter (is_to seat) ms) few (heard_is seat from joined ms are.1)
  where
    by : (t b : Bool) (rest : Option Message) (ns : List Message) → length (map (λ message. message.line) (cond t (m ∷ ns) ns)) ≤ 1
        → (length (map (λ message. message.line) ns) ≤ 1 → found rest ≡ cond b (map (λ message. message.line) ns) [])
        → found (cond (t && b) (Some m) rest) ≡ cond b (map (λ message. message.line) (cond t (m ∷ ns) ns)) []
    by true true rest ns few is = ap (λ (lines : List (List ℕ)). m.line ∷ lines) (sym (none_of (map (λ message. message.line) ns) (omega (arith, few))))
    by true false rest ns few is = is (omega (arith, few))
    by false true rest ns few is = is few
    by false false rest ns few is = is few

-- a seat that doesn't act is Joined after an entry just where it was before
same_joined : (n : ℕ) (s : Seat) (j k : Bool) → is_joined s.book.state ≡ j → is_joined (settled n s).book.state ≡ k → k ≡ j
same_joined n s true k before after = sym after ∙ joined_still n s before
same_joined n s false true before after = let no : true ≡ false = sym (joined_before n s after) ∙ before in cc
same_joined n s false false before after = refl

other_joined : (w : World) (e : Entry) (seat : ℕ) (before : Option Seat) (s : Seat) (j : Bool) → eqb (seat_of e) seat ≡ false → option_map (seat_after w e seat) before ≡ Some s → is_joined s.book.state ≡ j → j ≡ was_joined before
other_joined w e seat None s j other at is = cc
other_joined w e seat (Some t) s j other at is =
    let o : Outcome = outcome_of w e in
    let then_ : Bool → Seat = λ acts. settled (length (queued_lines seat acts (Some t) o (view_of w.scene seat) (view_of (scene_after w e) seat))) (changed o acts t) in
    let is_then : then_ (eqb (seat_of e) seat) ≡ s = cc in
    same_joined (length (queued_lines seat false (Some t) o (view_of w.scene seat) (view_of (scene_after w e) seat))) t (is_joined t.book.state) j refl
    (ap (λ (x : Seat). is_joined x.book.state) (sym (ap then_ other) ∙ is_then) ∙ is)

or_true : (b : Bool) → (b || true) ≡ true
or_true true = refl
or_true false = refl

-- by who acts: it is there where it says something, and another seat where it is Joined still
there_still : (actor seat : ℕ) (joined spoke was joins : Bool) (ms : List Message) → (acts : Bool) → eqb actor seat ≡ acts → AreSpoken actor spoke ms → (acts ≡ true → spoke ≡ was) → (acts ≡ false → joined ≡ was)
    → cond (joined || acts) (addressed seat ms) [] ≡ cond (was || (acts && joins)) (addressed seat ms) []
there_still actor seat joined true was joins ms true acts spoken own other = ap (λ b. cond b (addressed seat ms) []) (or_true joined) ∙ ap (λ b. cond (b || joins) (addressed seat ms) []) (own refl)
there_still actor seat joined true was joins ms false acts spoken own other = ap (λ b. cond (b || false) (addressed seat ms) []) (other refl)
there_still actor seat joined false was joins ms acts is spoken own other =
    let none = spoken.joined refl in
    ap (λ (xs : List Message). cond (joined || acts) (addressed seat xs) []) none
    ∙ none_said seat (joined || acts)
    ∙ sym (none_said seat (was || (acts && joins)))
    ∙ ap (λ (xs : List Message). cond (was || (acts && joins)) (addressed seat xs) []) (sym none)

-- the first message that a seat heard, which stands so after the entry, is what the entry said to it
told_is : (w : World) (e : Entry) (seat : ℕ) (s : Seat) (joined : Bool) → seat_at (step w e) seat ≡ Some s → is_joined s.book.state ≡ joined
    → found (find (is_heard seat joined) (outcome_of w e).messages) ≡ said_by w e seat
told_is w e seat s joined at is =
    let o : Outcome = outcome_of w e in
    let spoken : AreSpoken (seat_of e) (was_joined (seat_at w (seat_of e))) o.messages = outcome_spoken (asked_of w (seat_of e)) (report_of w e) (seat_at w (seat_of e)) e in
    let few = outcome_few (asked_of w (seat_of e)) (report_of w e) (seat_at w (seat_of e)) e in
    heard_is seat (seat_of e) joined o.messages spoken.from (few.messages seat)
    ∙ there_still (seat_of e) seat joined (was_joined (seat_at w (seat_of e))) (was_joined (seat_at w seat)) o.joins o.messages (eqb (seat_of e) seat) refl spoken
    (λ own. ap (λ n. was_joined (seat_at w n)) (eqb-true (seat_of e) seat own))
    (λ other. other_joined w e seat (seat_at w seat) s joined other (sym (seat_at-after w e seat) ∙ at) is)

-- a seat that isn't in the world isn't told anything
absent_told : (w : World) (e : Entry) (seat : ℕ) → seat_at w seat ≡ None → said_by w e seat ≡ []
absent_told w e seat none =
    ap (λ (before : Option Seat). cond (is_present (eqb (seat_of e) seat) before (outcome_of w e)) (messages_to seat (outcome_of w e)) []) none
    ∙ by (eqb (seat_of e) seat) refl
  where
    by : (acts : Bool) → eqb (seat_of e) seat ≡ acts → cond (is_present acts None (outcome_of w e)) (messages_to seat (outcome_of w e)) [] ≡ []
    by false other = refl
    by true own =
        let at : seat_at w (seat_of e) ≡ None = ap (seat_at w) (eqb-true (seat_of e) seat own) ∙ none in
        let still : (outcome_of w e).joins ≡ false = ap (λ (before : Option Seat). (outcome_at (asked_of w (seat_of e)) (report_of w e) before e).joins) at ∙ absent_joins (asked_of w (seat_of e)) (report_of w e) e in
        ap (λ b. cond b (messages_to seat (outcome_of w e)) []) still

none_before : (w : World) (e : Entry) (seat : ℕ) (before : Option Seat) → option_map (seat_after w e seat) before ≡ None → before ≡ None
none_before w e seat None h = refl
none_before w e seat (Some s) h = cc

-- ---- by the history

told_last : (w : World) (e : Entry) (h : List Entry) (seat : ℕ) (s : Seat) (joined : Bool) → seat_at (replay (step w e) h) seat ≡ Some s → is_joined s.book.state ≡ joined
    → found (find (is_heard seat joined) (messages_in (Some (last_from w e h)))) ≡ said_in seat (Some (last_from w e h))
told_last w e [] seat s joined at is = told_is w e seat s joined at is
told_last w e (d ∷ h) seat s joined at is = told_last (step w e) d h seat s joined at is

-- the first message of the last entry that a seat heard, which stands so now, is what was said to it
pub heard_last : (w : World) (h : List Entry) (seat : ℕ) (s : Seat) (joined : Bool) → seat_at (replay w h) seat ≡ Some s → is_joined s.book.state ≡ joined
    → found (find (is_heard seat joined) (last_messages w h)) ≡ last_said w h seat
heard_last w [] seat s joined at is = refl
heard_last w (e ∷ h) seat s joined at is = told_last w e h seat s joined at is

absent_last : (w : World) (e : Entry) (h : List Entry) (seat : ℕ) → seat_at (replay (step w e) h) seat ≡ None → said_in seat (Some (last_from w e h)) ≡ []
absent_last w e [] seat none = absent_told w e seat (none_before w e seat (seat_at w seat) (sym (seat_at-after w e seat) ∙ none))
absent_last w e (d ∷ h) seat none = absent_last (step w e) d h seat none

-- nothing is said to a seat that isn't in the world
pub nobody_told : (w : World) (h : List Entry) (seat : ℕ) → seat_at (replay w h) seat ≡ None → [] ≡ last_said w h seat
nobody_told w [] seat none = refl
nobody_told w (e ∷ h) seat none = sym (absent_last w e h seat none)
