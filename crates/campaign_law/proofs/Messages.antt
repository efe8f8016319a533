-- At most one message of an entry reaches a seat.
use Rattle.std.proofs.Common.{◌≡◌, ℕ, ◌+◌, ◌≤◌, ◌<◌, Bool, true, false, cond, eqb, List, [], ◌∷◌, ◌++◌, length, Some, None, refl, sym, ap, arith, zero-add, ◌⊎◌, inl, inr}
use Rattle.std.specs.Prelude.{Option, Result, Ok, Err, map, filter}
use Rattle.std.proofs.lemmas.Bool.Decides.{nat_tests}
use Rattle.seats.specs.Book.{Book, freed, join_refusal}
use Rattle.seats.specs.SeatState.{is_joined}
use Rattle.seats.specs.declared.seat_state.JoinRefusal.{JoinRefusal}
use Rattle.chat.specs.declared.to.To.{To}
use Rattle.command_json.specs.Commands.{command_of}
use Rattle.command_json.specs.declared.command.Command.{Command}
use Rattle.command_json.specs.declared.command.Command.TheVariants.{Macro}
use Rattle.command_json.specs.declared.command.LineFault.{LineFault}
use Rattle.command_rules.specs.declared.calls.Called.{Called}
use Rattle.command_rules.specs.declared.refusal.Refusal.{Refusal}
use Rattle.command_rules.specs.declared.refusal.Refusal.TheVariants.{NoHello}
use Rattle.command_rules.specs.MacroRules.{Call, call_in}
use Rattle.player_view.specs.Asked.{Asked}
use Rattle.campaign_law.specs.declared.entry.Entry.{Entry}
use Rattle.campaign_law.specs.declared.entry.Entry.TheVariants.{Join, Line, Leave, Taken, Cut}
use Rattle.campaign_law.specs.Messages.{Message, message_by, texts_in, text_message, text_messages, run_messages}
use Rattle.campaign_law.specs.Seat.{Seat}
use Rattle.campaign_law.specs.Outcome.{Report, Outcome, nothing, join_outcome, said, called_by, accepted_with, broken_rule, decided, read_outcome, refused_direct, outcome_at}
use Rattle.campaign_law.specs.World.{addressed, is_to, messages_to}

-- how many of these reach the seat
abbrev reaching : ℕ → List Message → ℕ
reaching seat messages = length (addressed seat messages)

reaching-none : (seat : ℕ) → reaching seat [] ≡ 0
unfolding addressed
reaching-none seat = refl

reaching-append : (seat : ℕ) (xs ys : List Message) → reaching seat (xs ++ ys) ≡ reaching seat xs + reaching seat ys
unfolding addressed
reaching-append seat [] ys = sym (zero-add (reaching seat ys))
reaching-append seat (m ∷ xs) ys = by (is_to seat m) (reaching-append seat xs ys)
  where
    by : (b : Bool) → length (map (λ message. message.line) (filter (is_to seat) (xs ++ ys))) ≡ length (map (λ message. message.line) (filter (is_to seat) xs)) + length (map (λ message. message.line) (filter (is_to seat) ys))
        → length (map (λ message. message.line) (cond b (m ∷ filter (is_to seat) (xs ++ ys)) (filter (is_to seat) (xs ++ ys)))) ≡ length (map (λ message. message.line) (cond b (m ∷ filter (is_to seat) xs) (filter (is_to seat) xs))) + length (map (λ message. message.line) (filter (is_to seat) ys))
    by true rest = omega (arith, rest)
    by false rest = rest

reaching-one : (seat : ℕ) (m : Message) → reaching seat (m ∷ []) ≤ 1
unfolding addressed
reaching-one seat m = by (is_to seat m)
  where
    by : (b : Bool) → length (map (λ (message : Message). message.line) (cond b (m ∷ []) [])) ≤ 1
    by true = omega arith
    by false = omega arith

-- ---- the texts of a run

-- a text for another seat
text_elsewhere : (seat from : ℕ) (to : To) (k : ℕ) (text : List ℕ) → eqb seat k ≡ false → reaching seat (text_message from to k text) ≡ 0
unfolding addressed
text_elsewhere seat from to k [] other = refl
text_elsewhere seat from to k (c ∷ text) other = ap (λ b. length (map (λ (message : Message). message.line) (cond b (text_message from to k (c ∷ text)) []))) other

none_reaches : (seat : ℕ) → reaching seat [] ≤ 1
none_reaches seat = let none = reaching-none seat in omega (arith, none)

text_here : (seat from : ℕ) (to : To) (k : ℕ) (text : List ℕ) → reaching seat (text_message from to k text) ≤ 1
text_here seat from to k [] = none_reaches seat
text_here seat from to k (c ∷ text) = reaching-one seat _

texts_behind : (seat from : ℕ) (to : To) (k : ℕ) (texts : List (List ℕ)) → seat < k → reaching seat (text_messages from to k texts) ≡ 0
texts_behind seat from to k [] before = reaching-none seat
texts_behind seat from to k (text ∷ texts) before =
    let other : eqb seat k ≡ false = grind (arith, nat_tests, before) in
    let all : reaching seat (text_messages from to k (text ∷ texts)) ≡ reaching seat (text_message from to k text) + reaching seat (text_messages from to (k + 1) texts) =
    reaching-append seat (text_message from to k text) (text_messages from to (k + 1) texts) in
    let first = text_elsewhere seat from to k text other in
    let rest = texts_behind seat from to (k + 1) texts (omega arith) in
    omega (arith, all, first, rest)

texts_few : (seat from : ℕ) (to : To) (k : ℕ) (texts : List (List ℕ)) → reaching seat (text_messages from to k texts) ≤ 1
texts_few seat from to k [] = none_reaches seat
texts_few seat from to k (text ∷ texts) = by (eqb seat k) refl (texts_few seat from to (k + 1) texts)
  where
    all : reaching seat (text_messages from to k (text ∷ texts)) ≡ reaching seat (text_message from to k text) + reaching seat (text_messages from to (k + 1) texts)
    all = reaching-append seat (text_message from to k text) (text_messages from to (k + 1) texts)

    by : (b : Bool) → eqb seat k ≡ b → reaching seat (text_messages from to (k + 1) texts) ≤ 1 → reaching seat (text_messages from to k (text ∷ texts)) ≤ 1
    by true own few =
        let behind : seat < k + 1 = grind (arith, nat_tests, own) in
        let first = text_here seat from to k text in
        let rest = texts_behind seat from to (k + 1) texts behind in
        omega (arith, all, first, rest)
    by false other few = let first = text_elsewhere seat from to k text other in omega (arith, all, first, few)

run_few : (seat from : ℕ) (call : Option Call) (texts : List (List ℕ)) → reaching seat (run_messages from call texts) ≤ 1
run_few seat from None texts = none_reaches seat
run_few seat from (Some call) texts = texts_few seat from call.to 0 texts

-- ---- outcomes

-- one reply at most, and to each seat one message at most
pub record SendsFew (o : Outcome) : Type 0 where
  pub reply : length o.reply ≤ 1
  pub messages : (seat : ℕ) → length (messages_to seat o) ≤ 1

-- a command says something by its own words, or runs a macro
says_or_runs : (b : Book) (c : Command) → (said b c ≡ None) ⊎ (call_in c ≡ None)
says_or_runs b (Macro name args to) = inl refl
says_or_runs b c = inr refl

said_few : (seat from : ℕ) (words : Option (To × List ℕ)) (call : Option Call) (texts : List (List ℕ)) → (words ≡ None) ⊎ (call ≡ None) → reaching seat (message_by from words ++ run_messages from call texts) ≤ 1
said_few seat from None call texts either = run_few seat from call texts
said_few seat from (Some words) None texts either = reaching-one seat _
said_few seat from (Some words) (Some call) texts (inl none) = cc
said_few seat from (Some words) (Some call) texts (inr none) = cc

accepted_few : (report : Report) (seat : ℕ) (b : Book) (c : Command) (run : Called) → SendsFew (accepted_with report seat b c run)
accepted_few report seat b c run = record { reply = omega arith; messages = λ to. said_few to seat (said b c) (call_in c) (texts_in run) (says_or_runs b c) }

decided_few : (asked : Asked) (report : Report) (seat : ℕ) (b : Book) (c : Command) (r : Option Refusal) → SendsFew (decided asked report seat b c r)
decided_few asked report seat b c None = accepted_few report seat b c (called_by asked seat b c)
decided_few asked report seat b c (Some r) = record { reply = omega arith; messages = none_reaches }

read_few : (asked : Asked) (report : Report) (seat : ℕ) (b : Book) (r : Result Command LineFault) → SendsFew (read_outcome asked report seat b r)
read_few asked report seat b (Err fault) = record { reply = omega arith; messages = none_reaches }
read_few asked report seat b (Ok c) = decided_few asked report seat b c (broken_rule asked seat b c)

line_few : (asked : Asked) (report : Report) (seat : ℕ) (b : Book) (r : Result Command LineFault) (j : Bool) → SendsFew (cond j (read_outcome asked report seat b r) (refused_direct 0 NoHello))
line_few asked report seat b r true = read_few asked report seat b r
line_few asked report seat b r false = record { reply = omega arith; messages = none_reaches }

join_few : (asked : Asked) (b : Book) (reader writer : ℕ) (r : Option JoinRefusal) → SendsFew (join_outcome asked b reader writer r)
join_few asked b reader writer None = record { reply = omega arith; messages = none_reaches }
join_few asked b reader writer (Some r) = record { reply = omega arith; messages = none_reaches }

cut_few : (b : Book) (j : Bool) → SendsFew (cond j (record nothing { book = Some (freed b) }) nothing)
cut_few b true = record { reply = omega arith; messages = none_reaches }
cut_few b false = record { reply = omega arith; messages = none_reaches }

pub outcome_few : (asked : Asked) (report : Report) (before : Option Seat) (e : Entry) → SendsFew (outcome_at asked report before e)
outcome_few asked report None (Join seat key reader writer) = record { reply = omega arith; messages = none_reaches }
outcome_few asked report None (Line seat bytes) = record { reply = omega arith; messages = none_reaches }
outcome_few asked report None (Leave seat drop) = record { reply = omega arith; messages = none_reaches }
outcome_few asked report None (Taken seat count) = record { reply = omega arith; messages = none_reaches }
outcome_few asked report None (Cut seat) = record { reply = omega arith; messages = none_reaches }
outcome_few asked report (Some s) (Join seat key reader writer) = join_few asked s.book reader writer (join_refusal s.book key)
outcome_few asked report (Some s) (Line seat bytes) = line_few asked report seat s.book (command_of bytes (eqb seat 0)) (is_joined s.book.state)
outcome_few asked report (Some s) (Leave seat drop) = record { reply = omega arith; messages = none_reaches }
outcome_few asked report (Some s) (Taken seat count) = record { reply = omega arith; messages = none_reaches }
outcome_few asked report (Some s) (Cut seat) = cut_few s.book (is_joined s.book.state)
