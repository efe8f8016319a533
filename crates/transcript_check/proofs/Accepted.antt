-- What of an outcome its refusal tells.
use Rattle.std.proofs.Common.{◌≡◌, ℕ, Bool, true, false, cond, ◌&&◌, eqb, Some, None, refl}
use Rattle.std.specs.Prelude.{Option, Result, Ok, Err, is_none}
use Rattle.seats.specs.Book.{Book, freed, join_refusal}
use Rattle.seats.specs.SeatState.{is_joined}
use Rattle.seats.specs.declared.seat_state.JoinRefusal.{JoinRefusal}
use Rattle.command_json.specs.Commands.{command_of}
use Rattle.command_json.specs.declared.command.Command.{Command}
use Rattle.command_json.specs.declared.command.LineFault.{LineFault}
use Rattle.player_view.specs.Asked.{Asked}
use Rattle.command_rules.specs.declared.refusal.Refusal.{Refusal}
use Rattle.command_rules.specs.declared.refusal.Refusal.TheVariants.{NoHello}
use Rattle.campaign_law.specs.declared.entry.Entry.{Entry}
use Rattle.campaign_law.specs.declared.entry.Entry.TheVariants.{Join, Line, Leave, Taken, Cut}
use Rattle.campaign_law.specs.Seat.{Seat}
use Rattle.campaign_law.specs.Outcome.{Outcome, Report, broken_rule, decided, is_look, join_outcome, nothing, outcome_at, read_outcome, refused_direct}
use Rattle.transcript_check.specs.Entering.{is_join, is_look_in, asks_full}

abbrev accepted_full : Bool → Outcome → Bool
accepted_full asks o = asks && is_none o.refusal

and_true : (b : Bool) → b ≡ (b && true)
and_true true = refl
and_true false = refl

and_false : (b : Bool) → false ≡ (b && false)
and_false true = refl
and_false false = refl

-- ---- whether the seat joins

decided_joins : (asked : Asked) (report : Report) (seat : ℕ) (b : Book) (c : Command) (r : Option Refusal) → (decided asked report seat b c r).joins ≡ false
decided_joins asked report seat b c None = refl
decided_joins asked report seat b c (Some r) = refl

read_joins : (asked : Asked) (report : Report) (seat : ℕ) (b : Book) (r : Result Command LineFault) → (read_outcome asked report seat b r).joins ≡ false
read_joins asked report seat b (Err fault) = refl
read_joins asked report seat b (Ok c) = decided_joins asked report seat b c (broken_rule asked seat b c)

line_joins : (asked : Asked) (report : Report) (seat : ℕ) (b : Book) (r : Result Command LineFault) (j : Bool) → (cond j (read_outcome asked report seat b r) (refused_direct 0 NoHello)).joins ≡ false
line_joins asked report seat b r true = read_joins asked report seat b r
line_joins asked report seat b r false = refl

join_joins : (asked : Asked) (b : Book) (reader writer : ℕ) (r : Option JoinRefusal) → (join_outcome asked b reader writer r).joins ≡ is_none (join_outcome asked b reader writer r).refusal
join_joins asked b reader writer None = refl
join_joins asked b reader writer (Some r) = refl

cut_joins : (b : Book) (j : Bool) → (cond j (record nothing { book = Some (freed b) }) nothing).joins ≡ false
cut_joins b true = refl
cut_joins b false = refl

pub joins_is : (asked : Asked) (report : Report) (before : Option Seat) (e : Entry) → (outcome_at asked report before e).joins ≡ (is_join e && is_none (outcome_at asked report before e).refusal)
joins_is asked report None (Join seat key reader writer) = refl
joins_is asked report None (Line seat bytes) = refl
joins_is asked report None (Leave seat drop) = refl
joins_is asked report None (Taken seat count) = refl
joins_is asked report None (Cut seat) = refl
joins_is asked report (Some s) (Join seat key reader writer) = join_joins asked s.book reader writer (join_refusal s.book key)
joins_is asked report (Some s) (Line seat bytes) = line_joins asked report seat s.book (command_of bytes (eqb seat 0)) (is_joined s.book.state)
joins_is asked report (Some s) (Leave seat drop) = refl
joins_is asked report (Some s) (Taken seat count) = refl
joins_is asked report (Some s) (Cut seat) = cut_joins s.book (is_joined s.book.state)

-- ---- whether the full line is due

decided_full : (asked : Asked) (report : Report) (seat : ℕ) (b : Book) (c : Command) (r : Option Refusal) → (decided asked report seat b c r).full ≡ accepted_full (is_look c) (decided asked report seat b c r)
decided_full asked report seat b c None = and_true (is_look c)
decided_full asked report seat b c (Some r) = and_false (is_look c)

read_full : (asked : Asked) (report : Report) (seat : ℕ) (b : Book) (r : Result Command LineFault) → (read_outcome asked report seat b r).full ≡ accepted_full (is_look_in r) (read_outcome asked report seat b r)
read_full asked report seat b (Err fault) = refl
read_full asked report seat b (Ok c) = decided_full asked report seat b c (broken_rule asked seat b c)

line_full : (asked : Asked) (report : Report) (seat : ℕ) (b : Book) (r : Result Command LineFault) (j : Bool)
    → (cond j (read_outcome asked report seat b r) (refused_direct 0 NoHello)).full ≡ accepted_full (is_look_in r) (cond j (read_outcome asked report seat b r) (refused_direct 0 NoHello))
line_full asked report seat b r true = read_full asked report seat b r
line_full asked report seat b r false = and_false (is_look_in r)

join_full : (asked : Asked) (b : Book) (reader writer : ℕ) (r : Option JoinRefusal) → (join_outcome asked b reader writer r).full ≡ is_none (join_outcome asked b reader writer r).refusal
join_full asked b reader writer None = refl
join_full asked b reader writer (Some r) = refl

cut_full : (b : Book) (j : Bool) → (cond j (record nothing { book = Some (freed b) }) nothing).full ≡ false
cut_full b true = refl
cut_full b false = refl

pub full_is : (asked : Asked) (report : Report) (before : Option Seat) (e : Entry) → (outcome_at asked report before e).full ≡ (asks_full e && is_none (outcome_at asked report before e).refusal)
full_is asked report None (Join seat key reader writer) = refl
full_is asked report None (Line seat bytes) = and_false (is_look_in (command_of bytes (eqb seat 0)))
full_is asked report None (Leave seat drop) = refl
full_is asked report None (Taken seat count) = refl
full_is asked report None (Cut seat) = refl
full_is asked report (Some s) (Join seat key reader writer) = join_full asked s.book reader writer (join_refusal s.book key)
full_is asked report (Some s) (Line seat bytes) = line_full asked report seat s.book (command_of bytes (eqb seat 0)) (is_joined s.book.state)
full_is asked report (Some s) (Leave seat drop) = refl
full_is asked report (Some s) (Taken seat count) = refl
full_is asked report (Some s) (Cut seat) = cut_full s.book (is_joined s.book.state)
