-- What an entry does to its seat's count of lines, and that what doesn't count says nothing.
use Rattle.std.proofs.Common.{◌≡◌, ℕ, ◌+◌, ◌≤◌, ◌<◌, Bool, true, false, cond, eqb, List, [], Some, None, refl, ◌∙◌, arith}
use Rattle.std.specs.Prelude.{Option, Result, Ok, Err, IfSome, not}
use Rattle.std.specs.Str.{bytes_eq}
use Rattle.std.proofs.lemmas.Bool.Decides.{nat_tests}
use Rattle.seats.specs.declared.seat_state.JoinRefusal.TheVariants.{BadKey, SeatTaken, Spent}
use Rattle.seats.specs.Book.{Book, counted, joined, left, freed, join_refusal, line_limit}
use Rattle.seats.specs.SeatState.{is_free, is_joined, closed}
use Rattle.seats.specs.declared.seat_state.SeatState.{SeatState}
use Rattle.seats.specs.declared.seat_state.SeatState.TheVariants.{Free, Joined, Closing}
use Rattle.seats.specs.declared.seat_state.JoinRefusal.{JoinRefusal}
use Rattle.command_json.specs.Commands.{command_of}
use Rattle.command_json.specs.declared.command.Command.{Command}
use Rattle.command_json.specs.declared.command.LineFault.{LineFault}
use Rattle.command_rules.specs.declared.calls.Called.{Called}
use Rattle.command_rules.specs.declared.calls.Called.TheVariants as calls
use Rattle.command_rules.specs.declared.refusal.Refusal.{Refusal}
use Rattle.command_rules.specs.declared.refusal.Refusal.TheVariants.{NoHello}
use Rattle.command_rules.specs.MacroRules.{NewText, new_text_in}
use Rattle.command_effects.specs.MacroEffects.{with_text, setting_text, drawing}
use Rattle.command_effects.specs.Tags.{tag_made, using_tag}
use Rattle.player_view.specs.Asked.{Asked}
use Rattle.campaign_law.specs.declared.entry.Entry.{Entry}
use Rattle.campaign_law.specs.declared.entry.Entry.TheVariants.{Join, Line, Leave, Taken, Cut}
use Rattle.campaign_law.specs.Seat.{Seat}
use Rattle.campaign_law.specs.Outcome.{Report, Outcome, nothing, join_outcome, refused_line, refused_direct, accepted_with, called_by, broken_rule, decided, read_outcome, outcome_at, book_done, is_bye, rolling, dice_in}
use Rattle.campaign_law.specs.World.{queued_reply}

-- a book between entries
pub record InLimit (b : Book) : Type 0 where
  pub most : b.lines ≤ line_limit
  -- the last line closes the seat
  pub more : is_joined b.state ≡ true → b.lines < line_limit

-- no further line is counted, and the seat is Joined only where it was
pub record KeepsLines (b c : Book) : Type 0 where
  pub lines : c.lines ≡ b.lines
  pub seated : is_joined c.state ≡ true → is_joined b.state ≡ true

-- no reply is queued, no message is sent, the full line isn't due, and no command is done
pub record IsQuiet (o : Outcome) : Type 0 where
  pub reply : queued_reply o ≡ []
  pub messages : o.messages ≡ []
  pub full : o.full ≡ false
  pub done : o.done ≡ None

-- it counts as a line, or says nothing
pub data Counts (b : Book) (o : Outcome) : Type 0 where
  counts : (next : Book) → o.book ≡ Some next → next.lines ≡ b.lines + 1 → InLimit next → Counts b o
  still : IsQuiet o → IfSome o.book (KeepsLines b) → Counts b o

-- ---- books

same_lines : (b : Book) → KeepsLines b b
same_lines b = record { lines = refl; seated = λ j. j }

then_lines : (b c d : Book) → KeepsLines b c → KeepsLines c d → KeepsLines b d
then_lines b c d f g = record { lines = g.lines ∙ f.lines; seated = λ j. f.seated (g.seated j) }

not_closed : (state : SeatState) → is_joined (closed state) ≡ true → ⊥
not_closed Free j = cc
not_closed (Joined reader writer) j = cc
not_closed (Closing reader writer) j = cc

left_lines : (b : Book) → KeepsLines b (left b)
left_lines b = record { lines = refl; seated = λ j. absurd (not_closed b.state j) }

freed_lines : (b : Book) → KeepsLines b (freed b)
freed_lines b = record { lines = refl; seated = λ j. cc }

using_lines : (tag : Option (List ℕ)) (b : Book) → KeepsLines b (using_tag tag b)
using_lines None b = same_lines b
using_lines (Some tag) b = record { lines = refl; seated = λ j. j }

rolling_lines : (dice : Option (List ℕ)) (b : Book) → KeepsLines b (rolling dice b)
rolling_lines None b = same_lines b
rolling_lines (Some dice) b = record { lines = refl; seated = λ j. j }

text_lines : (name : List ℕ) (text : Option (List ℕ)) (b : Book) → KeepsLines b (with_text name text b)
text_lines name None b = record { lines = refl; seated = λ j. j }
text_lines name (Some text) b = record { lines = refl; seated = λ j. j }

setting_lines : (new : Option NewText) (b : Book) → KeepsLines b (setting_text new b)
setting_lines None b = same_lines b
setting_lines (Some new) b = text_lines new.name new.text b

drawing_lines : (run : Called) (b : Book) → KeepsLines b (drawing run b)
drawing_lines calls.NoRun b = same_lines b
drawing_lines (calls.Stopped refusal) b = same_lines b
drawing_lines (calls.Ran run) b = record { lines = refl; seated = λ j. j }

done_lines : (c : Command) (b : Book) → KeepsLines b (book_done c b)
done_lines c b = by (is_bye c)
  where
    by : (t : Bool) → KeepsLines b (cond t (left b) (using_tag (tag_made c) (setting_text (new_text_in c) (rolling (dice_in c) b))))
    by true = left_lines b
    by false =
        let rolled : Book = rolling (dice_in c) b in
        let set : Book = setting_text (new_text_in c) rolled in
        then_lines b rolled _ (rolling_lines (dice_in c) b) (then_lines rolled set _ (setting_lines (new_text_in c) rolled) (using_lines (tag_made c) set))

-- the last line closes the seat
counted_limit : (b : Book) → b.lines < line_limit → InLimit (counted b)
counted_limit b few = record { most = omega (arith, few); more = λ j. by (eqb (b.lines + 1) line_limit) refl j }
  where
    by : (last : Bool) → eqb (b.lines + 1) line_limit ≡ last → is_joined (cond last (closed b.state) b.state) ≡ true → b.lines + 1 < line_limit
    by true is j = absurd (not_closed b.state j)
    by false is j = grind (arith, nat_tests, few, is)

pub limit_kept : (b c : Book) → InLimit b → KeepsLines b c → InLimit c
limit_kept b c limit keeps = record {
  most = (let e = keeps.lines in let m = limit.most in omega (arith, e, m));
  more = λ j. (let e = keeps.lines in let m = limit.more (keeps.seated j) in omega (arith, e, m));
}

-- ---- outcomes

-- a line that is counted and leaves the book so
counts_line : (b next : Book) (o : Outcome) → b.lines < line_limit → o.book ≡ Some next → KeepsLines (counted b) next → Counts b o
counts_line b next o few is keeps = counts next is keeps.lines (limit_kept (counted b) next (counted_limit b few) keeps)

decided_counts : (asked : Asked) (report : Report) (seat : ℕ) (b : Book) (c : Command) (r : Option Refusal) → b.lines < line_limit → Counts b (decided asked report seat b c r)
decided_counts asked report seat b c None few =
    let run : Called = called_by asked seat b c in
    let drawn : Book = drawing run (counted b) in
    counts_line b (book_done c drawn) (accepted_with report seat b c run) few refl (then_lines (counted b) drawn (book_done c drawn) (drawing_lines run (counted b)) (done_lines c drawn))
decided_counts asked report seat b c (Some r) few = counts_line b (counted b) (refused_line b r) few refl (same_lines (counted b))

read_counts : (asked : Asked) (report : Report) (seat : ℕ) (b : Book) (r : Result Command LineFault) → b.lines < line_limit → Counts b (read_outcome asked report seat b r)
read_counts asked report seat b (Err fault) few = counts_line b (counted b) (read_outcome asked report seat b (Err fault)) few refl (same_lines (counted b))
read_counts asked report seat b (Ok c) few = decided_counts asked report seat b c (broken_rule asked seat b c) few

line_counts : (asked : Asked) (report : Report) (seat : ℕ) (b : Book) (r : Result Command LineFault) (j : Bool) → is_joined b.state ≡ j → InLimit b → Counts b (cond j (read_outcome asked report seat b r) (refused_direct 0 NoHello))
line_counts asked report seat b r true is limit = read_counts asked report seat b r (limit.more is)
line_counts asked report seat b r false is limit = still (record { reply = refl; messages = refl; full = refl; done = refl }) tt

-- a Join that isn't refused finds lines left
lines_left : (b : Book) (key : List ℕ) → InLimit b → join_refusal b key ≡ None → b.lines < line_limit
lines_left b key limit none =
    let unspent : eqb b.lines line_limit ≡ false = by_key (bytes_eq b.key key) (is_free b.state) (eqb b.lines line_limit) none in
    let most = limit.most in
    grind (arith, nat_tests, unspent, most)
  where
    by_key : (same free spent : Bool) → cond (not same) (Some BadKey) (cond (not free) (Some SeatTaken) (cond spent (Some Spent) None)) ≡ None → spent ≡ false
    by_key false free spent h = cc
    by_key true false spent h = cc
    by_key true true true h = cc
    by_key true true false h = refl

join_counts : (asked : Asked) (b : Book) (key : List ℕ) (reader writer : ℕ) (r : Option JoinRefusal) → InLimit b → join_refusal b key ≡ r → Counts b (join_outcome asked b reader writer r)
join_counts asked b key reader writer (Some r) limit is = still (record { reply = refl; messages = refl; full = refl; done = refl }) tt
join_counts asked b key reader writer None limit is =
    counts (joined b reader writer) refl refl (counted_limit (record b { state = Joined reader writer }) (lines_left b key limit is))

leave_lines : (drop : Bool) (b : Book) → KeepsLines b (cond drop (freed b) (left b))
leave_lines true b = freed_lines b
leave_lines false b = left_lines b

cut_counts : (b : Book) (j : Bool) → Counts b (cond j (record nothing { book = Some (freed b) }) nothing)
cut_counts b true = still (record { reply = refl; messages = refl; full = refl; done = refl }) (freed_lines b)
cut_counts b false = still (record { reply = refl; messages = refl; full = refl; done = refl }) tt

pub outcome_counts : (asked : Asked) (report : Report) (s : Seat) (e : Entry) → InLimit s.book → Counts s.book (outcome_at asked report (Some s) e)
outcome_counts asked report s (Join seat key reader writer) limit = join_counts asked s.book key reader writer (join_refusal s.book key) limit refl
outcome_counts asked report s (Line seat bytes) limit = line_counts asked report seat s.book (command_of bytes (eqb seat 0)) (is_joined s.book.state) refl limit
outcome_counts asked report s (Leave seat drop) limit = still (record { reply = refl; messages = refl; full = refl; done = refl }) (leave_lines drop s.book)
outcome_counts asked report s (Taken seat count) limit = still (record { reply = refl; messages = refl; full = refl; done = refl }) tt
outcome_counts asked report s (Cut seat) limit = cut_counts s.book (is_joined s.book.state)

-- a seat that isn't there says nothing
pub absent_quiet : (asked : Asked) (report : Report) (e : Entry) → IsQuiet (outcome_at asked report None e)
absent_quiet asked report (Join seat key reader writer) = record { reply = refl; messages = refl; full = refl; done = refl }
absent_quiet asked report (Line seat bytes) = record { reply = refl; messages = refl; full = refl; done = refl }
absent_quiet asked report (Leave seat drop) = record { reply = refl; messages = refl; full = refl; done = refl }
absent_quiet asked report (Taken seat count) = record { reply = refl; messages = refl; full = refl; done = refl }
absent_quiet asked report (Cut seat) = record { reply = refl; messages = refl; full = refl; done = refl }
