-- What an entry of a script sends, where no line waited before it: the direct reply, and the lines that wait then.
use Rattle.std.proofs.Common.{◌≡◌, ℕ, zero, suc, ◌+◌, ◌-◌, ◌<◌, ◌≤◌, Bool, true, false, cond, ◌&&◌, ◌||◌, eqb, List, [], ◌∷◌, ◌++◌, length, drop, Some, None, refl, sym, ◌∙◌, ap, subst, arith, add-zero, append_assoc, ◌⊎◌, inl, inr}
use Rattle.std.specs.Prelude.{Option, Result, Ok, Err, slice_get, if◌then◌else◌, ◌==◌}
use Rattle.std.proofs.lemmas.List.{append-nil}
use Rattle.std.proofs.lemmas.Bool.{eqb-true, ne_eqb}
use Rattle.seats.specs.declared.seat_state.SeatState.{SeatState}
use Rattle.seats.specs.declared.seat_state.SeatState.TheVariants.{Free, Joined, Closing}
use Rattle.seats.specs.declared.seat_state.JoinRefusal.{JoinRefusal}
use Rattle.seats.specs.SeatState.{is_free, is_joined, is_closing}
use Rattle.seats.specs.Book.{Book, counted, left, join_refusal}
use Rattle.campaign_law.specs.declared.entry.Entry.{Entry}
use Rattle.command_json.specs.declared.command.Command.{Command}
use Rattle.command_json.specs.declared.command.LineFault.{LineFault}
use Rattle.command_rules.specs.declared.calls.Called.{Called}
use Rattle.command_rules.specs.declared.calls.Called.TheVariants.{NoRun, Stopped, Ran}
use Rattle.command_rules.specs.declared.refusal.Refusal.{Refusal}
use Rattle.command_rules.specs.declared.refusal.Refusal.TheVariants.{NoHello}
use Rattle.command_json.specs.Commands.{command_of}
use Rattle.command_rules.specs.MacroRules.{NewText, new_text_in}
use Rattle.command_effects.specs.MacroEffects.{drawing, setting_text, with_text}
use Rattle.command_effects.specs.Tags.{tag_made, using_tag}
use Rattle.player_view.specs.Asked.{Asked}
use Rattle.views.specs.declared.view.View.{View}
use Rattle.player_view.specs.View.{view_of}
use Rattle.campaign_law.specs.Seat.{Seat, freed_seat, is_let_go}
use Rattle.campaign_law.specs.Outcome.{Outcome, outcome_at, join_outcome, read_outcome, decided, accepted, refused_direct, refused_line, broken_rule, called_by, is_bye, dice_in, rolling, book_done, seat_of, Report}
use Rattle.campaign_law.specs.World.{World, seat_at, asked_of, report_of, outcome_of, scene_after, is_present, queued_reply, queued_lines, other_lines, lines_if_present, entry_lines, some_to_list, changed, seat_after, lines_of, step, replay}
use Rattle.campaign_law.specs.Law.{first_line}
use Rattle.campaign_law.specs.Session.{queued_of, unless_free}
use Rattle.campaign_law.specs.State.{mail_after}
use Rattle.campaign_law.proofs.Lists.{length-mapped_from}
use Rattle.seats.proofs.Books.{joined_not_free, is_free-closed, is_free-counted, is_free-joined}
use Rattle.campaign_law.proofs.Seats.{grown}
use Rattle.campaign_law.proofs.Sessions.{IsKept, goes_after}
use Rattle.script_play.specs.Script.{entry_by}
use Rattle.script_play.specs.Tagged.{entry_text_below, tagged_lines}

absurd_bool : {A : Type 0} (b : Bool) → b ≡ true → b ≡ false → A
absurd_bool b h k = let e : true ≡ false = sym h ∙ k in cc

-- ---- a seat that is Free after an entry of a script

free_not_joined : (s : SeatState) → is_free s ≡ true → is_joined s ≡ false
free_not_joined Free h = refl
free_not_joined (Joined r w) h = cc
free_not_joined (Closing r w) h = refl

-- what a book's words and macros are doesn't matter
drawing_free : (run : Called) (b : Book) → is_free (drawing run b).state ≡ is_free b.state
drawing_free NoRun b = refl
drawing_free (Stopped refusal) b = refl
drawing_free (Ran run) b = refl

rolling_free : (dice : Option (List ℕ)) (b : Book) → is_free (rolling dice b).state ≡ is_free b.state
rolling_free None b = refl
rolling_free (Some dice) b = refl

text_free : (name : List ℕ) (text : Option (List ℕ)) (b : Book) → is_free (with_text name text b).state ≡ is_free b.state
text_free name None b = refl
text_free name (Some text) b = refl

setting_free : (new : Option NewText) (b : Book) → is_free (setting_text new b).state ≡ is_free b.state
setting_free None b = refl
setting_free (Some new) b = text_free new.name new.text b

using_free : (tag : Option (List ℕ)) (b : Book) → is_free (using_tag tag b).state ≡ is_free b.state
using_free None b = refl
using_free (Some tag) b = refl

-- no command frees a seat
book_done_free : (c : Command) (b : Book) → is_free (book_done c b).state ≡ is_free b.state
book_done_free c b = by (is_bye c)
  where
    by : (leaves : Bool) → is_free (cond leaves (left b) (using_tag (tag_made c) (setting_text (new_text_in c) (rolling (dice_in c) b)))).state ≡ is_free b.state
    by true = is_free-closed b.state
    by false = using_free (tag_made c) (setting_text (new_text_in c) (rolling (dice_in c) b)) ∙ setting_free (new_text_in c) (rolling (dice_in c) b) ∙ rolling_free (dice_in c) b

-- the reply that stands in no queue
abbrev pub direct_line : Outcome → Option (List ℕ)
direct_line o = if o.direct then first_line o.reply else None

-- where the seat is Free afterwards nothing was queued for it, and a direct reply is at most one line
pub record Leaves (s : Seat) (o : Outcome) : Type 0 where
  pub absent : is_free (changed o true s).book.state ≡ true → is_present true (Some s) o ≡ false
  pub unqueued : is_free (changed o true s).book.state ≡ true → queued_reply o ≡ []
  pub once : some_to_list (direct_line o) ++ queued_reply o ≡ o.reply

-- a direct refusal
direct_leaves : (s : Seat) (n : ℕ) (refusal : Refusal) → Leaves s (refused_direct n refusal)
direct_leaves s n refusal = record {
  absent = λ h. ap (λ j. j || false) (free_not_joined s.book.state h);
  unqueued = λ h. refl;
  once = refl;
}

-- a seat that isn't Free afterwards
busy_leaves : (s : Seat) (o : Outcome) → is_free (changed o true s).book.state ≡ false → o.direct ≡ false → Leaves s o
busy_leaves s o busy queued = record {
  absent = λ h. absurd_bool (is_free (changed o true s).book.state) h busy;
  unqueued = λ h. absurd_bool (is_free (changed o true s).book.state) h busy;
  once = ap (λ d. some_to_list (cond d (first_line o.reply) None) ++ cond d [] o.reply) queued;
}

join_leaves : (asked : Asked) (s : Seat) (reader writer : ℕ) (refusal : Option JoinRefusal) → Leaves s (join_outcome asked s.book reader writer refusal)
join_leaves asked s reader writer (Some refusal) = direct_leaves s _ _
join_leaves asked s reader writer None = busy_leaves s (join_outcome asked s.book reader writer None) (is_free-joined s.book reader writer) refl

decided_leaves : (asked : Asked) (report : Report) (seat : ℕ) (s : Seat) (c : Command) (refusal : Option Refusal) → is_joined s.book.state ≡ true → Leaves s (decided asked report seat s.book c refusal)
decided_leaves asked report seat s c (Some refusal) j = busy_leaves s (refused_line s.book refusal) (is_free-counted s.book ∙ joined_not_free s.book.state j) refl
decided_leaves asked report seat s c None j =
    let run : Called = called_by asked seat s.book c in
    busy_leaves s (accepted asked report seat s.book c)
    (book_done_free c (drawing run (counted s.book)) ∙ drawing_free run (counted s.book) ∙ is_free-counted s.book ∙ joined_not_free s.book.state j) refl

read_leaves : (asked : Asked) (report : Report) (seat : ℕ) (s : Seat) (r : Result Command LineFault) → is_joined s.book.state ≡ true → Leaves s (read_outcome asked report seat s.book r)
read_leaves asked report seat s (Err fault) j = busy_leaves s (refused_line s.book _) (is_free-counted s.book ∙ joined_not_free s.book.state j) refl
read_leaves asked report seat s (Ok command) j = decided_leaves asked report seat s command (broken_rule asked seat s.book command) j

line_leaves : (asked : Asked) (report : Report) (seat : ℕ) (s : Seat) (bytes : List ℕ) (j : Bool) → is_joined s.book.state ≡ j → Leaves s (cond j (read_outcome asked report seat s.book (command_of bytes (eqb seat 0))) (refused_direct 0 NoHello))
line_leaves asked report seat s bytes true h = read_leaves asked report seat s (command_of bytes (eqb seat 0)) h
line_leaves asked report seat s bytes false h = direct_leaves s 0 NoHello

entry_leaves : (w : World) (seat : ℕ) (bytes : List ℕ) (key : Option (List ℕ)) (s : Seat) → seat_at w seat ≡ Some s → Leaves s (outcome_of w (entry_by seat bytes key))
entry_leaves w seat bytes (Some key) s is =
    let e : Entry = entry_by seat bytes (Some key) in
    subst (λ b. Leaves s (outcome_at (asked_of w seat) (report_of w e) b e)) (sym is) (join_leaves (asked_of w seat) s seat seat (join_refusal s.book key))
entry_leaves w seat bytes None s is =
    let e : Entry = entry_by seat bytes None in
    subst (λ b. Leaves s (outcome_at (asked_of w seat) (report_of w e) b e)) (sym is)
    (line_leaves (asked_of w seat) (report_of w e) seat s bytes (is_joined s.book.state) refl)

pub seat_of_entry_by : (seat : ℕ) (bytes : List ℕ) (key : Option (List ℕ)) → seat_of (entry_by seat bytes key) ≡ seat
seat_of_entry_by seat bytes (Some key) = refl
seat_of_entry_by seat bytes None = refl

-- ---- the lines that wait then

-- an entry whose seat is this, of which it leaves so much
abbrev pub LeavesAt : World → Entry → Type 0
LeavesAt w e = (s : Seat) → seat_at w (seat_of e) ≡ Some s → Leaves s (outcome_of w e)

pub leaves_at : (w : World) (seat : ℕ) (bytes : List ℕ) (key : Option (List ℕ)) → LeavesAt w (entry_by seat bytes key)
leaves_at w seat bytes key s is = entry_leaves w seat bytes key s (ap (seat_at w) (sym (seat_of_entry_by seat bytes key)) ∙ is)

present_lines : (p : ℕ) (acts : Bool) (o : Outcome) (v v' : View) (present : Bool) → present ≡ false → lines_if_present p acts o v v' present ≡ []
present_lines p acts o v v' present h = ap (lines_if_present p acts o v v') h

-- nothing is queued for a seat that is Free by its own entry
none_queued : (p : ℕ) (acts : Bool) (s : Seat) (o : Outcome) (v v' : View) → (acts ≡ true → Leaves s o) → is_free (changed o acts s).book.state ≡ true → queued_lines p acts (Some s) o v v' ≡ []
none_queued p true s o v v' l h =
    ap (λ r. r ++ other_lines p true (Some s) o v v') ((l refl).unqueued h)
    ∙ present_lines p true o v v' (is_present true (Some s) o) ((l refl).absent h)
none_queued p false s o v v' l h = present_lines p false o v v' (is_present false (Some s) o) (ap (λ j. j || false) (free_not_joined s.book.state h))

taken_all : (o : Outcome) (acts : Bool) (s : Seat) → s.taken ≡ s.queued → (changed o acts s).taken ≡ s.queued
taken_all o true s h = omega (arith, h)
taken_all o false s h = h

queued_same : (o : Outcome) (acts : Bool) (s : Seat) → (changed o acts s).queued ≡ s.queued
queued_same o true s = refl
queued_same o false s = refl

or_cases : (a b : Bool) → (a || b) ≡ true → (a ≡ true) ⊎ (b ≡ true)
or_cases true b h = inl refl
or_cases false b h = inr h

and_second : (a b : Bool) → (a && b) ≡ true → b ≡ true
and_second true b h = h
and_second false b h = cc

none_of_length : (qs : List (List ℕ)) → length qs ≡ 0 → qs ≡ []
none_of_length [] h = refl
none_of_length (q ∷ qs) h = absurd (omega (arith, h))

-- a seat that is let go with nothing waiting was queued nothing
let_go_none : (c : Seat) (qs : List (List ℕ)) → (is_free c.book.state ≡ true → qs ≡ []) → c.taken ≡ c.queued → is_let_go (grown (length qs) c) ≡ true → qs ≡ []
let_go_none c qs none all h = elim (or_cases (is_free c.book.state) _ h) [
  | inl free ↦ none free
  | inr closing ↦
      let same : c.taken ≡ c.queued + length qs = eqb-true c.taken (c.queued + length qs) (and_second (is_closing c.book.state) _ closing) in
      none_of_length qs (omega (arith, same, all))
]

free_none : (c : Seat) (qs : List (List ℕ)) (t : Bool) → is_let_go (grown (length qs) c) ≡ t → (is_free c.book.state ≡ true → qs ≡ []) → c.taken ≡ c.queued → is_free (cond t (freed_seat (grown (length qs) c)) (grown (length qs) c)).book.state ≡ true → qs ≡ []
free_none c qs true e none all h = let_go_none c qs none all e
free_none c qs false e none all h = none h

drop_none : {A : Type 0} (n : ℕ) (xs : List A) → length xs ≤ n → drop n xs ≡ []
drop_none zero [] h = refl
drop_none (suc n) [] h = refl
drop_none zero (x ∷ xs) h = absurd (omega arith)
drop_none (suc n) (x ∷ xs) h = drop_none n xs (omega arith)

-- the mail after an entry, where no line waited before it
mail_is : (s s' : Seat) (mail qs : List (List ℕ)) (f : Bool) → is_free s'.book.state ≡ f → mail ≡ [] → (f ≡ true → qs ≡ []) → mail_after s s' qs mail ≡ qs
mail_is s s' mail qs true e m none = ap (λ f. cond f [] (drop (s'.taken - s.taken) mail ++ qs)) e ∙ sym (none refl)
mail_is s s' mail qs false e m none =
    ap (λ f. cond f [] (drop (s'.taken - s.taken) mail ++ qs)) e
    ∙ ap (λ x. x ++ qs) (ap (drop (s'.taken - s.taken)) m ∙ drop_none (s'.taken - s.taken) [] (omega arith))

-- what waits after an entry of a script is what it queues
pub waits_queued : (w : World) (e : Entry) (p : ℕ) (s : Seat) (ls : List (List ℕ)) → LeavesAt w e → seat_at w p ≡ Some s → IsKept ls s → s.taken ≡ s.queued → drop (seat_after w e p s).taken (unless_free (ls ++ queued_of w e p) (Some (seat_after w e p s))) ≡ queued_of w e p
waits_queued w e p s ls leaves is kept all =
    let acts : Bool = eqb (seat_of e) p in
    let o : Outcome = outcome_of w e in
    let v : View = view_of w.scene p in
    let v' : View = view_of (scene_after w e) p in
    let qs : List (List ℕ) = queued_lines p acts (Some s) o v v' in
    let c : Seat = changed o acts s in
    let s' : Seat = seat_after w e p s in
    let x = goes_after w e p s ls kept in
    let mail : drop s.taken ls ≡ [] = drop_none s.taken ls (omega (arith, kept.count, all)) in
    let own : acts ≡ true → Leaves s o = λ h. leaves s (ap (seat_at w) (eqb-true (seat_of e) p h) ∙ is) in
    let none : is_free s'.book.state ≡ true → qs ≡ [] = free_none c qs (is_let_go (grown (length qs) c)) refl (none_queued p acts s o v v' own) (taken_all o acts s all ∙ sym (queued_same o acts s)) in
    let waits : drop s'.taken (unless_free (ls ++ qs) (Some s')) ≡ qs = sym x.mail ∙ mail_is s s' (drop s.taken ls) qs (is_free s'.book.state) refl mail none in
    subst (λ b. drop s'.taken (unless_free (ls ++ queued_lines p acts b o v v') (Some s')) ≡ queued_lines p acts b o v v') (sym is) waits

-- ---- the lines of an entry

-- what goes to a seat directly
abbrev pub direct_to : World → Entry → ℕ → List (List ℕ)
direct_to w e p = if seat_of e == p then some_to_list (if (outcome_of w e).direct then first_line (outcome_of w e).reply else None) else []

by_acts : (p : ℕ) (acts : Bool) (before : Option Seat) (o : Outcome) (v v' : View) → (acts ≡ true → some_to_list (direct_line o) ++ queued_reply o ≡ o.reply) → cond acts (some_to_list (direct_line o)) [] ++ queued_lines p acts before o v v' ≡ entry_lines p acts before o v v'
by_acts p true before o v v' once = sym (append_assoc (some_to_list (direct_line o)) (queued_reply o) (other_lines p true before o v v')) ∙ ap (λ r. r ++ other_lines p true before o v v') (once refl)
by_acts p false before o v v' once = refl

-- the direct reply, and then what is queued
pub lines_sent : (w : World) (e : Entry) (p : ℕ) (s : Seat) → LeavesAt w e → seat_at w (seat_of e) ≡ Some s → direct_to w e p ++ queued_of w e p ≡ lines_of w e p
lines_sent w e p s leaves is = by_acts p (eqb (seat_of e) p) (seat_at w p) (outcome_of w e) (view_of w.scene p) (view_of (scene_after w e) p) (λ h. (leaves s is).once)

-- to a seat that isn't in the campaign nothing is sent, unless it acts
pub absent_lines : (p : ℕ) (acts : Bool) (before : Option Seat) (o : Outcome) (v v' : View) → acts ≡ false → before ≡ None → entry_lines p acts before o v v' ≡ []
absent_lines p acts before o v v' h k = λ i. entry_lines p (h i) (k i) o v v'

pub slice_get-past : {A : Type 0} (xs : List A) (i : ℕ) → length xs ≤ i → slice_get xs i ≡ None
slice_get-past [] i h = refl
slice_get-past (x ∷ xs) zero h = absurd (omega arith)
slice_get-past (x ∷ xs) (suc i) h = slice_get-past xs i (omega arith)

-- so the seats of the campaign are enough
pub text_of_seats : (w : World) (e : Entry) (more : ℕ) → seat_of e < length w.seats → entry_text_below w e (length w.seats + more) ≡ entry_text_below w e (length w.seats)
text_of_seats w e zero own = ap (entry_text_below w e) (add-zero (length w.seats))
text_of_seats w e (suc more) own =
    let p : ℕ = length w.seats + more in
    let later : length w.seats + suc more ≡ suc p = omega arith in
    let other : eqb (seat_of e) p ≡ false = ne_eqb (seat_of e) p (λ h. absurd (omega (arith, h, own))) in
    let out : seat_at w p ≡ None = slice_get-past w.seats p (omega arith) in
    ap (entry_text_below w e) later
    ∙ ap (λ ls. entry_text_below w e p ++ tagged_lines p ls) (absent_lines p (eqb (seat_of e) p) (seat_at w p) (outcome_of w e) (view_of w.scene p) (view_of (scene_after w e) p) other out)
    ∙ append-nil (entry_text_below w e p)
    ∙ text_of_seats w e more own

-- no entry adds a seat
pub seats_of_replay : (w : World) (h : List Entry) → length (replay w h).seats ≡ length w.seats
seats_of_replay w [] = refl
seats_of_replay w (e ∷ h) = seats_of_replay (step w e) h ∙ length-mapped_from (seat_after w e) 0 w.seats
