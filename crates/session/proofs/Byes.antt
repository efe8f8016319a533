-- The lines that close a seat: a bye, and the last of all.
use Rattle.std.proofs.Common.{◌≡◌, ℕ, ◌+◌, Bool, true, false, cond, ◌||◌, ◌&&◌, eqb, List, [], ◌∷◌, ◌++◌, length, refl, sym, ◌∙◌, ap, subst, eq-eqb, ◌⊎◌, inl, inr}
use Rattle.std.specs.Prelude.{Option, Some, None, option_map, unwrap_or, Result, Ok, Err}
use Rattle.seats.specs.Book.{Book, counted, left}
use Rattle.seats.specs.SeatState.{is_joined, closed}
use Rattle.seats.specs.declared.seat_state.SeatState.{SeatState}
use Rattle.seats.specs.declared.seat_state.SeatState.TheVariants.{Free, Joined, Closing}
use Rattle.seats.proofs.Books.{joined_not_free, joined_not_closing}
use Rattle.command_json.specs.declared.command.Command.{Command}
use Rattle.command_json.specs.declared.command.LineFault.{LineFault}
use Rattle.command_json.specs.Commands.{command_of}
use Rattle.command_rules.specs.declared.refusal.Refusal.{Refusal}
use Rattle.command_rules.specs.declared.calls.Called.{Called}
use Rattle.command_rules.specs.declared.calls.Called.TheVariants.{NoRun, Stopped, Ran}
use Rattle.command_rules.specs.MacroRules.{NewText, new_text_in}
use Rattle.command_effects.specs.MacroEffects.{drawing, setting_text, with_text}
use Rattle.command_effects.specs.Tags.{tag_made, using_tag}
use Rattle.player_view.specs.View.{view_of}
use Rattle.player_view.specs.Asked.{Asked}
use Rattle.campaign_law.specs.declared.entry.Entry.{Entry}
use Rattle.campaign_law.specs.declared.entry.Entry.TheVariants.{Line}
use Rattle.campaign_law.specs.Seat.{Seat, freed_seat, is_let_go, settled}
use Rattle.campaign_law.specs.Outcome.{Outcome, is_bye, dice_in, rolling, called_by, decided, broken_rule, read_outcome, outcome_at, Report}
use Rattle.campaign_law.specs.World.{World, seat_at, asked_of, report_of, outcome_of, scene_after, changed, queued_lines, seat_after, step, replay}
use Rattle.campaign_law.specs.Session.{standing, standing_after, is_held_by}
use Rattle.campaign_law.proofs.Seats.{grown}
use Rattle.campaign_law.proofs.Sessions.{seat_at-after, replay_more}
use Rattle.session.specs.declared.hold.Hold.{Hold}
use Rattle.session.specs.Held.{is_held, is_read}
use Rattle.session.specs.Heard.{IsBye}
use Rattle.session.specs.Spoken.{is_spent}

-- a line was counted, and did nothing else to the seat's state
pub record IsCounted (b c : Book) : Type 0 where
  pub state : c.state ≡ (counted b).state
  pub lines : c.lines ≡ b.lines + 1

-- or it closed the seat
pub record IsLined (b c : Book) : Type 0 where
  pub state : is_joined c.state ≡ true → c.state ≡ (counted b).state
  pub lines : c.lines ≡ b.lines + 1

counted_lined : (b c : Book) → IsCounted b c → IsLined b c
counted_lined b c is = record { state = λ _. is.state; lines = is.lines }

closed_never : (state : SeatState) → is_joined (closed state) ≡ true → ⊥
closed_never Free is = cc
closed_never (Joined reader writer) is = cc
closed_never (Closing reader writer) is = cc

tag_counted : (b c : Book) (tag : Option (List ℕ)) → IsCounted b c → IsCounted b (using_tag tag c)
tag_counted b c None is = is
tag_counted b c (Some tag) is = record { state = is.state; lines = is.lines }

dice_counted : (b c : Book) (dice : Option (List ℕ)) → IsCounted b c → IsCounted b (rolling dice c)
dice_counted b c None is = is
dice_counted b c (Some dice) is = record { state = is.state; lines = is.lines }

text_counted : (b c : Book) (name : List ℕ) (text : Option (List ℕ)) → IsCounted b c → IsCounted b (with_text name text c)
text_counted b c name None is = record { state = is.state; lines = is.lines }
text_counted b c name (Some text) is = record { state = is.state; lines = is.lines }

setting_counted : (b c : Book) (new : Option NewText) → IsCounted b c → IsCounted b (setting_text new c)
setting_counted b c None is = is
setting_counted b c (Some new) is = text_counted b c new.name new.text is

-- the line being counted, the words of a run are drawn
drawing_counted : (b : Book) (run : Called) → IsCounted b (drawing run (counted b))
drawing_counted b NoRun = record { state = refl; lines = refl }
drawing_counted b (Stopped refusal) = record { state = refl; lines = refl }
drawing_counted b (Ran run) = record { state = refl; lines = refl }

abbrev book_after : Outcome → Book → Book
book_after o b = unwrap_or o.book b

-- what a Joined seat's line does to its book, but for a bye
by_rule : (asked : Asked) (report : Report) (seat : ℕ) (b : Book) (c : Command) (r : Option Refusal) → is_bye c ≡ false → IsCounted b (book_after (decided asked report seat b c r) b)
by_rule asked report seat b c (Some refusal) other = record { state = refl; lines = refl }
by_rule asked report seat b c None other =
    let drawn : Book = drawing (called_by asked seat b c) (counted b) in
    subst (λ t. IsCounted b (cond t (left drawn) (using_tag (tag_made c) (setting_text (new_text_in c) (rolling (dice_in c) drawn))))) (sym other)
    (tag_counted b (setting_text (new_text_in c) (rolling (dice_in c) drawn)) (tag_made c)
    (setting_counted b (rolling (dice_in c) drawn) (new_text_in c) (dice_counted b drawn (dice_in c) (drawing_counted b (called_by asked seat b c)))))

-- a bye closes it, unless it is refused
by_bye : (asked : Asked) (report : Report) (seat : ℕ) (b : Book) (c : Command) (r : Option Refusal) → is_bye c ≡ true → IsLined b (book_after (decided asked report seat b c r) b)
by_bye asked report seat b c (Some refusal) bye = record { state = λ _. refl; lines = refl }
by_bye asked report seat b c None bye =
    let drawn : Book = drawing (called_by asked seat b c) (counted b) in
    subst (λ t. IsLined b (cond t (left drawn) (using_tag (tag_made c) (setting_text (new_text_in c) (rolling (dice_in c) drawn))))) (sym bye)
    (record { state = λ is. absurd (closed_never drawn.state is); lines = (drawing_counted b (called_by asked seat b c)).lines })

-- what a Joined seat's line did: it is a bye, or counted
record Lined (seat : ℕ) (bytes : List ℕ) (b c : Book) : Type 0 where
  lined : IsLined b c
  which : IsBye seat bytes ⊎ IsCounted b c

by_reading : (asked : Asked) (report : Report) (seat : ℕ) (b : Book) (bytes : List ℕ) (r : Result Command LineFault) → command_of bytes (eqb seat 0) ≡ r → Lined seat bytes b (book_after (read_outcome asked report seat b r) b)
by_reading asked report seat b bytes (Err fault) reads = record { lined = record { state = λ _. refl; lines = refl }; which = inr (record { state = refl; lines = refl }) }
by_reading asked report seat b bytes (Ok c) reads = by_kind (is_bye c) refl
  where
    by_kind : (t : Bool) → is_bye c ≡ t → Lined seat bytes b (book_after (read_outcome asked report seat b (Ok c)) b)
    by_kind true is = record { lined = by_bye asked report seat b c (broken_rule asked seat b c) is; which = inl (record { command = c; reads = reads; bye = is }) }
    by_kind false is = let counts = by_rule asked report seat b c (broken_rule asked seat b c) is in record { lined = counted_lined b _ counts; which = inr counts }

line_counts : (asked : Asked) (report : Report) (seat : ℕ) (s : Seat) (bytes : List ℕ) → is_joined s.book.state ≡ true → Lined seat bytes s.book (book_after (outcome_at asked report (Some s) (Line seat bytes)) s.book)
line_counts asked report seat s bytes joined =
    subst (λ t. Lined seat bytes s.book (book_after (cond t (read_outcome asked report seat s.book (command_of bytes (eqb seat 0))) (outcome_at asked report None (Line seat bytes))) s.book)) (sym joined)
    (by_reading asked report seat s.book bytes (command_of bytes (eqb seat 0)) refl)

-- ---- the seat behind the line

let_go_lines : (s : Seat) (t : Bool) → (cond t (freed_seat s) s).book.lines ≡ s.book.lines
let_go_lines s true = refl
let_go_lines s false = refl

joined_state : (n : ℕ) (c : Seat) (t : Bool) → is_let_go (grown n c) ≡ t → is_joined c.book.state ≡ true → (cond t (freed_seat (grown n c)) (grown n c)).book.state ≡ c.book.state
joined_state n c false e joined = refl
joined_state n c true e joined =
    let z : true ≡ false = sym e ∙ (λ i. joined_not_free c.book.state joined i || (joined_not_closing c.book.state joined i && eqb c.taken (c.queued + n))) in cc

-- the seat was spent by the line, or stands as before
pub record Stays (before : SeatState) (after : Seat) : Type 0 where
  pub state : after.book.state ≡ before

pub by_limit : (n : ℕ) (s c : Seat) (t : Bool) → eqb (s.book.lines + 1) 16384 ≡ t → IsCounted s.book c.book → is_joined s.book.state ≡ true → (eqb (settled n c).book.lines 16384 ≡ true) ⊎ Stays s.book.state (settled n c)
by_limit n s c true last is joined = inl (ap (λ k. eqb k 16384) (let_go_lines (grown n c) (is_let_go (grown n c)) ∙ is.lines) ∙ last)
by_limit n s c false more is joined =
    let same : c.book.state ≡ s.book.state = is.state ∙ ap (λ t. cond t (closed s.book.state) s.book.state) more in
    inr (record { state = joined_state n c (is_let_go (grown n c)) refl (ap is_joined same ∙ joined) ∙ same })

-- a seat that its last line closed isn't Joined
pub spent_closed : (n : ℕ) (s c : Seat) (t : Bool) → is_let_go (grown n c) ≡ t → IsLined s.book c.book → eqb (cond t (freed_seat (grown n c)) (grown n c)).book.lines 16384 ≡ true → is_joined (cond t (freed_seat (grown n c)) (grown n c)).book.state ≡ false
spent_closed n s c true goes is spent = refl
spent_closed n s c false goes is spent = by_state (is_joined c.book.state) refl
  where
    by_state : (j : Bool) → is_joined c.book.state ≡ j → j ≡ false
    by_state false e = refl
    by_state true e =
        let last : eqb (s.book.lines + 1) 16384 ≡ true = ap (λ k. eqb k 16384) (sym is.lines) ∙ spent in
        let shut : c.book.state ≡ closed s.book.state = is.state e ∙ ap (λ t. cond t (closed s.book.state) s.book.state) last in
        absurd (closed_never s.book.state (ap is_joined (sym shut) ∙ e))

after_line : (n : ℕ) (o : Outcome) (acts : Bool) (s : Seat) → acts ≡ true → IsCounted s.book (book_after o s.book) → is_joined s.book.state ≡ true → (eqb (settled n (changed o acts s)).book.lines 16384 ≡ true) ⊎ Stays s.book.state (settled n (changed o acts s))
after_line n o true s own is joined = by_limit n s (changed o true s) (eqb (s.book.lines + 1) 16384) refl is joined
after_line n o false s own is joined = cc

and_parts : (a b : Bool) → (a && b) ≡ true → (a ≡ true) × (b ≡ true)
and_parts true b h = (refl, h)
and_parts false b h = cc

and_none : (a b : Bool) → b ≡ false → (a && b) ≡ false
and_none true b h = h
and_none false b h = refl

-- a line of a seat that is read
module _ (w : World) (h : List Entry) (hold : Hold) (bytes : List ℕ) (reads : is_read w h hold ≡ true) where
  abbrev v : World
  v = replay w h

  abbrev e : Entry
  e = Line hold.seat bytes

  last : replay w (h ++ e ∷ []) ≡ step v e
  last = replay_more w h e

  joined_before : is_joined (standing_after w h hold.seat) ≡ true
  joined_before = (and_parts (is_held w h hold) (is_joined (standing_after w h hold.seat)) reads).1

  abbrev count : Seat → ℕ
  count s = length (queued_lines hold.seat (eqb hold.seat hold.seat) (Some s) (outcome_of v e) (view_of v.scene hold.seat) (view_of (scene_after v e) hold.seat))

  abbrev after : Seat → Seat
  after s = settled (count s) (changed (outcome_of v e) (eqb hold.seat hold.seat) s)

  there : (s : Seat) → seat_at v hold.seat ≡ Some s → seat_at (step v e) hold.seat ≡ Some (after s)
  there s is = seat_at-after v e hold.seat ∙ ap (option_map (seat_after v e hold.seat)) is

  lined : (s : Seat) → seat_at v hold.seat ≡ Some s → is_joined s.book.state ≡ true → Lined hold.seat bytes s.book (book_after (outcome_of v e) s.book)
  lined s is joined = subst (λ b. Lined hold.seat bytes s.book (book_after (outcome_at (asked_of v hold.seat) (report_of v e) b e) s.book)) (sym is) (line_counts (asked_of v hold.seat) (report_of v e) hold.seat s bytes joined)

  -- one behind which the seat isn't read, but isn't spent, is a bye
  pub closed_by_bye : is_read w (h ++ e ∷ []) hold ≡ false → is_spent (seat_at (replay w (h ++ e ∷ [])) hold.seat) ≡ false → IsBye hold.seat bytes
  closed_by_bye closing unspent = by_seat (seat_at v hold.seat) refl joined_before
    where
      not_read : (is_held_by hold.reader hold.writer (standing (seat_at (step v e) hold.seat)) && is_joined (standing (seat_at (step v e) hold.seat))) ≡ false
      not_read = ap (λ x. is_held_by hold.reader hold.writer (standing (seat_at x hold.seat)) && is_joined (standing (seat_at x hold.seat))) (sym last) ∙ closing

      not_spent : is_spent (seat_at (step v e) hold.seat) ≡ false
      not_spent = ap (λ x. is_spent (seat_at x hold.seat)) (sym last) ∙ unspent

      by_seat : (before : Option Seat) → seat_at v hold.seat ≡ before → is_joined (standing before) ≡ true → IsBye hold.seat bytes
      by_seat None is joined = cc
      by_seat (Some s) is joined = elim (lined s is joined).which [
        | inl bye ↦ bye
        | inr counts ↦ elim (after_line (count s) (outcome_of v e) (eqb hold.seat hold.seat) s (eq-eqb hold.seat hold.seat refl) counts joined) [
          | inl spent ↦ (let z : true ≡ false = sym spent ∙ sym (ap is_spent (there s is)) ∙ not_spent in absurd cc)
          | inr stays ↦ (
              let state_is : standing (seat_at (step v e) hold.seat) ≡ standing (seat_at v hold.seat) = ap standing (there s is) ∙ stays.state ∙ sym (ap standing is) in
              let z : true ≡ false = sym reads ∙ sym (ap (λ state. is_held_by hold.reader hold.writer state && is_joined state) state_is) ∙ not_read in absurd cc)
        ]
      ]

  -- the seat's last line closes it
  pub spent_closes : is_spent (seat_at (replay w (h ++ e ∷ [])) hold.seat) ≡ true → is_read w (h ++ e ∷ []) hold ≡ false
  spent_closes spent = and_none (is_held w (h ++ e ∷ []) hold) (is_joined (standing_after w (h ++ e ∷ []) hold.seat)) (ap (λ x. is_joined (standing (seat_at x hold.seat))) last ∙ by_seat (seat_at v hold.seat) refl joined_before)
    where
      is_last : is_spent (seat_at (step v e) hold.seat) ≡ true
      is_last = ap (λ x. is_spent (seat_at x hold.seat)) (sym last) ∙ spent

      by_acting : (acts : Bool) (s : Seat) → acts ≡ true → IsLined s.book (book_after (outcome_of v e) s.book) → eqb (settled (count s) (changed (outcome_of v e) acts s)).book.lines 16384 ≡ true → is_joined (settled (count s) (changed (outcome_of v e) acts s)).book.state ≡ false
      by_acting true s own is lines = spent_closed (count s) s (changed (outcome_of v e) true s) (is_let_go (grown (count s) (changed (outcome_of v e) true s))) refl is lines
      by_acting false s own is lines = cc

      by_seat : (before : Option Seat) → seat_at v hold.seat ≡ before → is_joined (standing before) ≡ true → is_joined (standing (seat_at (step v e) hold.seat)) ≡ false
      by_seat None is joined = cc
      by_seat (Some s) is joined =
          ap (λ b. is_joined (standing b)) (there s is)
          ∙ by_acting (eqb hold.seat hold.seat) s (eq-eqb hold.seat hold.seat refl) (lined s is joined).lined (sym (ap is_spent (there s is)) ∙ is_last)
