-- How many lines are queued for a seat.
use Rattle.std.proofs.Common.{◌≡◌, ℕ, zero, suc, ◌+◌, ◌*◌, ◌≤◌, Bool, true, false, cond, ◌&&◌, eqb, List, [], ◌∷◌, length, map, Some, None, refl, sym, ◌∙◌, ap, subst, arith, zero-add, add-zero, length-append}
use Rattle.std.specs.Prelude.{Option, option_map, IfSome, slice_get, unwrap_or}
use Rattle.std.proofs.lemmas.Bool.Decides.{nat_tests}
use Rattle.std.proofs.lemmas.Bool.{eqb-true}
use Rattle.seats.specs.Book.{Book, line_limit}
use Rattle.seats.specs.SeatState.{is_joined}
use Rattle.views.specs.declared.view.View.{View}
use Rattle.world.specs.Scene.{Scene}
use Rattle.player_view.specs.View.{view_of}
use Rattle.command_effects.specs.Settle.{IsSettled}
use Rattle.campaign_law.specs.declared.entry.Entry.{Entry}
use Rattle.campaign_law.specs.Views.{change_line}
use Rattle.campaign_law.specs.Seat.{Seat, IsFreshSeat, let_go, is_let_go, freed_seat}
use Rattle.campaign_law.specs.Outcome.{Outcome, outcome_at, seat_of}
use Rattle.campaign_law.specs.World.{World, seat_at, asked_of, report_of, outcome_of, scene_after, messages_to, view_lines, some_to_list, lines_if_present, other_lines, queued_reply, queued_lines, is_present, changed, seat_after, mapped_from, step, replay}
use Rattle.campaign_law.specs.State.{Post, State, state_of}
use Rattle.campaign_law.specs.Law.{IsOpening}
use Rattle.campaign_law.specs.Worlds.{FitsTogether}
use Rattle.campaign_law.specs.SessionLaws.{EntryQueuesFew, QueuedIsBounded, lines_per_entry, session_limit}
use Rattle.campaign_law.proofs.Messages.{SendsFew, outcome_few}
use Rattle.campaign_law.proofs.Counts.{InLimit, KeepsLines, IsQuiet, Counts, counts, still, limit_kept, outcome_counts, absent_quiet}
use Rattle.campaign_law.proofs.Refused.{queued_quiet}
use Rattle.campaign_law.proofs.Settled.{scene_stays, after_settled}
use Rattle.campaign_law.proofs.Sessions.{seat_at-after}
use Rattle.campaign_law.proofs.Simulation.{fresh_at}
use Rattle.campaign_law.proofs.States.{length-replay, post_found}

-- ---- one entry

change_few : (line : Option (List ℕ)) → length (some_to_list line) ≤ 1
change_few None = omega arith
change_few (Some line) = omega arith

view_few : (full : Bool) (v v' : View) → length (view_lines full v v') ≤ 1
view_few true v v' = omega arith
view_few false v v' = change_few (change_line v v')

others_few : (seat : ℕ) (acts : Bool) (o : Outcome) (v v' : View) (present : Bool) → SendsFew o → length (lines_if_present seat acts o v v' present) ≤ 2
others_few seat acts o v v' false few = omega arith
others_few seat acts o v v' true few =
    let all = length-append (messages_to seat o) (view_lines (acts && o.full) v v') in
    let said = few.messages seat in
    let shown = view_few (acts && o.full) v v' in
    omega (arith, all, said, shown)

reply_few : (o : Outcome) (direct : Bool) → SendsFew o → length (cond direct [] o.reply) ≤ 1
reply_few o true few = omega arith
reply_few o false few = few.reply

own_few : (o : Outcome) (acts : Bool) → SendsFew o → length (cond acts (queued_reply o) []) ≤ 1
own_few o true few = reply_few o o.direct few
own_few o false few = omega arith

-- what an outcome queues that sends few lines
pub lines_few : (seat : ℕ) (acts : Bool) (before : Option Seat) (o : Outcome) (v v' : View) → SendsFew o → length (queued_lines seat acts before o v v') ≤ lines_per_entry
lines_few seat acts before o v v' few =
    let all = length-append (cond acts (queued_reply o) []) (other_lines seat acts before o v v') in
    let own = own_few o acts few in
    let others = others_few seat acts o v v' (is_present acts before o) few in
    omega (arith, all, own, others)

pub entry_queues_few : EntryQueuesFew
entry_queues_few w e seat = lines_few seat (eqb (seat_of e) seat) (seat_at w seat) (outcome_of w e) (view_of w.scene seat) (view_of (scene_after w e) seat) (outcome_few (asked_of w (seat_of e)) (report_of w e) (seat_at w (seat_of e)) e)

-- ---- counts of lines

let_go_lines : (s : Seat) → (let_go s).book.lines ≡ s.book.lines
let_go_lines s = by (is_let_go s)
  where
    by : (b : Bool) → (cond b (freed_seat s) s).book.lines ≡ s.book.lines
    by true = refl
    by false = refl

let_go_limit : (s : Seat) → InLimit s.book → InLimit (let_go s).book
let_go_limit s limit = by (is_let_go s)
  where
    by : (b : Bool) → InLimit (cond b (freed_seat s) s).book
    by true = record { most = limit.most; more = λ j. cc }
    by false = limit

-- of all seats together
abbrev pub lines_in : List Seat → ℕ
lines_in [] = 0
lines_in (s ∷ seats) = s.book.lines + lines_in seats

-- no seat counts fewer
lines_grow : (f : ℕ → Seat → Seat) (k : ℕ) (seats : List Seat) → ((i : ℕ) (s : Seat) → slice_get seats i ≡ Some s → s.book.lines ≤ (f (k + i) s).book.lines) → lines_in seats ≤ lines_in (mapped_from f k seats)
lines_grow f k [] each = omega arith
lines_grow f k (s ∷ seats) each =
    let here : s.book.lines ≤ (f k s).book.lines = subst (λ n. s.book.lines ≤ (f n s).book.lines) (add-zero k) (each 0 s refl) in
    let rest = lines_grow f (suc k) seats (λ i t at. let place : k + suc i ≡ suc k + i = omega arith in subst (λ n. t.book.lines ≤ (f n t).book.lines) place (each (suc i) t at)) in
    omega (arith, here, rest)

-- and one counts a line more
lines_more : (f : ℕ → Seat → Seat) (k : ℕ) (seats : List Seat) (j : ℕ) (acting : Seat) → ((i : ℕ) (s : Seat) → slice_get seats i ≡ Some s → s.book.lines ≤ (f (k + i) s).book.lines) → slice_get seats j ≡ Some acting
    → acting.book.lines + 1 ≤ (f (k + j) acting).book.lines → lines_in seats + 1 ≤ lines_in (mapped_from f k seats)
lines_more f k [] j acting each there more = cc
lines_more f k (s ∷ seats) zero acting each there more =
    let same : s ≡ acting = cc in
    let here : s.book.lines + 1 ≤ (f k s).book.lines = subst (λ n. s.book.lines + 1 ≤ (f n s).book.lines) (add-zero k) (subst (λ (t : Seat). t.book.lines + 1 ≤ (f (k + 0) t).book.lines) (sym same) more) in
    let rest = lines_grow f (suc k) seats (λ i t at. let place : k + suc i ≡ suc k + i = omega arith in subst (λ n. t.book.lines ≤ (f n t).book.lines) place (each (suc i) t at)) in
    omega (arith, here, rest)
lines_more f k (s ∷ seats) (suc j) acting each there more =
    let here : s.book.lines ≤ (f k s).book.lines = subst (λ n. s.book.lines ≤ (f n s).book.lines) (add-zero k) (each 0 s refl) in
    let next : k + suc j ≡ suc k + j = omega arith in
    let rest =
    lines_more f (suc k) seats j acting (λ i t at. let place : k + suc i ≡ suc k + i = omega arith in subst (λ n. t.book.lines ≤ (f n t).book.lines) place (each (suc i) t at)) there
    (subst (λ n. acting.book.lines + 1 ≤ (f n acting).book.lines) next more) in
    omega (arith, here, rest)

lines_limited : (seats : List Seat) → ((i : ℕ) (s : Seat) → slice_get seats i ≡ Some s → InLimit s.book) → lines_in seats ≤ line_limit * length seats
lines_limited [] each = omega arith
lines_limited (s ∷ seats) each =
    let here = (each 0 s refl).most in
    let rest = lines_limited seats (λ i t at. each (suc i) t at) in
    omega (arith, here, rest)

-- ---- a world after an entry

abbrev AreInLimit : World → Type 0
AreInLimit w = (p : ℕ) (s : Seat) → seat_at w p ≡ Some s → InLimit s.book

module _ (w : World) (e : Entry) (limits : AreInLimit w) where
  -- the entry's own seat
  own_counts : (s : Seat) → seat_at w (seat_of e) ≡ Some s → Counts s.book (outcome_of w e)
  own_counts s at = subst (λ (before : Option Seat). Counts s.book (outcome_at (asked_of w (seat_of e)) (report_of w e) before e)) (sym at) (outcome_counts (asked_of w (seat_of e)) (report_of w e) s e (limits (seat_of e) s at))

  changed_lines : (b : Book) (o : Outcome) → Counts b o → InLimit b → (b.lines ≤ (unwrap_or o.book b).lines) × InLimit (unwrap_or o.book b)
  changed_lines b o (counts next is more limit) old =
      let same : unwrap_or o.book b ≡ next = ap (λ x. unwrap_or x b) is in
      ((let lines = ap (λ (c : Book). c.lines) same in omega (arith, lines, more)), subst InLimit (sym same) limit)
  changed_lines b o (still quiet kept) old = by o.book kept
    where
      by : (x : Option Book) → IfSome x (KeepsLines b) → (b.lines ≤ (unwrap_or x b).lines) × InLimit (unwrap_or x b)
      by None kept = (omega arith, old)
      by (Some c) kept = ((let same = kept.lines in omega (arith, same)), limit_kept b c old kept)

  -- before its lines are queued
  turned : (p : ℕ) (s : Seat) → seat_at w p ≡ Some s → let c = changed (outcome_of w e) (eqb (seat_of e) p) s in (s.book.lines ≤ c.book.lines) × InLimit c.book
  turned p s at = by (eqb (seat_of e) p) refl
    where
      by : (acts : Bool) → eqb (seat_of e) p ≡ acts → let c = changed (outcome_of w e) acts s in (s.book.lines ≤ c.book.lines) × InLimit c.book
      by false other = (omega arith, limits p s at)
      by true own = changed_lines s.book (outcome_of w e) (own_counts s (ap (seat_at w) (eqb-true (seat_of e) p own) ∙ at)) (limits p s at)

  abbrev queued_by : ℕ → Seat → ℕ
  queued_by p s = length (queued_lines p (eqb (seat_of e) p) (Some s) (outcome_of w e) (view_of w.scene p) (view_of (scene_after w e) p))

  abbrev grown_by : ℕ → Seat → Seat
  grown_by p s = let c : Seat = changed (outcome_of w e) (eqb (seat_of e) p) s in record c { queued = c.queued + queued_by p s }

  after_more : (p : ℕ) (s : Seat) → seat_at w p ≡ Some s → s.book.lines ≤ (seat_after w e p s).book.lines
  after_more p s at = let same = let_go_lines (grown_by p s) in let more = (turned p s at).0 in omega (arith, same, more)

  pub limits_after : AreInLimit (step w e)
  limits_after p s at = by (seat_at w p) refl (sym (seat_at-after w e p) ∙ at)
    where
      by : (before : Option Seat) → seat_at w p ≡ before → option_map (seat_after w e p) before ≡ Some s → InLimit s.book
      by None was is = cc
      by (Some t) was is =
          let same : seat_after w e p t ≡ s = cc in
          subst (λ (x : Seat). InLimit x.book) same (let_go_limit (grown_by p t) (turned p t was).1)

  -- ---- what is queued, and what is counted

  all_more : lines_in w.seats ≤ lines_in (step w e).seats
  all_more = lines_grow (seat_after w e) 0 w.seats (λ i s at. subst (λ n. s.book.lines ≤ (seat_after w e n s).book.lines) (sym (zero-add i)) (after_more i s at))

  one_more : (s : Seat) → seat_at w (seat_of e) ≡ Some s → s.book.lines + 1 ≤ (unwrap_or (outcome_of w e).book s.book).lines → lines_in w.seats + 1 ≤ lines_in (step w e).seats
  one_more s at more =
      lines_more (seat_after w e) 0 w.seats (seat_of e) s (λ i t there. subst (λ n. t.book.lines ≤ (seat_after w e n t).book.lines) (sym (zero-add i)) (after_more i t there)) at
      (subst (λ n. s.book.lines + 1 ≤ (seat_after w e n s).book.lines) (sym (zero-add (seat_of e))) here)
    where
      acts : eqb (seat_of e) (seat_of e) ≡ true
      acts = grind (arith, nat_tests)

      own : (changed (outcome_of w e) (eqb (seat_of e) (seat_of e)) s).book.lines ≡ (unwrap_or (outcome_of w e).book s.book).lines
      own = ap (λ b. (changed (outcome_of w e) b s).book.lines) acts

      here : s.book.lines + 1 ≤ (seat_after w e (seat_of e) s).book.lines
      here = let same = let_go_lines (grown_by (seat_of e) s) in omega (arith, same, own, more)

  -- an entry that says nothing queues nothing
  quiet_queues : (p : ℕ) (s : Seat) → IsSettled w.scene → IsQuiet (outcome_of w e) → queued_by p s ≡ 0
  quiet_queues p s steady quiet =
      ap (λ (scene : Scene). length (queued_lines p (eqb (seat_of e) p) (Some s) (outcome_of w e) (view_of w.scene p) (view_of scene p))) (scene_stays w e steady quiet.done)
      ∙ ap length (queued_quiet p (eqb (seat_of e) p) s (outcome_of w e) w.scene quiet.messages quiet.full)
      ∙ by (eqb (seat_of e) p)
    where
      by : (acts : Bool) → length (cond acts (queued_reply (outcome_of w e)) []) ≡ 0
      by true = ap length quiet.reply
      by false = refl

  -- each line that is counted queues three lines for a seat at most
  queues_by_count : (p : ℕ) (s : Seat) → IsSettled w.scene → queued_by p s + 3 * lines_in w.seats ≤ 3 * lines_in (step w e).seats
  queues_by_count p s steady = by (seat_at w (seat_of e)) refl
    where
      by_quiet : IsQuiet (outcome_of w e) → queued_by p s + 3 * lines_in w.seats ≤ 3 * lines_in (step w e).seats
      by_quiet quiet = let none = quiet_queues p s steady quiet in let more = all_more in omega (arith, none, more)

      by_count : (t : Seat) → seat_at w (seat_of e) ≡ Some t → Counts t.book (outcome_of w e) → queued_by p s + 3 * lines_in w.seats ≤ 3 * lines_in (step w e).seats
      by_count t at (still quiet kept) = by_quiet quiet
      by_count t at (counts next is more limit) =
          let lines : (unwrap_or (outcome_of w e).book t.book).lines ≡ t.book.lines + 1 = ap (λ x. (unwrap_or x t.book).lines) is ∙ more in
          let one = one_more t at (omega (arith, lines)) in
          let few = lines_few p (eqb (seat_of e) p) (Some s) (outcome_of w e) (view_of w.scene p) (view_of (scene_after w e) p) (outcome_few (asked_of w (seat_of e)) (report_of w e) (seat_at w (seat_of e)) e) in
          omega (arith, one, few)

      by : (before : Option Seat) → seat_at w (seat_of e) ≡ before → queued_by p s + 3 * lines_in w.seats ≤ 3 * lines_in (step w e).seats
      by None at = by_quiet (subst (λ (b : Option Seat). IsQuiet (outcome_at (asked_of w (seat_of e)) (report_of w e) b e)) (sym at) (absent_quiet (asked_of w (seat_of e)) (report_of w e) e))
      by (Some t) at = by_count t at (own_counts t at)

  pub queued_after : (p : ℕ) → IsSettled w.scene → IfSome (seat_at w p) (λ s. s.queued ≤ 3 * lines_in w.seats) → IfSome (seat_at (step w e) p) (λ s. s.queued ≤ 3 * lines_in (step w e).seats)
  queued_after p steady h = subst (λ (after : Option Seat). IfSome after (λ s. s.queued ≤ 3 * lines_in (step w e).seats)) (sym (seat_at-after w e p)) (by (seat_at w p) h)
    where
      same_queued : (acts : Bool) (s : Seat) → (changed (outcome_of w e) acts s).queued ≡ s.queued
      same_queued true s = refl
      same_queued false s = refl

      let_go_queued : (s : Seat) → (let_go s).queued ≤ s.queued
      let_go_queued s = by_going (is_let_go s)
        where
          by_going : (b : Bool) → (cond b (freed_seat s) s).queued ≤ s.queued
          by_going true = omega arith
          by_going false = omega arith

      by : (before : Option Seat) → IfSome before (λ s. s.queued ≤ 3 * lines_in w.seats) → IfSome (option_map (seat_after w e p) before) (λ s. s.queued ≤ 3 * lines_in (step w e).seats)
      by None h = tt
      by (Some s) h =
          let same = same_queued (eqb (seat_of e) p) s in
          let fewer = let_go_queued (grown_by p s) in
          let count = queues_by_count p s steady in
          omega (arith, h, same, fewer, count)

-- ---- along a history

abbrev IsWithin : World → ℕ → Type 0
IsWithin w p = IfSome (seat_at w p) (λ s. s.queued ≤ 3 * lines_in w.seats)

limits_always : (w : World) (h : List Entry) → AreInLimit w → AreInLimit (replay w h)
limits_always w [] limits = limits
limits_always w (e ∷ h) limits = limits_always (step w e) h (limits_after w e limits)

within_always : (w : World) (h : List Entry) (p : ℕ) → AreInLimit w → IsSettled w.scene → IsWithin w p → IsWithin (replay w h) p
within_always w [] p limits steady is = is
within_always w (e ∷ h) p limits steady is = within_always (step w e) h p (limits_after w e limits) (after_settled w e) (queued_after w e limits p steady is)

-- ---- a world that opens

fresh_limit : (s : Seat) → IsFreshSeat s → InLimit s.book
fresh_limit s fresh = let none = fresh.book.lines in record { most = omega (arith, none); more = λ j. (let z : true ≡ false = sym j ∙ ap is_joined fresh.book.state in cc) }

opening_limits : (w : World) → IsOpening w → AreInLimit w
opening_limits w opening p s at = fresh_limit s (subst (λ (before : Option Seat). IfSome before IsFreshSeat) at (fresh_at w.seats p opening.seats))

opening_within : (w : World) (p : ℕ) → IsOpening w → IsWithin w p
opening_within w p opening = by (seat_at w p) (fresh_at w.seats p opening.seats)
  where
    by : (before : Option Seat) → IfSome before IsFreshSeat → IfSome before (λ s. s.queued ≤ 3 * lines_in w.seats)
    by None fresh = tt
    by (Some s) fresh = let none = fresh.queued in omega (arith, none)

mapped_length : (seats : List Seat) → length (map (λ (s : Seat). s.book) seats) ≡ length seats
mapped_length [] = refl
mapped_length (s ∷ seats) = ap suc (mapped_length seats)

pub queued_is_bounded : QueuedIsBounded
queued_is_bounded w h p s opening fits at =
    let within : s.queued ≤ 3 * lines_in (replay w h).seats = subst (λ (before : Option Seat). IfSome before (λ t. t.queued ≤ 3 * lines_in (replay w h).seats)) at (within_always w h p (opening_limits w opening) opening.scene (opening_within w p opening)) in
    let lines = lines_limited (replay w h).seats (limits_always w h (opening_limits w opening)) in
    let same = length-replay w h in
    let count = mapped_length w.seats in
    let most = fits.most in
    omega (arith, within, lines, same, count, most)

-- of a campaign's posts
pub posts_bounded : (w : World) (h : List Entry) (state : State) (seat : ℕ) (post : Post) → IsOpening w → FitsTogether w → state ≡ state_of w h → Some post ≡ slice_get state.posts seat → post.seat.queued ≤ session_limit
posts_bounded w h state seat post opening fits is there =
    let found = post_found w h seat post state is there in
    queued_is_bounded w h seat post.seat opening fits (sym found.seat_is)
