-- A follower after one entry more.
use Rattle.std.proofs.Common.{◌≡◌, ℕ, ◌<◌, Bool, true, false, cond, ◌&&◌, ◌||◌, eqb, List, ◌++◌, length, Some, None, refl, sym, ◌∙◌, ap, subst}
use Rattle.std.specs.Prelude.{Option, is_none, is_some, not, unwrap_or}
use Rattle.player_view.specs.View.{view_of}
use Rattle.campaign_law.specs.declared.entry.Entry.{Entry}
use Rattle.campaign_law.specs.declared.answer.Answer.{Answer}
use Rattle.campaign_law.specs.Seat.{was_joined}
use Rattle.campaign_law.specs.Outcome.{seat_of}
use Rattle.campaign_law.specs.World.{World, seat_at, outcome_of, steps_of, step}
use Rattle.campaign_law.specs.Law.{Course, world_of, answer_after}
use Rattle.campaign_law.specs.Player.{Item, items_of, trace}
use Rattle.campaign_core.specs.Said.{last_said, said_by}
use Rattle.campaign_core.proofs.Saying.{last_said_is}
use Rattle.player_machine.specs.Items.{items_in}
use Rattle.transcript_check.specs.declared.entering.Own.{Own}
use Rattle.transcript_check.specs.declared.tracing.Follower.{Follower}
use Rattle.transcript_check.specs.Entering.{own_of, own_at, own_items, others_items, IsShown}
use Rattle.transcript_check.specs.Tracing.{Follows}
use Rattle.transcript_check.proofs.EntryItems.{own_entry_items, own_there, own_shown, others_entry_items, others_there, others_shown}
use Rattle.transcript_check.proofs.Histories.{Enters, world_enters, trace_enters, seats_of_world}

own_found : (seat : ℕ) (e : Entry) (own : Own) → own_at seat e ≡ Some own → (eqb (seat_of e) seat ≡ true) × (own_of e ≡ own)
own_found seat e own some = by (eqb (seat_of e) seat) some
  where
    by : (acts : Bool) → cond acts (Some (own_of e)) None ≡ Some own → (acts ≡ true) × (own_of e ≡ own)
    by true some = (refl, ap (λ o. unwrap_or o own) some)
    by false some = absurd cc

others_found : (seat : ℕ) (e : Entry) → own_at seat e ≡ None → eqb (seat_of e) seat ≡ false
others_found seat e none = by (eqb (seat_of e) seat) none
  where
    by : (acts : Bool) → cond acts (Some (own_of e)) None ≡ None → acts ≡ false
    by true none = absurd cc
    by false none = refl

-- where the items of the entry were added, and the seat has what it was last shown
followed : (old new : Course) (e : Entry) (f f' : Follower) (more : List Item) → Enters old new e → Follows old f → f'.seat ≡ f.seat → more ≡ items_of (world_of old) e f.seat → items_in f'.items.items ≡ items_in f.items.items ++ more → IsShown (step (world_of old) e) f.seat f'.last → Follows new f'
followed old new e f f' more g follows same is all shown = record {
  items = trace_enters old new e f.seat (items_in f.items.items) (items_in f'.items.items) more g follows.items is all ∙ ap (trace new.origin new.history) (sym same);
  shown = subst (λ w. IsShown w f'.seat f'.last) (sym (world_enters old new e g)) (subst (λ p. IsShown (step (world_of old) e) p f'.last) (sym same) shown);
}

-- ---- the seat's own entry

pub accepted_is : {A : Type 0} (refusal : Option A) (accepted : Bool) → is_some refusal ≡ not accepted → accepted ≡ is_none refusal
accepted_is None true h = refl
accepted_is None false h = h
accepted_is (Some r) true h = h
accepted_is (Some r) false h = refl

-- what the code has of it
pub record IsOwn (old : Course) (e : Entry) (seat : ℕ) (own : Own) (joined accepted : Bool) (answer : Answer) : Type 0 where
  pub is_own : own_at seat e ≡ Some own
  pub is_joined : joined ≡ was_joined (seat_at (world_of old) seat)
  pub is_accepted : accepted ≡ is_none answer.refusal
  pub answers : answer ≡ answer_after old e

abbrev is_present : Own → Bool → Bool → Bool
is_present own joined accepted = joined || (own.joins && accepted)

own_present_is : (old : Course) (e : Entry) (seat : ℕ) (own : Own) (joined accepted : Bool) (answer : Answer) → IsOwn old e seat own joined accepted answer
    → is_present own joined accepted ≡ is_present (own_of e) (was_joined (seat_at (world_of old) seat)) (is_none (outcome_of (world_of old) e).refusal)
own_present_is old e seat own joined accepted answer has =
    λ i. is_present (sym (own_found seat e own has.is_own).1 i) (has.is_joined i) ((has.is_accepted ∙ ap (λ (a : Answer). is_none a.refusal) has.answers) i)

pub own_is_there : (old new : Course) (e : Entry) (seat : ℕ) (own : Own) (joined accepted : Bool) (answer : Answer) → new.origin ≡ old.origin → IsOwn old e seat own joined accepted answer → is_present own joined accepted ≡ true → seat < length new.origin.seats
own_is_there old new e seat own joined accepted answer same has present =
    subst (λ n. seat < n) (seats_of_world old ∙ ap (λ (w : World). length w.seats) (sym same))
    (own_there (world_of old) e seat (own_found seat e own has.is_own).0 (sym (own_present_is old e seat own joined accepted answer has) ∙ present))

pub follows_own : (old new : Course) (e : Entry) (f f' : Follower) (own : Own) (joined accepted : Bool) (answer : Answer) → Enters old new e → Follows old f → f'.seat ≡ f.seat → IsOwn old e f.seat own joined accepted answer
    → items_in f'.items.items ≡ items_in f.items.items ++ own_items own joined accepted answer.taken f.last (view_of (world_of new).scene f.seat)
    → (is_present own joined accepted ≡ true → f'.last ≡ view_of (world_of new).scene f.seat) → Follows new f'
follows_own old new e f f' own joined accepted answer g follows same has all shown =
    let w : World = world_of old in
    let found = own_found f.seat e own has.is_own in
    let next : world_of new ≡ step w e = world_enters old new e g in
    let decided : accepted ≡ is_none (outcome_of w e).refusal = has.is_accepted ∙ ap (λ (a : Answer). is_none a.refusal) has.answers in
    let steps : answer.taken ≡ steps_of w e = ap (λ (a : Answer). a.taken) has.answers in
    let is : own_items own joined accepted answer.taken f.last (view_of (world_of new).scene f.seat) ≡ items_of w e f.seat =
    (λ i. own_items (sym found.1 i) (has.is_joined i) (decided i) (steps i) f.last (view_of (next i).scene f.seat))
    ∙ own_entry_items w e f.seat f.last found.0 follows.shown in
    followed old new e f f' _ g follows same is all
    (own_shown w e f.seat f'.last found.0 (λ present. shown (own_present_is old e f.seat own joined accepted answer has ∙ present) ∙ ap (λ (v : World). view_of v.scene f.seat) next))

-- ---- another's

pub others_are_there : (old new : Course) (seat : ℕ) (joined : Bool) → new.origin ≡ old.origin → joined ≡ was_joined (seat_at (world_of old) seat) → joined ≡ true → seat < length new.origin.seats
others_are_there old new seat joined same is here =
    subst (λ n. seat < n) (seats_of_world old ∙ ap (λ (w : World). length w.seats) (sym same)) (others_there (world_of old) seat (sym is ∙ here))

pub follows_others : (old new : Course) (e : Entry) (f f' : Follower) (joined : Bool) → Enters old new e → Follows old f → f'.seat ≡ f.seat → own_at f.seat e ≡ None → joined ≡ was_joined (seat_at (world_of old) f.seat)
    → items_in f'.items.items ≡ items_in f.items.items ++ others_items joined (last_said new.origin new.history f.seat) f.last (view_of (world_of new).scene f.seat)
    → (joined ≡ true → f'.last ≡ view_of (world_of new).scene f.seat) → Follows new f'
follows_others old new e f f' joined g follows same none is_joined all shown =
    let w : World = world_of old in
    let other : eqb (seat_of e) f.seat ≡ false = others_found f.seat e none in
    let next : world_of new ≡ step w e = world_enters old new e g in
    let said : last_said new.origin new.history f.seat ≡ said_by w e f.seat = (λ i. last_said (g.origin i) (g.history i) f.seat) ∙ last_said_is old.origin old.history e f.seat in
    let is : others_items joined (last_said new.origin new.history f.seat) f.last (view_of (world_of new).scene f.seat) ≡ items_of w e f.seat =
    (λ i. others_items (is_joined i) (said i) f.last (view_of (next i).scene f.seat))
    ∙ others_entry_items w e f.seat f.last other follows.shown in
    followed old new e f f' _ g follows same is all
    (others_shown w e f.seat f'.last other (λ here. shown (is_joined ∙ here) ∙ ap (λ (v : World). view_of v.scene f.seat) next))
