-- The items of an entry, from what is known of it.
use Rattle.std.proofs.Common.{◌≡◌, ℕ, ◌<◌, Bool, true, false, cond, ◌&&◌, ◌||◌, eqb, List, [], ◌∷◌, ◌++◌, map, length, Some, None, refl, sym, ◌∙◌, ap, subst}
use Rattle.std.specs.Prelude.{Option, is_none}
use Rattle.std.proofs.lemmas.Bool.{eqb-true}
use Rattle.std.proofs.lemmas.Option.{slice_get_within}
use Rattle.views.specs.declared.view.View.{View}
use Rattle.player_view.specs.View.{view_of}
use Rattle.campaign_law.specs.declared.entry.Entry.{Entry}
use Rattle.campaign_law.specs.declared.entry.Entry.TheVariants.{Join, Line, Leave, Taken, Cut}
use Rattle.campaign_law.specs.Seat.{Seat, was_joined}
use Rattle.campaign_law.specs.Outcome.{Outcome, blank_entry, seat_of}
use Rattle.campaign_law.specs.World.{World, seat_at, asked_of, report_of, outcome_of, steps_of, scene_after, is_present, messages_to, step}
use Rattle.campaign_law.specs.Player.{Item, own, message, view_items, entry_items, items_of}
use Rattle.campaign_law.proofs.Simulation.{absent_any}
use Rattle.campaign_law.proofs.Clients.{present_if_joined}
use Rattle.campaign_core.specs.Said.{said_by}
use Rattle.transcript_check.specs.Entering.{is_join, asks_full, own_of, own_items, others_items, IsShown}
use Rattle.transcript_check.proofs.Accepted.{joins_is, full_is}

-- who joins is due the full line
join_asks : (e : Entry) → is_join e ≡ true → asks_full e ≡ true
join_asks (Join seat key reader writer) h = refl
join_asks (Line seat bytes) h = cc
join_asks (Leave seat drop) h = cc
join_asks (Taken seat count) h = cc
join_asks (Cut seat) h = cc

-- what a seat was last shown counts only where it was Joined
same_shown : (joined joins asks accepted : Bool) (last v v' : View) → (joins ≡ true → asks ≡ true) → (joined ≡ true → last ≡ v)
    → cond (joined || (joins && accepted)) (view_items (asks && accepted) last v') [] ≡ cond (joined || (joins && accepted)) (view_items (asks && accepted) v v') []
same_shown true joins asks accepted last v v' due shown = ap (λ u. view_items (asks && accepted) u v') (shown refl)
same_shown false false asks accepted last v v' due shown = refl
same_shown false true asks false last v v' due shown = refl
same_shown false true true true last v v' due shown = refl
same_shown false true false true last v v' due shown = let z : false ≡ true = due refl in cc

-- ---- the seat's own entry

-- it is present: it was Joined, or joins
pub own_present : (w : World) (e : Entry) (seat : ℕ) → eqb (seat_of e) seat ≡ true → is_present (eqb (seat_of e) seat) (seat_at w seat) (outcome_of w e) ≡ (was_joined (seat_at w seat) || (is_join e && is_none (outcome_of w e).refusal))
own_present w e seat own_ =
    ap (λ acts. was_joined (seat_at w seat) || (acts && (outcome_of w e).joins)) own_
    ∙ ap (λ j. was_joined (seat_at w seat) || j) (joins_is (asked_of w (seat_of e)) (report_of w e) (seat_at w (seat_of e)) e)

pub own_entry_items : (w : World) (e : Entry) (seat : ℕ) (last : View) → eqb (seat_of e) seat ≡ true → IsShown w seat last
    → own_items (own_of e) (was_joined (seat_at w seat)) (is_none (outcome_of w e).refusal) (steps_of w e) last (view_of (scene_after w e) seat) ≡ items_of w e seat
own_entry_items w e seat last own_ shown =
    let o : Outcome = outcome_of w e in
    let j : Bool = was_joined (seat_at w seat) in
    let a : Bool = is_none o.refusal in
    let v : View = view_of w.scene seat in
    let v' : View = view_of (scene_after w e) seat in
    let head : Item = own (blank_entry e) (steps_of w e) in
    ap (λ items. head ∷ items) (same_shown j (is_join e) (asks_full e) a last v v' (join_asks e) shown)
    ∙ ap (λ f. head ∷ cond (j || (is_join e && a)) (view_items f v v') []) (sym (full_is (asked_of w (seat_of e)) (report_of w e) (seat_at w (seat_of e)) e))
    ∙ ap (λ x. head ∷ cond (j || x) (view_items o.full v v') []) (sym (joins_is (asked_of w (seat_of e)) (report_of w e) (seat_at w (seat_of e)) e))
    ∙ ap (λ acts. entry_items seat acts (seat_at w seat) e (steps_of w e) o v v') (sym own_)

-- a seat that is present is there
there_by : (w : World) (e : Entry) (seat : ℕ) (before : Option Seat) → eqb (seat_of e) seat ≡ true → seat_at w seat ≡ before → (was_joined before || (is_join e && is_none (outcome_of w e).refusal)) ≡ true → seat < length w.seats
there_by w e seat (Some s) own_ is present = slice_get_within w.seats seat s is
there_by w e seat None own_ is present =
    let absent : seat_at w (seat_of e) ≡ None = subst (λ p. seat_at w p ≡ None) (sym (eqb-true (seat_of e) seat own_)) is in
    let z : true ≡ false = sym present ∙ sym (joins_is (asked_of w (seat_of e)) (report_of w e) (seat_at w (seat_of e)) e) ∙ (absent_any (asked_of w (seat_of e)) (report_of w e) (seat_at w (seat_of e)) e absent).0 in absurd cc

pub own_there : (w : World) (e : Entry) (seat : ℕ) → eqb (seat_of e) seat ≡ true → (was_joined (seat_at w seat) || (is_join e && is_none (outcome_of w e).refusal)) ≡ true → seat < length w.seats
own_there w e seat own_ present = there_by w e seat (seat_at w seat) own_ refl present

pub own_shown : (w : World) (e : Entry) (seat : ℕ) (last : View) → eqb (seat_of e) seat ≡ true → ((was_joined (seat_at w seat) || (is_join e && is_none (outcome_of w e).refusal)) ≡ true → last ≡ view_of (scene_after w e) seat) → IsShown (step w e) seat last
own_shown w e seat last own_ shown joined = shown (sym (own_present w e seat own_) ∙ present_if_joined w e seat joined)

-- ---- another's

or_false : (b : Bool) → (b || false) ≡ b
or_false true = refl
or_false false = refl

others_by : (seat : ℕ) (before : Option Seat) (e : Entry) (steps : ℕ) (o : Outcome) (said : List (List ℕ)) (last v v' : View) (joined : Bool) → was_joined before ≡ joined → said ≡ cond (was_joined before || false) (messages_to seat o) [] → (joined ≡ true → last ≡ v)
    → others_items joined said last v' ≡ cond (joined || false) (map message (messages_to seat o) ++ view_items false v v') []
others_by seat before e steps o said last v v' true is says shown =
    ap (λ u. map message said ++ view_items false u v') (shown refl)
    ∙ ap (λ ls. map message ls ++ view_items false v v') (says ∙ ap (λ j. cond (j || false) (messages_to seat o) []) is)
others_by seat before e steps o said last v v' false is says shown = refl

pub others_entry_items : (w : World) (e : Entry) (seat : ℕ) (last : View) → eqb (seat_of e) seat ≡ false → IsShown w seat last → others_items (was_joined (seat_at w seat)) (said_by w e seat) last (view_of (scene_after w e) seat) ≡ items_of w e seat
others_entry_items w e seat last other shown =
    let o : Outcome = outcome_of w e in
    let v : View = view_of w.scene seat in
    let v' : View = view_of (scene_after w e) seat in
    others_by seat (seat_at w seat) e (steps_of w e) o (said_by w e seat) last v v' (was_joined (seat_at w seat)) refl (ap (λ acts. cond (is_present acts (seat_at w seat) o) (messages_to seat o) []) other) shown
    ∙ ap (λ acts. entry_items seat acts (seat_at w seat) e (steps_of w e) o v v') (sym other)

joined_there : (w : World) (seat : ℕ) (before : Option Seat) → seat_at w seat ≡ before → was_joined before ≡ true → seat < length w.seats
joined_there w seat (Some s) is joined = slice_get_within w.seats seat s is
joined_there w seat None is joined = absurd cc

pub others_there : (w : World) (seat : ℕ) → was_joined (seat_at w seat) ≡ true → seat < length w.seats
others_there w seat joined = joined_there w seat (seat_at w seat) refl joined

pub others_shown : (w : World) (e : Entry) (seat : ℕ) (last : View) → eqb (seat_of e) seat ≡ false → (was_joined (seat_at w seat) ≡ true → last ≡ view_of (scene_after w e) seat) → IsShown (step w e) seat last
others_shown w e seat last other shown joined =
    shown (sym (or_false (was_joined (seat_at w seat))) ∙ ap (λ acts. was_joined (seat_at w seat) || (acts && (outcome_of w e).joins)) (sym other) ∙ present_if_joined w e seat joined)
