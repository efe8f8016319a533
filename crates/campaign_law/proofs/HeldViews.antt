-- Along a history a client holds what its seat is shown.
use Rattle.std.proofs.Common.{◌≡◌, ℕ, ◌≤◌, Bool, true, false, ◌&&◌, eqb, List, [], ◌∷◌, ◌++◌, Some, None, refl, sym, ◌∙◌, ap, subst}
use Rattle.std.specs.Prelude.{Option, IfSome}
use Rattle.std.proofs.lemmas.Option.{slice_get_within}
use Rattle.std.proofs.lemmas.Bool.{eqb-true}
use Rattle.seats.specs.SeatState.{is_joined}
use Rattle.view_change.specs.Change.{difference, apply_change}
use Rattle.view_change.proofs.ChangeLemmas.{gives_after}
use Rattle.views.specs.declared.view.View.{View}
use Rattle.world.specs.Scene.{Scene}
use Rattle.player_view.specs.Tables.{HasTables}
use Rattle.player_view.specs.View.{view_of}
use Rattle.player_view.proofs.FollowLemmas.{views_follow}
use Rattle.player_view.proofs.ViewIs.{view_is}
use Rattle.campaign_law.specs.declared.entry.Entry.{Entry}
use Rattle.campaign_law.specs.Seat.{Seat, IsFreshSeat, was_joined}
use Rattle.campaign_law.specs.Outcome.{seat_of}
use Rattle.campaign_law.specs.World.{World, seat_at, asked_of, steps_of, report_of, outcome_of, made_by, scene_after, is_present, step, replay}
use Rattle.campaign_law.specs.Law.{IsOpening}
use Rattle.campaign_law.specs.Worlds.{FitsTogether}
use Rattle.campaign_law.specs.Client.{told_of, held_after, held_from, ClientHoldsView}
use Rattle.campaign_law.proofs.Clients.{present_if_joined, held_step}
use Rattle.campaign_law.proofs.Feeding.{after_follows, players_stay}
use Rattle.campaign_law.proofs.ScenesOfWorlds.{seat_plays, tables_after}
use Rattle.campaign_law.proofs.Simulation.{absent_any, fresh_at}
use Rattle.campaign_law.proofs.Worlds.{fits_after}

-- ---- one entry

-- a seat that is present is there
present_plays : (w : World) (e : Entry) (seat : ℕ) → FitsTogether w → is_present (eqb (seat_of e) seat) (seat_at w seat) (outcome_of w e) ≡ true → seat ≤ w.scene.fog.players
present_plays w e seat fits present = by (seat_at w seat) refl present
  where
    absent : (acts : Bool) → eqb (seat_of e) seat ≡ acts → seat_at w seat ≡ None → (acts && (outcome_of w e).joins) ≡ true → seat ≤ w.scene.fog.players
    absent false other none joins = absurd cc
    absent true own none joins =
        let there : seat_at w (seat_of e) ≡ None = subst (λ p. seat_at w p ≡ None) (sym (eqb-true (seat_of e) seat own)) none in
        let z : true ≡ false = sym joins ∙ (absent_any (asked_of w (seat_of e)) (report_of w e) (seat_at w (seat_of e)) e there).0 in absurd cc

    by : (before : Option Seat) → seat_at w seat ≡ before → is_present (eqb (seat_of e) seat) before (outcome_of w e) ≡ true → seat ≤ w.scene.fog.players
    by None none joins = absent (eqb (seat_of e) seat) refl none joins
    by (Some s) there p = seat_plays w seat fits (slice_get_within w.seats seat s there)

-- the change between the views before and after gives the view after
change_gives : (w : World) (e : Entry) (seat : ℕ) → FitsTogether w → HasTables w.scene → seat ≤ w.scene.fog.players
    → apply_change (view_of w.scene seat) (difference (view_of w.scene seat) (view_of (scene_after w e) seat)) ≡ view_of (scene_after w e) seat
change_gives w e seat fits tables plays =
    let after = tables_after w e fits tables in
    gives_after (view_of w.scene seat) (view_of (scene_after w e) seat) (view_is w.scene seat tables plays) (view_is (scene_after w e) seat after (subst (λ n. seat ≤ n) (sym (players_stay w e)) plays))
    (views_follow w.scene (scene_after w e) tables after (after_follows w e) seat)

-- ---- along a history

-- where the client holds what the seat is shown while it is Joined
holds_present : (w : World) (e : Entry) (seat : ℕ) (held : Option View) → FitsTogether w → HasTables w.scene → (was_joined (seat_at w seat) ≡ true → held ≡ Some (view_of w.scene seat)) → is_present (eqb (seat_of e) seat) (seat_at w seat) (outcome_of w e) ≡ true
    → held_after held (told_of w e seat) ≡ Some (view_of (scene_after w e) seat)
holds_present w e seat held fits tables holds present = held_step w e seat held holds (change_gives w e seat fits tables (present_plays w e seat fits present)) present

holds_from : (held : Option View) (w : World) (h : List Entry) (e : Entry) (seat : ℕ) → (was_joined (seat_at w seat) ≡ true → held ≡ Some (view_of w.scene seat)) → FitsTogether w → HasTables w.scene
    → is_present (eqb (seat_of e) seat) (seat_at (replay w h) seat) (outcome_of (replay w h) e) ≡ true → held_from held w (h ++ e ∷ []) seat ≡ Some (view_of (replay w (h ++ e ∷ [])).scene seat)
holds_from held w [] e seat holds fits tables present = holds_present w e seat held fits tables holds present
holds_from held w (x ∷ h) e seat holds fits tables present =
    holds_from (held_after held (told_of w x seat)) (step w x) h e seat
    (λ joined. holds_present w x seat held fits tables holds (present_if_joined w x seat joined))
    (fits_after w x fits) (tables_after w x fits tables) present

-- nobody is Joined at first
none_joined : (w : World) (seat : ℕ) → IsOpening w → was_joined (seat_at w seat) ≡ true → ⊥
none_joined w seat opening joined = by (seat_at w seat) (fresh_at w.seats seat opening.seats) joined
  where
    by : (before : Option Seat) → IfSome before IsFreshSeat → was_joined before ≡ true → ⊥
    by None fresh joined = cc
    by (Some s) fresh joined = let z : true ≡ false = sym joined ∙ ap is_joined fresh.book.state in cc

pub holds_view : ClientHoldsView
holds_view w h e seat opening fits tables present = holds_from None w h e seat (λ joined. absurd (none_joined w seat opening joined)) fits tables present
