-- A client that reads the lines of its seat holds what the seat is shown.
use Rattle.std.proofs.Common.{◌≡◌, ℕ, Bool, true, false, cond, ◌||◌, ◌&&◌, eqb, List, [], ◌++◌, length, Some, None, refl, sym, ◌∙◌, ap, subst}
use Rattle.std.specs.Prelude.{Option, option_map, IfSome}
use Rattle.std.proofs.lemmas.Bool.{eqb-true}
use Rattle.views.specs.declared.view.View.{View}
use Rattle.views.specs.declared.change.Change.{Change}
use Rattle.views.specs.Same.{same_view}
use Rattle.view_lines.specs.Lines.{change_line as line_of}
use Rattle.view_change.specs.Change.{change_of, difference, apply_change}
use Rattle.view_change.proofs.ChangeLemmas.{none_if_same}
use Rattle.player_view.specs.View.{view_of}
use Rattle.campaign_law.specs.declared.entry.Entry.{Entry}
use Rattle.campaign_law.specs.Views.{change_line}
use Rattle.campaign_law.specs.Seat.{Seat, was_joined, settled}
use Rattle.campaign_law.specs.Outcome.{Outcome, seat_of}
use Rattle.campaign_law.specs.World.{World, seat_at, asked_of, report_of, outcome_of, scene_after, is_present, view_lines, some_to_list, queued_lines, changed, step}
use Rattle.campaign_law.specs.Client.{change, told_line, told_by, told_of, held_after, reply_of, LinesTellViews}
use Rattle.campaign_law.proofs.Outcomes.{IsFit}
use Rattle.campaign_law.proofs.Sessions.{seat_at-after}
use Rattle.campaign_law.proofs.Seats.{joined_before}
use Rattle.campaign_law.proofs.Simulation.{fits_any, absent_any}

-- ---- the lines tell it

told_change : (o : Option Change) → some_to_list (option_map line_of o) ≡ some_to_list (option_map told_line (option_map change o))
told_change None = refl
told_change (Some c) = refl

tells_change : (v v' : View) → some_to_list (change_line v v') ≡ some_to_list (option_map told_line (told_by false v v'))
unfolding change_line
tells_change v v' = told_change (change_of v v')

tells : (present due : Bool) (ms : List (List ℕ)) (v v' : View) → cond present (ms ++ view_lines due v v') [] ≡ cond present ms [] ++ some_to_list (option_map told_line (cond present (told_by due v v') None))
tells true true ms v v' = refl
tells true false ms v v' = ap (λ ls. ms ++ ls) (tells_change v v')
tells false due ms v v' = refl

pub lines_tell : LinesTellViews
lines_tell w e seat =
    ap (λ ls. reply_of w e seat ++ ls)
    (tells (is_present (eqb (seat_of e) seat) (seat_at w seat) (outcome_of w e)) (eqb (seat_of e) seat && (outcome_of w e).full) _ (view_of w.scene seat) (view_of (scene_after w e) seat))

-- ---- what it gives

given_change : (v v' : View) (c : Change) → change_of v v' ≡ Some c → c ≡ difference v v'
unfolding change_of
given_change v v' c h = by (same_view v v') h
  where
    by : (b : Bool) → cond b None (Some (difference v v')) ≡ Some c → c ≡ difference v v'
    by true h = cc
    by false h = cc

-- a client that holds the view before, where the whole view isn't due, holds the view after
pub told_gives : (v v' : View) (held : Option View) (due : Bool) → (due ≡ false → held ≡ Some v) → apply_change v (difference v v') ≡ v' → held_after held (told_by due v v') ≡ Some v'
told_gives v v' held true before applied = refl
told_gives v v' held false before applied = by (change_of v v') refl
  where
    by : (o : Option Change) → change_of v v' ≡ o → held_after held (option_map change o) ≡ Some v'
    by None none = before refl ∙ ap Some ((none_if_same v v').0 none)
    by (Some c) some = ap (option_map (λ u. apply_change u c)) (before refl) ∙ ap (λ d. Some (apply_change v d)) (given_change v v' c some) ∙ ap Some applied

-- ---- who is present

-- where the whole view isn't due the seat was Joined
shown_before : (acts : Bool) (before : Option Seat) (o : Outcome) → (acts ≡ true → o.joins ≡ true → o.full ≡ true) → is_present acts before o ≡ true → (acts && o.full) ≡ false → was_joined before ≡ true
shown_before true before o joins present due = by (was_joined before) present
  where
    by : (j : Bool) → (j || o.joins) ≡ true → j ≡ true
    by true h = refl
    by false h = let z : true ≡ false = sym (joins refl h) ∙ due in cc
shown_before false before o joins present due = by (was_joined before) present
  where
    by : (j : Bool) → (j || false) ≡ true → j ≡ true
    by true h = refl
    by false h = cc

-- who is Joined after an entry was present at it
present_before : (seat : ℕ) (acts : Bool) (before : Option Seat) (o : Outcome) (v v' : View) → (acts ≡ true → IfSome before (λ s. IsFit s o)) → was_joined (option_map (λ s. settled (length (queued_lines seat acts (Some s) o v v')) (changed o acts s)) before) ≡ true → is_present acts before o ≡ true
present_before seat acts None o v v' fit joined = cc
present_before seat true (Some s) o v v' fit joined = (fit refl).joined (joined_before (length (queued_lines seat true (Some s) o v v')) (changed o true s) joined)
present_before seat false (Some s) o v v' fit joined = ap (λ j. j || false) (joined_before (length (queued_lines seat false (Some s) o v v')) s joined)

module _ (w : World) (e : Entry) (seat : ℕ) where
  fit : eqb (seat_of e) seat ≡ true → IfSome (seat_at w seat) (λ s. IsFit s (outcome_of w e))
  fit own = subst (λ p. IfSome (seat_at w p) (λ s. IsFit s (outcome_of w e))) (eqb-true (seat_of e) seat own) (fits_any (asked_of w (seat_of e)) (report_of w e) (seat_at w (seat_of e)) e)

  -- who joins is due the whole view
  joins_full : eqb (seat_of e) seat ≡ true → (outcome_of w e).joins ≡ true → (outcome_of w e).full ≡ true
  joins_full own joins = by (seat_at w (seat_of e)) refl (fits_any (asked_of w (seat_of e)) (report_of w e) (seat_at w (seat_of e)) e)
    where
      by : (before : Option Seat) → seat_at w (seat_of e) ≡ before → IfSome before (λ s. IsFit s (outcome_of w e)) → (outcome_of w e).full ≡ true
      by None none fits = let z : true ≡ false = sym joins ∙ (absent_any (asked_of w (seat_of e)) (report_of w e) (seat_at w (seat_of e)) e none).0 in cc
      by (Some s) some fits = fits.joins joins

  pub present_if_joined : was_joined (seat_at (step w e) seat) ≡ true → is_present (eqb (seat_of e) seat) (seat_at w seat) (outcome_of w e) ≡ true
  present_if_joined joined =
      present_before seat (eqb (seat_of e) seat) (seat_at w seat) (outcome_of w e) (view_of w.scene seat) (view_of (scene_after w e) seat) fit
      (ap was_joined (sym (seat_at-after w e seat)) ∙ joined)

  -- a client that holds what the seat is shown while it is Joined, holds it after an entry at which the seat is present
  pub held_step : (held : Option View) → (was_joined (seat_at w seat) ≡ true → held ≡ Some (view_of w.scene seat)) → apply_change (view_of w.scene seat) (difference (view_of w.scene seat) (view_of (scene_after w e) seat)) ≡ view_of (scene_after w e) seat
      → is_present (eqb (seat_of e) seat) (seat_at w seat) (outcome_of w e) ≡ true → held_after held (told_of w e seat) ≡ Some (view_of (scene_after w e) seat)
  held_step held before applied present =
      ap (λ p. held_after held (cond p (told_by (eqb (seat_of e) seat && (outcome_of w e).full) (view_of w.scene seat) (view_of (scene_after w e) seat)) None)) present
      ∙ told_gives (view_of w.scene seat) (view_of (scene_after w e) seat) held (eqb (seat_of e) seat && (outcome_of w e).full)
      (λ due. before (shown_before (eqb (seat_of e) seat) (seat_at w seat) (outcome_of w e) joins_full present due)) applied
