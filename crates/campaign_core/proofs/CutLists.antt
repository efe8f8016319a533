-- The list of cuts, entry by entry.
use Rattle.std.proofs.Common.{◌≡◌, ◌≤◌, ℕ, ◌++◌, Bool, true, false, ◌&&◌, ◌||◌, eqb, leb, List, [], ◌∷◌, length, take, refl, sym, ◌∙◌, ap, arith, eqb-true}
use Rattle.std.proofs.lemmas.List.Folds.{list_any-append}
use Rattle.std.proofs.lemmas.Bool.{leb-true, leb-false}
use Rattle.std.proofs.lemmas.List.{length-append}
use Rattle.std.proofs.Math.ListN.{drop_of_length-le}
use Rattle.seats.specs.SeatState.{is_joined}
use Rattle.seats.specs.declared.seat_state.SeatState.{SeatState}
use Rattle.seats.specs.declared.seat_state.SeatState.TheVariants.{Free, Joined, Closing}
use Rattle.campaign_law.specs.declared.entry.Entry.{Entry}
use Rattle.campaign_law.specs.declared.entry.Entry.TheVariants.{Join, Line, Leave, Taken, Cut}
use Rattle.campaign_law.specs.World.{World, seat_at, replay}
use Rattle.campaign_law.specs.Session.{standing, standing_after, changes_state}
use Rattle.campaign_law.specs.Cuts.{is_joined_by, cuts, is_cut_by, is_cut_since}
use Rattle.campaign_law.proofs.CutSessions.{cut_more}
use Rattle.campaign_core.specs.declared.cuts.SeatCut.{SeatCut}
use Rattle.campaign_core.specs.CutList.{is_since, any_since, AreCuts, cut_of, cut_by}

or_none : (b : Bool) → (b || false) ≡ b
or_none true = refl
or_none false = refl

and_none : (b : Bool) → (b && false) ≡ false
and_none true = refl
and_none false = refl

-- ---- one entry

-- what a Cut of a seat that stands so adds to the list
one_cut : (place at seat reader writer cut : ℕ) (state : SeatState) → any_since place seat reader writer (cut_of at cut state) ≡ (leb place at && (eqb cut seat && is_joined_by reader writer state))
one_cut place at seat reader writer cut Free = sym (ap (λ b. leb place at && b) (and_none (eqb cut seat)) ∙ and_none (leb place at))
one_cut place at seat reader writer cut (Joined r w) = or_none _
one_cut place at seat reader writer cut (Closing r w) = sym (ap (λ b. leb place at && b) (and_none (eqb cut seat)) ∙ and_none (leb place at))

own_state : (w : World) (cut seat reader writer : ℕ) (same : Bool) → eqb cut seat ≡ same → (same && is_joined_by reader writer (standing (seat_at w cut))) ≡ (same && is_joined_by reader writer (standing (seat_at w seat)))
own_state w cut seat reader writer true is = ap (λ n. is_joined_by reader writer (standing (seat_at w n))) (eqb-true cut seat is)
own_state w cut seat reader writer false is = refl

-- the list tells of an entry what the history does
by_entry : (w : World) (place at seat reader writer : ℕ) (e : Entry) → any_since place seat reader writer (cut_by w at e) ≡ (leb place at && cuts seat reader writer (standing (seat_at w seat)) e)
by_entry w place at seat reader writer (Join s key r v) = sym (and_none (leb place at))
by_entry w place at seat reader writer (Line s bytes) = sym (and_none (leb place at))
by_entry w place at seat reader writer (Leave s drop_it) = sym (and_none (leb place at))
by_entry w place at seat reader writer (Taken s count) = sym (and_none (leb place at))
by_entry w place at seat reader writer (Cut s) =
    one_cut place at seat reader writer s (standing (seat_at w s)) ∙ ap (λ b. leb place at && b) (own_state w s seat reader writer (eqb s seat) refl)

-- ---- a history with an entry more

past : (w : World) (h : List Entry) (place seat reader writer : ℕ) → length h ≤ place → is_cut_since w h place seat reader writer ≡ false
past w h place seat reader writer behind = ap (λ es. is_cut_by (replay w (take place h)) es seat reader writer) (drop_of_length-le h behind)

since_more : (w : World) (h : List Entry) (e : Entry) (place seat reader writer : ℕ) (within : Bool) → leb place (length h) ≡ within
    → (is_cut_since w h place seat reader writer || (within && cuts seat reader writer (standing_after w h seat) e)) ≡ is_cut_since w (h ++ e ∷ []) place seat reader writer
since_more w h e place seat reader writer true is = sym (cut_more w h e place seat reader writer (leb-true place (length h) is))
since_more w h e place seat reader writer false is =
    let lt = leb-false place (length h) is in
    let long = length-append h (e ∷ []) in
    or_none (is_cut_since w h place seat reader writer) ∙ past w h place seat reader writer (omega (arith, lt)) ∙ sym (past w (h ++ e ∷ []) place seat reader writer (omega (arith, lt, long)))

pub cuts_more : (w : World) (h h' : List Entry) (e : Entry) (before after : List SeatCut) → AreCuts w h before → h' ≡ h ++ e ∷ [] → after ≡ before ++ cut_by (replay w h) (length h) e → AreCuts w h' after
cuts_more w h h' e before after are more is = record {
  since = λ place seat reader writer. ap (any_since place seat reader writer) is
      ∙ list_any-append (is_since place seat reader writer) before (cut_by (replay w h) (length h) e)
      ∙ (λ i. are.since place seat reader writer i || by_entry (replay w h) place (length h) seat reader writer e i)
      ∙ since_more w h e place seat reader writer (leb place (length h)) refl
      ∙ ap (λ l. is_cut_since w l place seat reader writer) (sym more);
}

pub none_yet : (w : World) (h : List Entry) (cuts : List SeatCut) → h ≡ [] → cuts ≡ [] → AreCuts w h cuts
none_yet w h cuts no_entry no_cut = record {
  since = λ place seat reader writer. ap (any_since place seat reader writer) no_cut
      ∙ sym (ap (λ l. is_cut_since w l place seat reader writer) no_entry ∙ past w [] place seat reader writer (omega arith));
}

-- an entry that leaves its seat's state as it is cuts none
pub none_cut : (w : World) (place : ℕ) (e : Entry) → changes_state w e ≡ false → cut_by w place e ≡ []
none_cut w place (Join seat key reader writer) still = refl
none_cut w place (Line seat bytes) still = refl
none_cut w place (Leave seat drop_it) still = refl
none_cut w place (Taken seat count) still = refl
none_cut w place (Cut seat) still = by_state (standing (seat_at w seat)) still
  where
    by_state : (state : SeatState) → is_joined state ≡ false → cut_of place seat state ≡ []
    by_state Free h = refl
    by_state (Joined reader writer) h = cc
    by_state (Closing reader writer) h = refl
