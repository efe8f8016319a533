-- The views that are kept, seat by seat.
use Rattle.std.proofs.Common.{◌≡◌, ◌<◌, ◌≤◌, ◌+◌, ◌⊎◌, inl, inr, ℕ, Bool, true, false, cond, ◌&&◌, ◌||◌, eqb, zero, suc, List, [], ◌∷◌, ◌++◌, length, drop, get_or, Some, None, refl, sym, ◌∙◌, ap, subst, arith, zero-add}
use Rattle.std.specs.Prelude.{Option, IfSome, is_some, option_map, slice_get, not}
use Rattle.std.proofs.lemmas.Option.{slice_get-map}
use Rattle.std.proofs.lemmas.Bool.Decides.{nat_tests}
use Rattle.seats.specs.SeatState.{is_joined}
use Rattle.names.specs.declared.token_id.TokenId.{TokenId}
use Rattle.cells.specs.Cells.{Cells}
use Rattle.views.specs.declared.view.View.{View}
use Rattle.view_keep.specs.declared.keep.KeptView.{KeptView}
use Rattle.view_keep.specs.Kept.{view_at}
use Rattle.command_effects.specs.Settle.{is_among, IsSettled}
use Rattle.view_marks.specs.declared.placed.Placed.{Placed}
use Rattle.view_marks.specs.Placed.{placed_in}
use Rattle.view_marks.specs.Marks.{leaves_letters, marks}
use Rattle.view_marks.proofs.Marked.{unmarked}
use Rattle.view_marks.proofs.Letters.{leaves_letters as letters_are_left}
use Rattle.world.specs.Scene.{Scene}
use Rattle.player_view.specs.View.{is_gm, view_of}
use Rattle.player_view.specs.Lettered.{SameLetters}
use Rattle.player_view.specs.Tables.{HasTables}
use Rattle.player_view.proofs.OlderLetters.{letters_stay}
use Rattle.player_view.specs.Asked.{Asked}
use Rattle.campaign_law.specs.declared.entry.Entry.{Entry}
use Rattle.campaign_law.specs.declared.entry.Entry.TheVariants.{Join, Line, Leave, Taken, Cut}
use Rattle.campaign_law.specs.Seat.{Seat, was_joined}
use Rattle.campaign_law.specs.Outcome.{Outcome, Report, outcome_at, seat_of}
use Rattle.campaign_law.specs.World.{World, asked_of, changed, is_present, mapped_from, outcome_of, queued_lines, report_of, scene_after, seat_after, seat_at, step, steps_of}
use Rattle.campaign_law.specs.Session.{changes_state}
use Rattle.campaign_law.proofs.Lists.{mapped_from_more, slice_get-mapped_from}
use Rattle.campaign_law.proofs.Sessions.{seat_at-after}
use Rattle.campaign_law.proofs.Outcomes.{IsFit, outcome_fits, absent_joins}
use Rattle.campaign_law.proofs.ScenesOfWorlds.{tables_after}
use Rattle.campaign_law.proofs.Seats.{joined_before}
use Rattle.campaign_law.specs.Worlds.{FitsTogether}
use Rattle.campaign_core.specs.declared.next.Changed.{Changed}
use Rattle.campaign_core.specs.Changed.{IsChanged, reach_of}
use Rattle.campaign_core.specs.declared.reach.Reach.TheVariants.{Onlookers}
use Rattle.campaign_core.specs.declared.reach.Reach.{Reach}
use Rattle.campaign_core.specs.Places.{Place, Standing, world_at}
use Rattle.campaign_core.proofs.Cutting.{cut_step}
use Rattle.campaign_core.proofs.Leaving.{leave_stays}
use Rattle.campaign_core.specs.Shown.{AreShown, AreStill, IsPlacing, IsShown, is_kept, placed_for, placed_if, placed_reaching, reaches, view_made_in, made_or, made_view, new_view, view_then}

-- ---- a seat that joins is due the full line

joins_seat : (asked : _) (report : Report) (before : Option Seat) (e : Entry) → (outcome_at asked report before e).joins ≡ true → (outcome_at asked report before e).full ≡ true
joins_seat asked report None e h = let no : true ≡ false = sym h ∙ absent_joins asked report e in cc
joins_seat asked report (Some s) e h = (outcome_fits asked report s e).joins h

pub joins_full : (w : World) (e : Entry) → (outcome_of w e).joins ≡ true → (outcome_of w e).full ≡ true
joins_full w e h = joins_seat (asked_of w (seat_of e)) (report_of w e) (seat_at w (seat_of e)) e h

-- ---- before the entry

pub shown_seats : (state : Standing) (views : List KeptView) → AreShown (world_at state) views → (seat : ℕ) → IsShown state.scene views seat (option_map (λ p. p.seat) (slice_get state.posts seat))
shown_seats state views shown seat joined = shown.each seat (ap was_joined (slice_get-map (λ (p : Place). p.seat) state.posts seat) ∙ joined)

-- ---- after the entry

or_false : (x : Bool) → (x || false) ≡ x
or_false true = refl
or_false false = refl

-- the view that stands for a seat that is Joined after the entry
view_stands : (stays acts : Bool) (o : Outcome) (after : Scene) (seat : ℕ) (kept : Option View) (joined : Bool)
    → (stays ≡ true → joined ≡ true → kept ≡ Some (view_of after seat)) → (joined ≡ false → (acts && o.joins) ≡ true)
    → made_or (cond joined (new_view stays after seat) (new_view (not (acts && o.joins)) after seat)) kept ≡ Some (view_of after seat)
view_stands true acts o after seat kept true stands joins = stands refl refl
view_stands false acts o after seat kept true stands joins = refl
view_stands stays acts o after seat kept false stands joins = ap (λ b. made_or (new_view (not b) after seat) kept) (joins refl)

masters : (seat : ℕ) → is_gm seat ≡ true → seat ≡ 0
masters seat h = grind (arith, nat_tests, h)

turned : (seat : ℕ) → eqb 0 seat ≡ is_gm seat
turned seat = grind (arith, nat_tests)

none_placed : (b : Bool) (placed : Option Placed) → placed ≡ None → is_some (cond b placed None) ≡ false
none_placed true placed none = ap is_some none
none_placed false placed none = refl

stays_alone : (stays placed : Bool) → placed ≡ false → (stays || placed) ≡ true → stays ≡ true
stays_alone true placed none is = refl
stays_alone false placed none is = let no : false ≡ true = sym none ∙ is in cc

-- the kept view of a seat that stays, or in which a token was placed
placed_or_kept : (placed : Option Placed) (gm full stays : Bool) (before after : Scene) (seat : ℕ) (kept : Option View) → is_gm seat ≡ gm
    → IfSome placed (λ p. IsPlacing p (view_of before 0) (view_of after 0)) → kept ≡ Some (view_of before seat) → (stays ≡ true → view_of after seat ≡ view_of before seat)
    → (stays || is_some (cond (gm && not full) placed None)) ≡ true → placed_if placed seat kept ≡ Some (view_of after seat)
placed_or_kept None gm full stays before after seat kept is placing shown still so =
    shown ∙ ap Some (sym (still (stays_alone stays _ (none_placed (gm && not full) None refl) so)))
placed_or_kept (Some p) true full stays before after seat kept is placing shown still so =
    let at_0 = masters seat is in
    let is_placing : IsPlacing p (view_of before 0) (view_of after 0) = placing in
    ap (λ b. cond b (option_map (placed_in p) kept) kept) (turned seat ∙ is)
    ∙ ap (option_map (placed_in p)) (shown ∙ ap (λ n. Some (view_of before n)) at_0)
    ∙ ap Some (sym is_placing.view)
    ∙ ap (λ n. Some (view_of after n)) (sym at_0)
placed_or_kept (Some p) false full stays before after seat kept is placing shown still so =
    ap (λ b. cond b (option_map (placed_in p) kept) kept) (turned seat ∙ is) ∙ shown ∙ ap Some (sym (still (stays_alone stays false refl so)))

-- what is told of a token that was placed in the seat's view
pub placing_for : (reach : Reach) (o : Outcome) (acts : Bool) (seat : ℕ) (before after : Scene) → AreStill reach o before after
    → IfSome (placed_for reach o seat) (λ p. ((acts && o.full) ≡ false) × IsPlacing p (view_of before seat) (view_of after seat))
placing_for reach o acts seat before after still = by (is_gm seat) o.full refl refl
  where
    no_full : (b : Bool) → (b && false) ≡ false
    no_full true = refl
    no_full false = refl

    given : is_gm seat ≡ true → o.full ≡ false → (placed : Option Placed) → IfSome placed (λ p. IsPlacing p (view_of before 0) (view_of after 0))
        → IfSome placed (λ p. ((acts && o.full) ≡ false) × IsPlacing p (view_of before seat) (view_of after seat))
    given gm full None placing = tt
    given gm full (Some p) placing = (ap (λ b. acts && b) full ∙ no_full acts, subst (λ n. IsPlacing p (view_of before n) (view_of after n)) (sym (masters seat gm)) placing)

    by : (gm full : Bool) → is_gm seat ≡ gm → o.full ≡ full
        → IfSome (cond (gm && not full) (placed_reaching reach) None) (λ p. ((acts && o.full) ≡ false) × IsPlacing p (view_of before seat) (view_of after seat))
    by false full g f = tt
    by true true g f = tt
    by true false g f = given g f (placed_reaching reach) still.placed

is_joined_then : (acts : Bool) (o : Outcome) (s : Seat) → (acts ≡ true → IsFit s o) → is_joined (changed o acts s).book.state ≡ true → is_joined s.book.state ≡ false → (acts && o.joins) ≡ true
is_joined_then true o s fit after before =
    let there : is_present true (Some s) o ≡ true = (fit refl).joined after in
    ap (λ b. b || o.joins) (sym before) ∙ there
is_joined_then false o s fit after before = let no : true ≡ false = sym after ∙ before in cc

same_seat : (a b : ℕ) → eqb a b ≡ true → a ≡ b
same_seat a b h = grind (arith, nat_tests, h)

fit_at : (w : World) (e : Entry) (seat : ℕ) (s : Seat) → seat_at w seat ≡ Some s → eqb (seat_of e) seat ≡ true → IsFit s (outcome_of w e)
fit_at w e seat s at acts =
    let here : seat_at w (seat_of e) ≡ Some s = ap (seat_at w) (same_seat (seat_of e) seat acts) ∙ at in
    subst (λ o. IsFit s (outcome_at (asked_of w (seat_of e)) (report_of w e) o e)) (sym here) (outcome_fits (asked_of w (seat_of e)) (report_of w e) s e)

-- a change doesn't reach a player who doesn't look on; or else the seat isn't marked
neither : (a b : Bool) → (not (a || b) || false) ≡ true → (a ≡ false) × (b ≡ false)
neither false false is = (refl, refl)
neither false true is = let no : false ≡ true = is in cc
neither true b is = let no : false ≡ true = is in cc

unreached : (players : ℕ) (placed : Option Placed) (seat : ℕ) (marked : Bool) → (not (reaches (Onlookers players placed) seat) || not marked) ≡ true
    → ((is_gm seat ≡ false) × (is_among players seat ≡ false)) ⊎ (marked ≡ false)
unreached players placed seat false is = inr refl
unreached players placed seat true is = inl (neither (is_gm seat) (is_among players seat) is)

still_by : (w : World) (e : Entry) (fields : List (TokenId × Cells)) (changed : Option Changed) (seat : ℕ) → IsSettled w.scene → IsChanged w e fields changed
    → is_kept (reach_of changed) (outcome_of w e) seat ≡ true → view_of (scene_after w e) seat ≡ view_of w.scene seat
unfolding scene_after
still_by w e fields None seat settled h is = ap (λ (s : Scene). view_of s seat) h
still_by w e fields (Some changed) seat settled h is = by (unreached changed.onlookers changed.placed seat (marks (outcome_of w e).done seat) is)
  where
    by : ((is_gm seat ≡ false) × (is_among changed.onlookers seat ≡ false)) ⊎ (marks (outcome_of w e).done seat ≡ false) → view_of (scene_after w e) seat ≡ view_of w.scene seat
    by (inl apart) = ap (λ (s : Scene). view_of s seat) (sym h.0) ∙ h.3 seat apart.0 apart.1
    by (inr off) = unmarked (steps_of w e) (outcome_of w e).intents (seat_of e) w.scene (outcome_of w e).done seat settled off

same_letters : (w : World) (e : Entry) → leaves_letters (outcome_of w e).done ≡ true → SameLetters w.scene.maps (scene_after w e).maps
unfolding scene_after
same_letters w e leaves = letters_are_left (steps_of w e) (outcome_of w e).intents (seat_of e) w.scene (outcome_of w e).done leaves

placed_still : (w : World) (e : Entry) (fields : List (TokenId × Cells)) (changed : Option Changed) → IsChanged w e fields changed
    → IfSome (placed_reaching (reach_of changed)) (λ p. IsPlacing p (view_of w.scene 0) (view_of (scene_after w e) 0))
placed_still w e fields None h = tt
placed_still w e fields (Some changed) h =
    subst (λ (s : Scene). IfSome changed.placed (λ p. IsPlacing p (view_of w.scene 0) (view_of s 0))) h.0 h.4

-- a scene that stays, or a command that doesn't mark the seat; letters that stay; and a token that is placed
pub stays_in_view : (w : World) (e : Entry) (fields : List (TokenId × Cells)) (changed : Option Changed) → FitsTogether w → HasTables w.scene → IsSettled w.scene → IsChanged w e fields changed
    → AreStill (reach_of changed) (outcome_of w e) w.scene (scene_after w e)
stays_in_view w e fields changed fits tables settled h = record {
  each = λ seat is. still_by w e fields changed seat settled h is;
  letters = λ leaves. letters_stay w.scene (scene_after w e) tables (tables_after w e fits tables) (same_letters w e leaves);
  placed = placed_still w e fields changed h;
}

one_stands : (w : World) (e : Entry) (kept : List KeptView) (made : List (Option View)) (reach : Reach) (seat : ℕ) (o : Option Seat) → seat_at w seat ≡ o
    → AreShown w kept → AreStill reach (outcome_of w e) w.scene (scene_after w e)
    → slice_get made seat ≡ option_map (λ s. made_view reach (eqb (seat_of e) seat) (outcome_of w e) (scene_after w e) seat s) o
    → was_joined (option_map (seat_after w e seat) o) ≡ true
    → view_then (placed_reaching reach) made kept seat ≡ Some (view_of (scene_after w e) seat)
one_stands w e kept made reach seat None at shown stays is joined = cc
one_stands w e kept made reach seat (Some s) at shown stays is joined =
    let out = outcome_of w e in
    let acts = eqb (seat_of e) seat in
    ap (λ m. made_or (view_made_in m) (placed_if (placed_reaching reach) seat (view_at seat kept))) is
    ∙ view_stands (is_kept reach out seat || is_some (placed_for reach out seat)) acts out (scene_after w e) seat (placed_if (placed_reaching reach) seat (view_at seat kept)) (is_joined s.book.state)
    (λ so j. placed_or_kept (placed_reaching reach) (is_gm seat) out.full (is_kept reach out seat) w.scene (scene_after w e) seat (view_at seat kept) refl stays.placed
    (shown.each seat (ap was_joined at ∙ j)) (stays.each seat) so)
    (λ j. is_joined_then acts out s (λ yes. fit_at w e seat s at yes)
    (joined_before (length (queued_lines seat acts (Some s) out (view_of w.scene seat) (view_of (scene_after w e) seat))) (changed out acts s) joined) j)

pub views_stand : (w : World) (e : Entry) (kept : List KeptView) (made : List (Option View)) (reach : Reach) → AreShown w kept → AreStill reach (outcome_of w e) w.scene (scene_after w e)
    → made ≡ mapped_from (λ seat s. made_view reach (eqb (seat_of e) seat) (outcome_of w e) (scene_after w e) seat s) 0 w.seats
    → (seat : ℕ) → was_joined (seat_at (step w e) seat) ≡ true → view_then (placed_reaching reach) made kept seat ≡ Some (view_of (scene_after w e) seat)
views_stand w e kept made reach shown stays is seat joined =
    let f : ℕ → Seat → Option View = λ n s. made_view reach (eqb (seat_of e) n) (outcome_of w e) (scene_after w e) n s in
    one_stands w e kept made reach seat (seat_at w seat) refl shown stays
    (ap (λ xs. slice_get xs seat) is ∙ slice_get-mapped_from f 0 w.seats seat ∙ ap (λ n. option_map (f n) (slice_get w.seats seat)) (zero-add seat))
    (ap was_joined (sym (seat_at-after w e seat)) ∙ joined)

-- ---- an entry by which no seat joins, and which leaves the scene as it is

and_false : (acts joins : Bool) → joins ≡ false → (acts && joins) ≡ false
and_false true joins h = h
and_false false joins h = refl

-- who is Joined after it was so before it
joined_was : (w : World) (e : Entry) (p : ℕ) (o : Option Seat) → (outcome_of w e).joins ≡ false → seat_at w p ≡ o → was_joined (option_map (seat_after w e p) o) ≡ true → was_joined o ≡ true
joined_was w e p None none at joined = cc
joined_was w e p (Some s) none at joined = by (is_joined s.book.state) refl
  where
    by : (b : Bool) → is_joined s.book.state ≡ b → is_joined s.book.state ≡ true
    by true is = is
    by false is =
        let out = outcome_of w e in
        let acts = eqb (seat_of e) p in
        let some = is_joined_then acts out s (λ yes. fit_at w e p s at yes) (joined_before (length (queued_lines p acts (Some s) out (view_of w.scene p) (view_of (scene_after w e) p))) (changed out acts s) joined) is in
        let no : true ≡ false = sym some ∙ and_false acts out.joins none in
        cc

-- the kept views stay what is shown
pub stays_shown : (w : World) (e : Entry) (views : List KeptView) → (outcome_of w e).joins ≡ false → scene_after w e ≡ w.scene → AreShown w views → AreShown (step w e) views
stays_shown w e views none same shown = record {
  each = λ p joined. shown.each p (joined_was w e p (seat_at w p) none refl (ap was_joined (sym (seat_at-after w e p)) ∙ joined))
      ∙ ap (λ (s : Scene). Some (view_of s p)) (sym same);
}

-- ---- a Leave

leave_joins : (asked : Asked) (report : Report) (before : Option Seat) (seat : ℕ) (drop : Bool) → (outcome_at asked report before (Leave seat drop)).joins ≡ false
leave_joins asked report None seat drop_it = refl
leave_joins asked report (Some s) seat drop_it = refl

leave_shown : (w : World) (seat : ℕ) (drop : Bool) (views : List KeptView) → IsSettled w.scene → AreShown w views → AreShown (step w (Leave seat drop)) views
leave_shown w seat drop_it views settled shown =
    stays_shown w (Leave seat drop_it) views (leave_joins (asked_of w seat) (report_of w (Leave seat drop_it)) (seat_at w seat) seat drop_it) (leave_stays w seat drop_it settled) shown

-- a Leave that changes its seat's state, and a Cut of a Joined seat, leave the kept views as they are
pub left_shown : (w : World) (e : Entry) (views : List KeptView) → changes_state w e ≡ true → IsSettled w.scene → AreShown w views → AreShown (step w e) views
left_shown w (Join seat key reader writer) views moves settled shown = cc
left_shown w (Line seat bytes) views moves settled shown = cc
left_shown w (Taken seat count) views moves settled shown = cc
left_shown w (Leave seat drop_it) views moves settled shown = leave_shown w seat drop_it views settled shown
left_shown w (Cut seat) views moves settled shown = subst (λ (after : World). AreShown after views) (sym (cut_step w seat moves)) (leave_shown w seat true views settled shown)

-- ---- views that are put one after another

zero_suc : (n : ℕ) → eqb 0 (suc n) ≡ false
zero_suc n = grind (arith, nat_tests)

suc_zero : (n : ℕ) → eqb (suc n) 0 ≡ false
suc_zero n = grind (arith, nat_tests)

suc_suc : (a b : ℕ) → eqb (suc a) (suc b) ≡ eqb a b
suc_suc a b = grind (arith, nat_tests)

made_more : (made : List (Option View)) (x : Option View) (seat : ℕ) → view_made_in (slice_get (made ++ x ∷ []) seat) ≡ cond (eqb (length made) seat) x (view_made_in (slice_get made seat))
made_more [] x zero = refl
made_more [] x (suc seat) = sym (ap (λ b. cond b x None) (zero_suc seat))
made_more (m ∷ made) x zero = sym (ap (λ b. cond b x m) (suc_zero (length made)))
made_more (m ∷ made) x (suc seat) = made_more made x seat ∙ ap (λ b. cond b x (view_made_in (slice_get made seat))) (sym (suc_suc (length made) seat))

none_past : (made : List (Option View)) (seat : ℕ) → eqb (length made) seat ≡ true → view_made_in (slice_get made seat) ≡ None
none_past [] seat h = refl
none_past (m ∷ made) zero h = let no : true ≡ false = sym h ∙ suc_zero (length made) in cc
none_past (m ∷ made) (suc seat) h = none_past made seat (sym (suc_suc (length made) seat) ∙ h)

pub then_more : (made : List (Option View)) (kept : List KeptView) (x : Option View) (seat : ℕ)
    → view_then None (made ++ x ∷ []) kept seat ≡ cond (eqb (length made) seat) (made_or x (view_then None made kept seat)) (view_then None made kept seat)
then_more made kept x seat = ap (λ m. made_or m (view_at seat kept)) (made_more made x seat) ∙ by (eqb (length made) seat) refl
  where
    by : (b : Bool) → eqb (length made) seat ≡ b → made_or (cond b x (view_made_in (slice_get made seat))) (view_at seat kept) ≡ cond b (made_or x (view_then None made kept seat)) (view_then None made kept seat)
    by true e = ap (λ m. made_or x (made_or m (view_at seat kept))) (sym (none_past made seat e))
    by false e = refl

-- a token is placed in the view of seat 0
pub placed_there : (master : ℕ) (p : Placed) (old now : List KeptView) → master ≡ 0
    → ((other : ℕ) → view_at other now ≡ cond (eqb master other) (option_map (placed_in p) (view_at other old)) (view_at other old))
    → (seat : ℕ) → view_at seat now ≡ placed_if (Some p) seat (view_at seat old)
placed_there master p old now is put seat = put seat ∙ ap (λ n. cond (eqb n seat) (option_map (placed_in p) (view_at seat old)) (view_at seat old)) is

-- and then the views that were made
pub views_after : (placed : Option Placed) (made : List (Option View)) (old between now : List KeptView) → ((seat : ℕ) → view_at seat between ≡ placed_if placed seat (view_at seat old))
    → ((seat : ℕ) → view_at seat now ≡ view_then None made between seat) → (seat : ℕ) → view_at seat now ≡ view_then placed made old seat
views_after placed made old between now first then seat = then seat ∙ ap (made_or (view_made_in (slice_get made seat))) (first seat)

pub one_more : {A : Type 0} (xs : List A) (x : A) (n : ℕ) → n ≡ length xs → n + 1 ≡ length (xs ++ x ∷ [])
one_more [] x n h = omega (arith, h)
one_more (y ∷ xs) x n h =
    let rest : length xs + 1 ≡ length (xs ++ x ∷ []) = one_more xs x (length xs) refl in
    omega (arith, h, rest)

-- ---- seats that are made one after another

pushed : {B : Type 0} (ys : List B) (y : B) (zs : List B) → (ys ++ y ∷ []) ++ zs ≡ ys ++ y ∷ zs
pushed [] y zs = refl
pushed (x ∷ ys) y zs = ap (λ rest. x ∷ rest) (pushed ys y zs)

-- what is made and what is left make the whole
pub mapped_on : {A B : Type 0} (f : ℕ → A → B) (k i : ℕ) (xs : List A) (x : A) (ys zs whole : List B) (y : B) → i < length xs → get_or xs i x ≡ x → zs ≡ ys ++ y ∷ [] → y ≡ f k x
    → ys ++ mapped_from f k (drop i xs) ≡ whole → zs ++ mapped_from f (k + 1) (drop (i + 1) xs) ≡ whole
mapped_on f k i xs x ys zs whole y lt is more made so_far =
    let n : k + 1 ≡ suc k = omega arith in
    let m : i + 1 ≡ suc i = omega arith in
    (λ j. more j ++ mapped_from f (n j) (drop (m j) xs))
    ∙ pushed ys y (mapped_from f (suc k) (drop (suc i) xs))
    ∙ ap (λ z. ys ++ z ∷ mapped_from f (suc k) (drop (suc i) xs)) made
    ∙ ap (λ rest. ys ++ rest) (sym (mapped_from_more f k xs i x lt is))
    ∙ so_far

pub no_more : (a b : ℕ) → a ≡ b → a ≤ b
no_more a b h = omega (arith, h)
