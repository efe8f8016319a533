-- Every trace may be fed to its machine.
use Rattle.std.proofs.Common.{◌≡◌, ◌≤◌, ◌<◌, ℕ, Bool, true, false, cond, ◌&&◌, ◌||◌, eqb, List, [], ◌∷◌, ◌++◌, map, length, Some, None, refl, sym, ◌∙◌, ap, subst}
use Rattle.std.specs.Prelude.{Option, option_map, IfSome, All, is_some}
use Rattle.std.proofs.lemmas.Option.{slice_get_within}
use Rattle.std.proofs.lemmas.Bool.{eqb-true}
use Rattle.views.specs.declared.view.View.{View}
use Rattle.view_change.specs.Views.{FitsAmong}
use Rattle.view_change.proofs.FitLemmas.{follows_fits}
use Rattle.player_view.specs.Follows.{Follows as SceneFollows}
use Rattle.player_view.specs.Tables.{HasTables}
use Rattle.player_view.specs.View.{view_of}
use Rattle.player_view.specs.Asked.{asked_of_view}
use Rattle.player_view.proofs.FollowLemmas.{views_follow}
use Rattle.player_view.proofs.ViewIs.{view_is}
use Rattle.command_json.specs.declared.command.Command.{Command}
use Rattle.command_effects.specs.Effects.{scene_by}
use Rattle.command_effects.specs.Settle.{settled as settled_scene, IsSettled}
use Rattle.command_effects.specs.Way.{way_of, after_by}
use Rattle.command_effects.proofs.Following.{scenes_follow}
use Rattle.command_effects.proofs.Players.{players_kept}
use Rattle.command_effects.proofs.Ways.{way_players}
use Rattle.macro_eval.specs.declared.intent.Intent.{Intent}
use Rattle.world.specs.Scene.{Scene}
use Rattle.campaign_law.specs.declared.entry.Entry.{Entry}
use Rattle.campaign_law.specs.Views.{change_line}
use Rattle.campaign_law.specs.Seat.{Seat, blank_seat, was_joined}
use Rattle.campaign_law.specs.Outcome.{Outcome, of_steps, seat_of, blank_entry}
use Rattle.campaign_law.specs.World.{World, seat_at, asked_of, outcome_of, steps_of, report_of, made_by, scene_after, is_present, messages_to, step}
use Rattle.campaign_law.specs.Worlds.{FitsTogether}
use Rattle.campaign_law.specs.Player.{Item, own, message, view, view_items, items_if_present, entry_items, items_of, trace, Machine, own_outcome, after, opening, started}
use Rattle.campaign_law.specs.Feeding.{MayFeedAll, TracesFeed}
use Rattle.campaign_law.proofs.Allowed.{allowed}
use Rattle.campaign_law.proofs.Outcomes.{blank_outcome, outcome_at-blank, seat_of-blank, IsFit}
use Rattle.campaign_law.proofs.Runs.{after_all}
use Rattle.campaign_law.proofs.ScenesOfWorlds.{seat_plays, tables_after}
use Rattle.campaign_law.proofs.Settled.{after_settled}
use Rattle.campaign_law.proofs.Simulation.{at, FollowsWorld, step_follows, decides_alike, fits_any, absent_any, started_follows}
use Rattle.campaign_law.proofs.Worlds.{fits_always, seat_numbered}

-- ---- what is shown after an entry fits what was shown

still_follows : (steps : ℕ) (intents : List Intent) (seat : ℕ) (s : Scene) → SceneFollows s (after_by steps intents seat s None)
unfolding settled_scene scene_by way_of after_by
still_follows steps intents seat s = record { sizes = λ name size h. h; lights = λ name h. h; sights = λ name h. h }

by_done : (w : World) (e : Entry) (d : Option Command) → (outcome_of w e).done ≡ d → SceneFollows w.scene (after_by (steps_of w e) (outcome_of w e).intents (seat_of e) w.scene d)
by_done w e None is = still_follows (steps_of w e) (outcome_of w e).intents (seat_of e) w.scene
by_done w e (Some c) is = scenes_follow (steps_of w e) (outcome_of w e).intents (seat_of e) w.scene c (allowed w e (report_of w e) (outcome_of w e) c refl is)

pub after_follows : (w : World) (e : Entry) → SceneFollows w.scene (scene_after w e)
unfolding scene_after
after_follows w e = by_done w e (outcome_of w e).done refl

pub settled_keeps : (s : Scene) → (settled_scene s).fog.players ≡ s.fog.players
unfolding settled_scene
settled_keeps s = refl

pub players_stay : (w : World) (e : Entry) → (scene_after w e).fog.players ≡ w.scene.fog.players
unfolding scene_after after_by
players_stay w e =
    way_players (way_of (steps_of w e) (seat_of e) w.scene (outcome_of w e).done) (made_by w e)
    ∙ players_kept (steps_of w e) (outcome_of w e).intents (seat_of e) w.scene (outcome_of w e).done

pub views_fit : (w : World) (e : Entry) (seat : ℕ) → FitsTogether w → HasTables w.scene → seat ≤ w.scene.fog.players → All (FitsAmong (view_of w.scene seat).maps) (view_of (scene_after w e) seat).maps
views_fit w e seat fits tables within =
    let later = tables_after w e fits tables in
    follows_fits (view_of w.scene seat) (view_of (scene_after w e) seat) (view_is w.scene seat tables within)
    (view_is (scene_after w e) seat later (subst (λ n. seat ≤ n) (sym (players_stay w e)) within))
    (views_follow w.scene (scene_after w e) tables later (after_follows w e) seat)

-- ---- parts of a trace

may_append : (m : Machine) (xs ys : List Item) → MayFeedAll m xs → MayFeedAll (after_all m xs) ys → MayFeedAll m (xs ++ ys)
may_append m [] ys f g = g
may_append m (x ∷ xs) ys f g = (f.0, may_append (after m x) xs ys f.1 g)

may_messages : (m : Machine) (ls : List (List ℕ)) → MayFeedAll m (map message ls)
may_messages m [] = tt
may_messages m (l ∷ ls) = (tt, may_messages (after m (message l)) ls)

messages_last : (m : Machine) (ls : List (List ℕ)) → (after_all m (map message ls)).last ≡ m.last
messages_last m [] = refl
messages_last m (l ∷ ls) = messages_last (after m (message l)) ls

messages_due : (m : Machine) (ls : List (List ℕ)) → (after_all m (map message ls)).due ≡ m.due
messages_due m [] = refl
messages_due m (l ∷ ls) = messages_due (after m (message l)) ls

may_view : (m : Machine) (full : Bool) (v v' : View) → m.due ≡ full → (full ≡ false → m.last ≡ v) → All (FitsAmong v.maps) v'.maps → MayFeedAll m (view_items full v v')
may_view m full v v' due last fit = by (full || is_some (change_line v v'))
  where
    by : (b : Bool) → MayFeedAll m (cond b (view v' ∷ []) [])
    by true = (λ d. subst (λ (a : View). All (FitsAmong a.maps) v'.maps) (sym (last (sym due ∙ d))) fit, tt)
    by false = tt

-- what the machine is at before the items of an entry but its own one
record Stands (m : Machine) (full present : Bool) (v v' : View) : Type 0 where
  due : m.due ≡ full
  last : present ≡ true → full ≡ false → m.last ≡ v
  fit : present ≡ true → All (FitsAmong v.maps) v'.maps

may_present : (m : Machine) (seat : ℕ) (acts : Bool) (o : Outcome) (v v' : View) (present : Bool) → Stands m (acts && o.full) present v v' → MayFeedAll m (items_if_present seat acts o v v' present)
may_present m seat acts o v v' false s = tt
may_present m seat true o v v' true s = may_view m o.full v v' s.due (s.last refl) (s.fit refl)
may_present m seat false o v v' true s =
    let ls = messages_to seat o in
    may_append m (map message ls) (view_items false v v') (may_messages m ls)
    (may_view (after_all m (map message ls)) false v v' (messages_due m ls ∙ s.due) (λ f. messages_last m ls ∙ s.last refl f) (s.fit refl))

-- ---- one entry

own_seat : (before : Option Seat) (e : Entry) (p : ℕ) → seat_of e ≡ p → IfSome before (λ s. s.book.seat ≡ p) → IfSome (option_map blank_seat before) (λ s. s.book.seat ≡ seat_of (blank_entry e))
own_seat None e p is h = tt
own_seat (Some s) e p is h = h ∙ sym is ∙ sym (seat_of-blank e)

or_false : (b : Bool) → (b || false) ≡ true → b ≡ true
or_false true h = refl
or_false false h = h

-- who joins is due the full line
joined_or_full : (before : Option Seat) (o : Outcome) → IfSome before (λ s. IsFit s o) → (before ≡ None → (o.joins ≡ false) × (o.full ≡ false)) → is_present true before o ≡ true → o.full ≡ false → was_joined before ≡ true
joined_or_full before o fit absent here not = by before fit absent here
  where
    or_joins : (j k : Bool) → (k ≡ true → o.full ≡ true) → (j || k) ≡ true → j ≡ true
    or_joins true k f h = refl
    or_joins false true f h = let z : true ≡ false = sym (f refl) ∙ not in absurd cc
    or_joins false false f h = h

    by : (b : Option Seat) → IfSome b (λ s. IsFit s o) → (b ≡ None → (o.joins ≡ false) × (o.full ≡ false)) → is_present true b o ≡ true → was_joined b ≡ true
    by None f a h = let z : true ≡ false = sym h ∙ (a refl).0 in absurd cc
    by (Some s) f a h = or_joins (was_joined (Some s)) o.joins (λ j. f.joins j) h

record Meets (seats p : ℕ) (before : Option Seat) (v v' last : View) : Type 0 where
  seen : was_joined before ≡ true → last ≡ v
  numbered : IfSome before (λ s. s.book.seat ≡ p)
  fit : is_some before ≡ true → All (FitsAmong v.maps) v'.maps

rests : (seats p : ℕ) (before : Option Seat) (e : Entry) (steps : ℕ) (o : Outcome) (v v' last : View) → Meets seats p before v v' last → MayFeedAll (at seats before last) (entry_items p false before e steps o v v')
rests seats p None e steps o v v' last meets = tt
rests seats p (Some s) e steps o v v' last meets =
    may_present (at seats (Some s) last) p false o v v' (is_present false (Some s) o) (record {
      due = refl;
      last = λ here f. meets.seen (or_false (was_joined (Some s)) here);
      fit = λ here. meets.fit refl;
    })

acts : (seats : ℕ) (before : Option Seat) (e : Entry) (steps : ℕ) (o : Outcome) (v v' last : View) → IfSome before (λ s. IsFit s o) → (before ≡ None → (o.joins ≡ false) × (o.full ≡ false))
    → own_outcome (at seats before last) (blank_entry e) steps ≡ blank_outcome o → Meets seats (seat_of e) before v v' last → MayFeedAll (at seats before last) (entry_items (seat_of e) true before e steps o v v')
acts seats before e steps o v v' last fit absent agrees meets = (
  own_seat before e (seat_of e) refl meets.numbered,
  may_present (after (at seats before last) (own (blank_entry e) steps)) (seat_of e) true o v v' (is_present true before o) (record {
    due = ap (λ (x : Outcome). x.full) agrees;
    last = λ here f. meets.seen (joined_or_full before o fit absent here f);
    fit = λ here. meets.fit (there before absent here);
  }),
)
  where
    there : (b : Option Seat) → (b ≡ None → (o.joins ≡ false) × (o.full ≡ false)) → is_present true b o ≡ true → is_some b ≡ true
    there None a h = let z : true ≡ false = sym h ∙ (a refl).0 in absurd cc
    there (Some s) a h = refl

-- ---- the world

meets_world : (w : World) (e : Entry) (p : ℕ) (last : View) → FitsTogether w → HasTables w.scene → (was_joined (seat_at w p) ≡ true → last ≡ view_of w.scene p) → Meets (length w.seats) p (seat_at w p) (view_of w.scene p) (view_of (scene_after w e) p) last
meets_world w e p last fits tables seen = record {
  seen = seen;
  numbered = by (seat_at w p) refl;
  fit = λ here. views_fit w e p fits tables (seat_plays w p fits (inside (seat_at w p) refl here));
}
  where
    by : (o : Option Seat) → seat_at w p ≡ o → IfSome o (λ s. s.book.seat ≡ p)
    by None is = tt
    by (Some s) is = seat_numbered w p s fits is

    inside : (o : Option Seat) → seat_at w p ≡ o → is_some o ≡ true → p < length w.seats
    inside None is h = absurd cc
    inside (Some s) is h = slice_get_within w.seats p s is

entry_feeds : (w : World) (e : Entry) (p : ℕ) (b : Bool) (last : View) → eqb (seat_of e) p ≡ b → 1 ≤ p → (was_joined (seat_at w p) ≡ true → last ≡ view_of w.scene p) → Meets (length w.seats) p (seat_at w p) (view_of w.scene p) (view_of (scene_after w e) p) last
    → MayFeedAll (at (length w.seats) (seat_at w p) last) (entry_items p b (seat_at w p) e (steps_of w e) (outcome_of w e) (view_of w.scene p) (view_of (scene_after w e) p))
entry_feeds w e p false last is player seen meets = rests (length w.seats) p (seat_at w p) e (steps_of w e) (outcome_of w e) (view_of w.scene p) (view_of (scene_after w e) p) last meets
entry_feeds w e p true last is player seen meets =
    subst (λ q. 1 ≤ q → (was_joined (seat_at w q) ≡ true → last ≡ view_of w.scene q) → Meets (length w.seats) q (seat_at w q) (view_of w.scene q) (view_of (scene_after w e) q) last
    → MayFeedAll (at (length w.seats) (seat_at w q) last) (entry_items q true (seat_at w q) e (steps_of w e) (outcome_of w e) (view_of w.scene q) (view_of (scene_after w e) q)))
    (eqb-true (seat_of e) p is)
    (λ player seen meets. acts (length w.seats) (seat_at w (seat_of e)) e (steps_of w e) (outcome_of w e) (view_of w.scene (seat_of e)) (view_of (scene_after w e) (seat_of e)) last
    (fits_any (asked_of w (seat_of e)) (report_of w e) (seat_at w (seat_of e)) e) (absent_any (asked_of w (seat_of e)) (report_of w e) (seat_at w (seat_of e)) e)
    (outcome_at-blank (asked_of_view (length w.seats) last) (of_steps (steps_of w e)) (seat_at w (seat_of e)) e ∙ ap blank_outcome (decides_alike w e last (was_joined (seat_at w (seat_of e))) player refl seen)) meets)
    player seen meets

feeds : (w : World) (h : List Entry) (p : ℕ) (m : Machine) → IsSettled w.scene → 1 ≤ p → FitsTogether w → HasTables w.scene → FollowsWorld w p m → MayFeedAll m (trace w h p)
feeds w [] p m steady player fits tables f = tt
feeds w (e ∷ h) p m steady player fits tables f =
    let x = step_follows w e p m steady player f in
    let here = entry_feeds w e p (eqb (seat_of e) p) f.last refl player f.seen (meets_world w e p f.last fits tables f.seen) in
    may_append m (items_of w e p) (trace (step w e) h p)
    (subst (λ a. MayFeedAll a (items_of w e p)) (sym f.is) here)
    (feeds (step w e) h p (after_all m (items_of w e p)) (after_settled w e) player (fits_always w (e ∷ []) fits) (tables_after w e fits tables) x.follows)

pub traces_feed : TracesFeed
traces_feed w h p player opens fits tables = feeds w h p (started (opening w p)) opens.scene player fits tables (started_follows w p opens)
