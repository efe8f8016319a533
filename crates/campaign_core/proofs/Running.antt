-- A running campaign from entry to entry.
use Rattle.std.proofs.Common.{◌≡◌, ◌≤◌, ℕ, ◌++◌, Bool, true, false, cond, List, [], ◌∷◌, length, zero, suc, Some, None, refl, sym, ◌∙◌, ap, subst, arith}
use Rattle.std.specs.Prelude.{Option, option_map, slice_get, IfSome}
use Rattle.std.specs.List.{AllByRecursion}
use Rattle.std.proofs.lemmas.List.{length-map}
use Rattle.seats.specs.SeatState.{is_joined}
use Rattle.views.specs.declared.view.View.{View}
use Rattle.view_keep.specs.declared.keep.KeptView.{KeptView}
use Rattle.view_keep.specs.Kept.{Kept, put_at, view_at}
use Rattle.player_view.specs.View.{view_of}
use Rattle.command_looks.specs.Fields.{AreKept}
use Rattle.command_effects.specs.Settle.{IsSettled}
use Rattle.campaign_law.specs.declared.entry.Entry.{Entry}
use Rattle.campaign_law.specs.Seat.{Seat, IsFreshSeat, was_joined}
use Rattle.campaign_law.specs.World.{World, outcome_of, replay, step, scene_after, seat_after, seat_at}
use Rattle.campaign_law.specs.State.{Post, State, post_after, post_of, world_in, state_after, state_of}
use Rattle.campaign_law.specs.Law.{IsOpening}
use Rattle.campaign_law.proofs.Lists.{length-mapped_from, map-mapped_from, mapped_from-map}
use Rattle.campaign_law.specs.Worlds.{FitsTogether}
use Rattle.player_view.specs.Tables.{HasTables}
use Rattle.campaign_law.proofs.Worlds.{fits_always}
use Rattle.campaign_law.proofs.ScenesOfWorlds.{tables_always}
use Rattle.campaign_law.proofs.Settled.{replay_settled}
use Rattle.campaign_law.proofs.Sessions.{state_of-more, world_in-state_of}
use Rattle.campaign_law.proofs.States.{length-replay}
use Rattle.campaign_core.specs.declared.campaign.Made.{Made}
use Rattle.campaign_core.specs.declared.campaign.Staged.{Staged}
use Rattle.campaign_core.specs.CutList.{AreCuts, Ledger, cut_by}
use Rattle.campaign_core.specs.Leaving.{due, cut_due}
use Rattle.campaign_core.specs.Places.{Place, Standing, posted, law}
use Rattle.campaign_core.specs.Shown.{AreShown, kept_view}
use Rattle.campaign_core.specs.Sound.{AreSound}
use Rattle.campaign_core.specs.Running.{IsRunning, IsStaged, IsMade}
use Rattle.campaign_core.specs.Said.{last_messages}
use Rattle.campaign_core.proofs.CutLists.{cuts_more}
use Rattle.campaign_core.proofs.Leaving.{cut_due_most, due_most, replayed_sound}
use Rattle.campaign_core.proofs.Following.{put_of}
use Rattle.campaign_core.proofs.Laws.{world_law}
use Rattle.campaign_core.proofs.Saying.{last_messages_is}
use Rattle.campaign_core.proofs.ViewsDecide.{seat_found}

-- ---- an opening

free_seat : (seats : List Seat) (seat : ℕ) → AllByRecursion IsFreshSeat seats → was_joined (slice_get seats seat) ≡ false
free_seat [] seat all = refl
free_seat (s ∷ seats) zero all = ap is_joined all.0.book.state
free_seat (s ∷ seats) (suc seat) all = free_seat seats seat all.1

-- no seat is Joined
pub opening_shown : (w : World) (views : List KeptView) → IsOpening w → AreShown w views
opening_shown w views opening = record { each = λ seat joined. (let no : true ≡ false = sym joined ∙ free_seat w.seats seat opening.seats in cc) }

-- ---- what holds between entries

pub world_now : (origin : World) (h : List Entry) (ledger : Ledger) (before : Standing) (kept : Kept) (stage : Option Staged) → IsRunning origin h ledger before kept stage → world_in (law before) ≡ replay origin h
world_now origin h ledger before kept stage r = ap world_in r.now ∙ world_in-state_of origin h

pub running_settled : (origin : World) (h : List Entry) (ledger : Ledger) (before : Standing) (kept : Kept) (stage : Option Staged) → IsRunning origin h ledger before kept stage → IsSettled before.scene
running_settled origin h ledger before kept stage r = subst (λ (w : World). IsSettled w.scene) (sym (world_now origin h ledger before kept stage r)) (replay_settled origin h r.opening.scene)

pub running_sound : (origin : World) (h : List Entry) (ledger : Ledger) (before : Standing) (kept : Kept) (stage : Option Staged) → IsRunning origin h ledger before kept stage → AreSound (law before).posts
running_sound origin h ledger before kept stage r = replayed_sound origin h (law before) r.opening r.fits r.now

pub running_fits : (origin : World) (h : List Entry) (ledger : Ledger) (before : Standing) (kept : Kept) (stage : Option Staged) → IsRunning origin h ledger before kept stage → FitsTogether (world_in (law before))
running_fits origin h ledger before kept stage r = subst FitsTogether (sym (world_now origin h ledger before kept stage r)) (fits_always origin h r.fits)

pub running_tables : (origin : World) (h : List Entry) (ledger : Ledger) (before : Standing) (kept : Kept) (stage : Option Staged) → IsRunning origin h ledger before kept stage → HasTables before.scene
running_tables origin h ledger before kept stage r = subst (λ (w : World). HasTables w.scene) (sym (world_now origin h ledger before kept stage r)) (tables_always origin h r.fits r.tables)

-- the kept view of a seat that is Joined is what it is shown
pub shown_now : (origin : World) (h : List Entry) (ledger : Ledger) (before : Standing) (kept : Kept) (stage : Option Staged) → IsRunning origin h ledger before kept stage → (seat : ℕ)
    → was_joined (seat_at (replay origin h) seat) ≡ true → view_at seat kept.views ≡ Some (view_of (replay origin h).scene seat)
shown_now origin h ledger before kept stage r seat joined =
    let shown : AreShown (replay origin h) kept.views = subst (λ (w : World). AreShown w kept.views) (world_now origin h ledger before kept stage r) r.views in
    shown.each seat joined

-- the view that was put for a seat that is Joined is what it is shown
pub put_now : (origin : World) (h : List Entry) (ledger : Ledger) (before : Standing) (kept : Kept) (stage : Option Staged) → IsRunning origin h ledger before kept stage → (seat : ℕ) (s : Seat)
    → Some s ≡ seat_at (replay origin h) seat → is_joined s.book.state ≡ true → put_at seat kept.views ≡ Some (view_of (replay origin h).scene seat)
put_now origin h ledger before kept stage r seat s at joined =
    put_of seat kept.views (view_of (replay origin h).scene seat) (shown_now origin h ledger before kept stage r seat (sym (ap was_joined at) ∙ joined))

pub view_joined : (w : World) (seat : ℕ) (s : Seat) → Some s ≡ seat_at w seat → is_joined s.book.state ≡ true → Some (view_of w.scene seat) ≡ kept_view w seat
view_joined w seat s at joined = ap (λ b. cond b (Some (view_of w.scene seat)) None) (sym joined ∙ ap was_joined at)

-- what is kept of a view is what the seat is shown
pub kept_shown : (w : World) (seat : ℕ) (v : View) → Some v ≡ kept_view w seat → v ≡ view_of w.scene seat
kept_shown w seat v is = by (was_joined (seat_at w seat)) is
  where
    by : (joined : Bool) → Some v ≡ cond joined (Some (view_of w.scene seat)) None → v ≡ view_of w.scene seat
    by true h = cc
    by false h = cc

-- the seat of a post
pub seat_now : (origin : World) (h : List Entry) (ledger : Ledger) (before : Standing) (kept : Kept) (stage : Option Staged) → IsRunning origin h ledger before kept stage → (seat : ℕ) (o : Option Place)
    → o ≡ slice_get before.posts seat → option_map (λ (p : Place). p.seat) o ≡ seat_at (replay origin h) seat
seat_now origin h ledger before kept stage r seat o is = seat_found before seat o is ∙ ap (λ (w : World). seat_at w seat) (world_law before ∙ world_now origin h ledger before kept stage r)

-- there are as many seats as at the opening
pub seats_now : (origin : World) (h : List Entry) (ledger : Ledger) (before : Standing) (kept : Kept) (stage : Option Staged) → IsRunning origin h ledger before kept stage → length before.posts ≡ length origin.seats
seats_now origin h ledger before kept stage r =
    sym (length-map before.posts posted) ∙ ap (λ (s : State). length s.posts) r.now ∙ length-mapped_from (post_of origin h) 0 (replay origin h).seats ∙ length-replay origin h

-- ---- staging

-- what leaves the state as it is and takes no place leaves it running
pub restaged : (origin : World) (h : List Entry) (ledger ledger' : Ledger) (before after : Standing) (kept : Kept) (stage stage' : Option Staged) → IsRunning origin h ledger before kept stage
    → law after ≡ law before → length after.posts ≡ length before.posts → ledger'.cuts ≡ ledger.cuts → ledger'.said ≡ ledger.said → ledger.places ≤ ledger'.places → ledger.cut_places ≤ ledger'.cut_places → IfSome stage' (IsStaged ledger' after kept) → IsRunning origin h ledger' after kept stage'
restaged origin h ledger ledger' before after kept stage stage' r same count list said more more_cuts staged =
    let places = r.owed in
    let owed = ap (λ (s : State). due s.posts) same in
    let cut_places = r.owed_cuts in
    let owed_cuts = ap (λ (s : State). cut_due s.posts) same in
    record {
      now = same ∙ r.now;
      opening = r.opening;
      fits = r.fits;
      tables = r.tables;
      written = r.written;
      fields = subst (λ (s : State). AreKept s.scene kept.fields) (sym same) r.fields;
      views = subst (λ (s : State). AreShown (world_in s) kept.views) (sym same) r.views;
      count = r.count ∙ sym count;
      most = r.most;
      cuts = subst (AreCuts origin h) (sym list) r.cuts;
      said = said ∙ r.said;
      owed = omega (arith, places, owed, more);
      owed_cuts = omega (arith, cut_places, owed_cuts, more_cuts);
      staged = staged;
    }

-- ---- the commit

world_after : (s : State) (e : Entry) → world_in (state_after s e) ≡ step (world_in s) e
world_after s e =
    let w : World = world_in s in
    ap (λ seats. record { seats = seats; scene = scene_after w e })
    (map-mapped_from (post_after w e) (λ (post : Post). post.seat) 0 s.posts ∙ sym (mapped_from-map (seat_after w e) (λ (post : Post). post.seat) 0 s.posts))

-- an entry more
pub advances : (origin : World) (h h' : List Entry) (ledger ledger' : Ledger) (before after : Standing) (kept kept' : Kept) (stage : Option Staged) (e : Entry) → IsRunning origin h ledger before kept stage
    → law after ≡ state_after (law before) e → length after.posts ≡ length before.posts → AreKept after.scene kept'.fields → AreShown (step (world_in (law before)) e) kept'.views
    → length kept'.views ≡ length kept.views → due (law after).posts ≤ ledger'.places → cut_due (law after).posts ≤ ledger'.cut_places → h' ≡ h ++ e ∷ [] → ledger'.cuts ≡ ledger.cuts ++ cut_by (replay origin h) (length h) e → ledger'.said ≡ (outcome_of (replay origin h) e).messages
    → IsRunning origin h' ledger' after kept' None
advances origin h h' ledger ledger' before after kept kept' stage e r next seats fields shown same owed owed_cuts more list said = record {
  now = next ∙ ap (λ s. state_after s e) r.now ∙ state_of-more origin h e r.opening ∙ ap (state_of origin) (sym more);
  opening = r.opening;
  fits = r.fits;
  tables = r.tables;
  written = r.written;
  fields = fields;
  views = subst (λ w. AreShown w kept'.views) (sym (ap world_in next ∙ world_after (law before) e)) shown;
  count = same ∙ r.count ∙ sym seats;
  most = subst (λ n. n ≤ 33) (sym same) r.most;
  cuts = cuts_more origin h h' e ledger.cuts ledger'.cuts r.cuts more list;
  said = said ∙ sym (last_messages_is origin h e) ∙ ap (last_messages origin) (sym more);
  owed = owed;
  owed_cuts = owed_cuts;
  staged = tt;
}

-- no more is owed than two places a seat
pub owed_most : (origin : World) (h : List Entry) (ledger : Ledger) (before after : Standing) (kept : Kept) (stage : Option Staged) → IsRunning origin h ledger before kept stage → length after.posts ≡ length before.posts → due (law after).posts ≤ 66
owed_most origin h ledger before after kept stage r seats =
    let few = due_most (law after).posts in
    let posts : length (law after).posts ≡ length after.posts = length-map after.posts posted in
    let count = r.count in
    let most = r.most in
    omega (arith, few, posts, seats, count, most)

-- and one place in the list of cuts
pub owed_cuts_most : (origin : World) (h : List Entry) (ledger : Ledger) (before after : Standing) (kept : Kept) (stage : Option Staged) → IsRunning origin h ledger before kept stage → length after.posts ≡ length before.posts → cut_due (law after).posts ≤ 33
owed_cuts_most origin h ledger before after kept stage r seats =
    let few = cut_due_most (law after).posts in
    let posts : length (law after).posts ≡ length after.posts = length-map after.posts posted in
    let count = r.count in
    let most = r.most in
    omega (arith, few, posts, seats, count, most)

-- ---- what is staged

pub made_is : (ledger : Ledger) (before : Standing) (kept : Kept) (stage : Option Staged) (s : Staged) (made : Made) → Some s ≡ stage → s.made ≡ made → IfSome stage (IsStaged ledger before kept) → IsMade ledger before kept s.entry made
made_is ledger before kept stage s made is at fits = subst (IsMade ledger before kept s.entry) at (subst (λ o. IfSome o (IsStaged ledger before kept)) (sym is) fits)

pub if_is : {A : Type 0} (o : Option A) (a : A) (P : A → Type 0) → o ≡ Some a → P a → IfSome o P
if_is o a P is h = subst (λ x. IfSome x P) (sym is) h

-- ---- by the course

-- the same of the entry that is staged
pub if_staged : (stage : Option Entry) (e : Entry) (P : Entry → Type 0) → Some e ≡ stage → P e → IfSome stage P
if_staged stage e P is h = subst (λ o. IfSome o P) is h
