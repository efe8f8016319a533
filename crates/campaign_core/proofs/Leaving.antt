-- A Leave changes the post of its seat alone, and needs one place of those that are kept for it.
use Rattle.std.proofs.Common.{◌≡◌, ◌≢◌, ◌≤◌, ◌<◌, ℕ, zero, suc, ◌+◌, ◌-◌, ◌*◌, Bool, true, false, cond, ◌&&◌, ◌++◌, eqb, List, [], ◌∷◌, length, map, drop, set, Some, None, refl, sym, ◌∙◌, ap, subst, arith, zero-add, eqb-true}
use Rattle.std.specs.Prelude.{Option, option_map, slice_get, IfSome}
use Rattle.std.proofs.lemmas.Bool.Decides.{nat_tests}
use Rattle.std.proofs.lemmas.List.{length-drop}
use Rattle.std.proofs.lemmas.Option.{slice_get-get_or, slice_get_past, slice_get-map}
use Rattle.std.specs.List.{ItemBy, AllByRecursion}
use Rattle.seats.specs.SeatState.{is_free, closed}
use Rattle.seats.specs.declared.seat_state.SeatState.{SeatState}
use Rattle.seats.specs.declared.seat_state.SeatState.TheVariants.{Free, Joined, Closing}
use Rattle.views.specs.declared.view.View.{View}
use Rattle.player_view.specs.View.{view_of}
use Rattle.command_effects.specs.Settle.{IsSettled}
use Rattle.player_view.specs.Asked.{Asked}
use Rattle.campaign_law.specs.declared.entry.Entry.{Entry}
use Rattle.campaign_law.specs.declared.entry.Entry.TheVariants.{Leave}
use Rattle.campaign_law.specs.Seat.{Seat, IsFreshSeat, freed_seat, is_let_go, settled, taken_to}
use Rattle.campaign_law.specs.Outcome.{Outcome, Report, nothing, of_steps, outcome_at, seat_of}
use Rattle.campaign_law.specs.World.{World, seat_at, asked_of, report_of, steps_of, outcome_of, addressed, view_lines, some_to_list, is_present, queued_lines, scene_after, mapped_from}
use Rattle.campaign_law.specs.Session.{session, leaves, standing, changes_state}
use Rattle.campaign_law.specs.State.{Post, State, world_in, post_by, post_after, mail_after, state_after, state_of}
use Rattle.campaign_law.specs.Law.{IsOpening, answer_of}
use Rattle.campaign_law.specs.Worlds.{FitsTogether}
use Rattle.campaign_law.proofs.Lists.{ap₂, append_nil, mapped_from-same}
use Rattle.campaign_law.proofs.Queues.{posts_bounded}
use Rattle.campaign_law.proofs.Seats.{settled-free, settled-none}
use Rattle.campaign_law.proofs.Sessions.{kept_at, IsKept}
use Rattle.campaign_law.proofs.States.{post_found}
use Rattle.campaign_law.proofs.Settled.{scene_stays}
use Rattle.campaign_law.proofs.Views.{same_no_change}
use Rattle.campaign_core.specs.Places.{Place, posted}
use Rattle.campaign_core.proofs.Nexts.{no_steps}
use Rattle.campaign_core.specs.Sound.{IsSound, AreSound}
use Rattle.campaign_core.specs.Leaving.{mail_of, left_book, left_seat, left_post, left_posts, places_for, due_of, due, cut_due_of, cut_due}

-- ---- a post between entries

none_of : {A : Type 0} (xs : List A) → length xs ≡ 0 → xs ≡ []
none_of [] h = refl
none_of (x ∷ xs) h = cc

free_queued : (s : Seat) → settled 0 s ≡ s → is_free s.book.state ≡ true → s.queued ≡ 0
free_queued s is free = ap (λ (x : Seat). x.queued) (sym is ∙ settled-free 0 s free)

-- nothing waits for a Free seat
pub free_mail : (post : Post) → IsSound post → is_free post.seat.book.state ≡ true → post.mail ≡ []
free_mail post sound free =
    let none : post.seat.queued ≡ 0 = free_queued post.seat sound.settled free in
    let count = sound.mail in
    none_of post.mail (omega (arith, none, count))

pub own_mail : (post : Post) → IsSound post → mail_of post.seat post.mail ≡ post.mail
own_mail post sound = by_free (is_free post.seat.book.state) refl
  where
    by_free : (free : Bool) → is_free post.seat.book.state ≡ free → cond free [] post.mail ≡ post.mail
    by_free true is = sym (free_mail post sound is)
    by_free false is = refl

pub replayed_sound : (w : World) (h : List Entry) (state : State) → IsOpening w → FitsTogether w → state ≡ state_of w h → AreSound state.posts
replayed_sound w h state opening fits is p post at =
    let there = post_found w h p post state is (sym at) in
    let kept : IsKept (session w h p) post.seat = subst (λ o. IfSome o (IsKept (session w h p))) (sym there.seat_is) (kept_at w h p opening) in
    let count = kept.count in
    record {
      settled = kept.sound.settled;
      taken = kept.sound.taken;
      queued = posts_bounded w h state p post opening fits is (sym at);
      mail = ap length there.mail_is ∙ length-drop post.seat.taken (session w h p) ∙ ap (λ n. n - post.seat.taken) count;
    }

-- ---- a seat that neither acts nor gets a line

-- what it is after n lines, of which none is queued
pub rests : (seat : ℕ) (o : Outcome) (v v' : View) (post : Post) → IsSound post → queued_lines seat false (Some post.seat) o v v' ≡ [] → post_by seat false o v v' post ≡ post
rests seat o v v' post sound none =
    (λ i. record { seat = settled (length (none i)) post.seat; mail = mail_after post.seat (settled (length (none i)) post.seat) (none i) post.mail })
    ∙ (λ i. record { seat = sound.settled i; mail = mail_after post.seat (sound.settled i) [] post.mail })
    ∙ ap (λ mail. record { seat = post.seat; mail = mail }) (still ∙ own_mail post sound)
  where
    still : mail_after post.seat post.seat [] post.mail ≡ mail_of post.seat post.mail
    still = ap (λ n. cond (is_free post.seat.book.state) [] (drop n post.mail ++ [])) (let z : post.seat.taken - post.seat.taken ≡ 0 = omega arith in z) ∙ ap (λ l. cond (is_free post.seat.book.state) [] l) (append_nil post.mail)

-- ---- a Leave

abbrev leaving : Bool → Seat → Outcome
leaving drop s = record nothing { book = Some (left_book drop s.book) }

pub quiet : (seat : ℕ) (v : View) (present : Bool) (full : Bool) → full ≡ false → cond present (addressed seat [] ++ view_lines full v v) [] ≡ []
unfolding addressed
quiet seat v true true h = cc
quiet seat v true false h = ap some_to_list (same_no_change v)
quiet seat v false full h = refl

and_no : (b : Bool) → (b && false) ≡ false
and_no true = refl
and_no false = refl

no_lines : (seat : ℕ) (acts : Bool) (drop : Bool) (t : Seat) (s : Seat) (v : View) → queued_lines seat acts (Some s) (leaving drop t) v v ≡ []
no_lines seat true drop t s v = quiet seat v (is_present true (Some s) (leaving drop t)) false refl
no_lines seat false drop t s v = quiet seat v (is_present false (Some s) (leaving drop t)) false refl

same_taken : (s : Seat) → taken_to 0 s.queued s.taken ≡ s.taken
same_taken s = omega arith

pub own_leaves : (seat : ℕ) (drop : Bool) (v : View) (post : Post) → post_by seat true (leaving drop post.seat) v v post ≡ left_post drop post
own_leaves seat drop_it v post =
    (λ i. let next = settled (length (no_lines seat true drop_it post.seat post.seat v i)) (record { book = left_book drop_it post.seat.book; queued = post.seat.queued; taken = same_taken post.seat i }) in
    record { seat = next; mail = mail_after post.seat next (no_lines seat true drop_it post.seat post.seat v i) post.mail })
    ∙ (λ i. let next = settled-none (record post.seat { book = left_book drop_it post.seat.book }) i in record { seat = next; mail = mail_after post.seat next [] post.mail })
    ∙ ap (λ mail. record { seat = left_seat drop_it post.seat; mail = mail }) (waits (is_let_go left) refl)
  where
    left : Seat
    left = record post.seat { book = left_book drop_it post.seat.book }

    waits : (t : Bool) → is_let_go left ≡ t → mail_after post.seat (cond t (freed_seat left) left) [] post.mail ≡ mail_of (cond t (freed_seat left) left) post.mail
    waits true is = refl
    waits false is =
        ap (λ n. cond (is_free left.book.state) [] (drop n post.mail ++ [])) (let z : post.seat.taken - post.seat.taken ≡ 0 = omega arith in z)
        ∙ ap (λ l. cond (is_free left.book.state) [] l) (append_nil post.mail)

-- ---- all posts

eqb_same : (n : ℕ) → eqb n n ≡ true
eqb_same n = grind (arith, nat_tests)

eqb_apart : (n m : ℕ) → n ≢ m → eqb n m ≡ false
eqb_apart n m h = grind (arith, nat_tests)

abbrev pub at_place : {A : Type 0} → (A → A) → ℕ → ℕ → A → A
at_place f place p x = cond (eqb place p) (f x) x

apart : {A : Type 0} (f : A → A) (place k : ℕ) (xs : List A) → place < k → mapped_from (at_place f place) k xs ≡ xs
apart f place k [] lt = refl
apart f place k (x ∷ xs) lt = ap₂ (λ b ys. cond b (f x) x ∷ ys) (eqb_apart place k (omega arith)) (apart f place (suc k) xs (omega arith))

put_there : {A : Type 0} (f : A → A) (place k i : ℕ) (xs : List A) (x : A) → k + i ≡ place → slice_get xs i ≡ Some x → set xs i (f x) ≡ mapped_from (at_place f place) k xs
put_there f place k i [] x is at = cc
put_there f place k zero (y ∷ ys) x is at =
    let same : y ≡ x = cc in
    let here : k ≡ place = omega (arith, is) in
    (λ j. cond (sym (ap (λ n. eqb n k) (sym here) ∙ eqb_same k) j) (f (sym same j)) y ∷ sym (apart f place (suc k) ys (omega (arith, here))) j)
put_there f place k (suc i) (y ∷ ys) x is at =
    ap₂ (λ b zs. cond b (f y) y ∷ zs) (sym (eqb_apart place k (omega (arith, is)))) (put_there f place (suc k) i ys x (omega (arith, is)) at)

none_there : {A : Type 0} (f : A → A) (place k i : ℕ) (xs : List A) → k + i ≡ place → slice_get xs i ≡ None → xs ≡ mapped_from (at_place f place) k xs
none_there f place k i [] is at = refl
none_there f place k zero (y ∷ ys) is at = cc
none_there f place k (suc i) (y ∷ ys) is at =
    ap₂ (λ b zs. cond b (f y) y ∷ zs) (sym (eqb_apart place k (omega (arith, is)))) (none_there f place (suc k) i ys (omega (arith, is)) at)

pub set_there : (f : Post → Post) (seat : ℕ) (posts : List Post) (post : Post) → slice_get posts seat ≡ Some post → set posts seat (f post) ≡ mapped_from (at_place f seat) 0 posts
set_there f seat posts post at = put_there f seat 0 seat posts post (zero-add seat) at

pub set_nowhere : (f : Post → Post) (seat : ℕ) (posts : List Post) → slice_get posts seat ≡ None → posts ≡ mapped_from (at_place f seat) 0 posts
set_nowhere f seat posts at = none_there f seat 0 seat posts (zero-add seat) at

-- ---- an entry that does nothing to the scene and queues no line for other seats changes its own post alone

own_at : (w : World) (e : Entry) (f : Post → Post) (p : ℕ) (post : Post) (acts : Bool) → eqb (seat_of e) p ≡ acts → scene_after w e ≡ w.scene → seat_at w p ≡ Some post.seat → IsSound post
    → ((v : View) → queued_lines p false (Some post.seat) (outcome_of w e) v v ≡ [])
    → ((v : View) → seat_at w (seat_of e) ≡ Some post.seat → post_by p true (outcome_of w e) v v post ≡ f post)
    → post_by p acts (outcome_of w e) (view_of w.scene p) (view_of (scene_after w e) p) post ≡ cond acts (f post) post
own_at w e f p post false is same at sound none own =
    ap (λ scene. post_by p false (outcome_of w e) (view_of w.scene p) (view_of scene p) post) same
    ∙ rests p (outcome_of w e) (view_of w.scene p) (view_of w.scene p) post sound (none (view_of w.scene p))
own_at w e f p post true is same at sound none own =
    ap (λ scene. post_by p true (outcome_of w e) (view_of w.scene p) (view_of scene p) post) same
    ∙ own (view_of w.scene p) (ap (seat_at w) (eqb-true (seat_of e) p is) ∙ at)

pub own_state : (state : State) (e : Entry) (f : Post → Post) → IsSettled state.scene → AreSound state.posts → (outcome_of (world_in state) e).done ≡ None
    → ((p : ℕ) (s : Seat) (v : View) → queued_lines p false (Some s) (outcome_of (world_in state) e) v v ≡ [])
    → ((p : ℕ) (post : Post) (v : View) → seat_at (world_in state) (seat_of e) ≡ Some post.seat → post_by p true (outcome_of (world_in state) e) v v post ≡ f post)
    → record { posts = mapped_from (at_place f (seat_of e)) 0 state.posts; scene = state.scene } ≡ state_after state e
own_state state e f settled sound done none own =
    let w : World = world_in state in
    let same : scene_after w e ≡ w.scene = scene_stays w e settled done in
    sym (λ i. record {
      posts = mapped_from-same (post_after w e) (at_place f (seat_of e)) 0 state.posts
          (λ k post at. subst (λ p. post_after w e p post ≡ at_place f (seat_of e) p post) (sym (zero-add k))
          (own_at w e f k post (eqb (seat_of e) k) refl same (slice_get-map (λ x. x.seat) state.posts k ∙ ap (option_map (λ (x : Post). x.seat)) at) (sound k post at)
          (λ v. none k post.seat v) (λ v is. own k post v is))) i;
      scene = same i;
    })

-- ---- an item that is lent

pub lent : {R X : Type 0} (now : R → X) (xs : List X) (i : ℕ) (o : Option R) (x : R) → o ≡ Some x → ItemBy now xs i i o → slice_get xs i ≡ Some (now x)
lent now xs i None x is item = cc
lent now xs i (Some y) x is item =
    let same : y ≡ x = cc in
    slice_get-get_or xs i (now y) item.3.0 ∙ ap Some (sym item.1) ∙ ap (λ z. Some (now z)) same

pub lent_none : {R X : Type 0} (now : R → X) (xs : List X) (i : ℕ) (o : Option R) → o ≡ None → ItemBy now xs i i o → slice_get xs i ≡ None
lent_none now xs i None is item = slice_get_past xs i item.3
lent_none now xs i (Some y) is item = cc

-- ---- the state after a Leave

pub no_done : (asked : Asked) (report : Report) (before : Option Seat) (seat : ℕ) (drop : Bool) → (outcome_at asked report before (Leave seat drop)).done ≡ None
no_done asked report None seat drop_it = refl
no_done asked report (Some s) seat drop_it = refl

others_none : (asked : Asked) (report : Report) (before : Option Seat) (seat : ℕ) (drop : Bool) (p : ℕ) (s : Seat) (v : View) → queued_lines p false (Some s) (outcome_at asked report before (Leave seat drop)) v v ≡ []
others_none asked report None seat drop_it p s v = quiet p v (is_present false (Some s) nothing) false refl
others_none asked report (Some t) seat drop_it p s v = no_lines p false drop_it t s v

pub leave_stays : (w : World) (seat : ℕ) (drop : Bool) → IsSettled w.scene → scene_after w (Leave seat drop) ≡ w.scene
leave_stays w seat drop_it settled = scene_stays w (Leave seat drop_it) settled (no_done (asked_of w seat) (report_of w (Leave seat drop_it)) (seat_at w seat) seat drop_it)

pub leave_state : (state : State) (seat : ℕ) (drop : Bool) → IsSettled state.scene → AreSound state.posts → record { posts = left_posts seat drop state.posts; scene = state.scene } ≡ state_after state (Leave seat drop)
leave_state state seat drop_it settled sound =
    let w : World = world_in state in
    let e : Entry = Leave seat drop_it in
    own_state state e (left_post drop_it) settled sound (no_done (asked_of w seat) (report_of w e) (seat_at w seat) seat drop_it)
    (λ p s v. others_none (asked_of w seat) (report_of w e) (seat_at w seat) seat drop_it p s v)
    (λ p post v own. ap (λ b. post_by p true (outcome_at (asked_of w seat) (report_of w e) b e) v v post) own ∙ own_leaves p drop_it v post)

answer_at : (asked : Asked) (n : ℕ) (report : Report) (before : Option Seat) (seat : ℕ) (drop : Bool) → record { refusal = None; taken = n; line = None } ≡ answer_of n (outcome_at asked report before (Leave seat drop))
answer_at asked n report None seat drop_it = refl
answer_at asked n report (Some s) seat drop_it = refl

-- a Leave has no answer
pub leave_answer : (w : World) (seat : ℕ) (drop : Bool) → record { refusal = None; taken = 0; line = None } ≡ answer_of (steps_of w (Leave seat drop)) (outcome_of w (Leave seat drop))
leave_answer w seat drop_it =
    ap (λ n. record { refusal = None; taken = n; line = None }) (no_steps w (Leave seat drop_it) (outcome_at (asked_of w seat) (of_steps 0) (seat_at w seat) (Leave seat drop_it)) refl (no_done (asked_of w seat) (of_steps 0) (seat_at w seat) seat drop_it))
    ∙ answer_at (asked_of w seat) (steps_of w (Leave seat drop_it)) (report_of w (Leave seat drop_it)) (seat_at w seat) seat drop_it

-- ---- places for Leaves

pub due_most : (posts : List Post) → due posts ≤ 2 * length posts
due_most [] = omega arith
due_most (post ∷ posts) = let rest = due_most posts in let one = most post.seat.book.state in omega (arith, rest, one)
  where
    most : (state : SeatState) → due_of state ≤ 2
    most Free = omega arith
    most (Joined reader writer) = omega arith
    most (Closing reader writer) = omega arith

abbrev pub state_in : Option Post → SeatState
state_in None = Free
state_in (Some post) = post.seat.book.state

same_places : (m : SeatState → ℕ) (f : Post → Post) (place k : ℕ) (posts : List Post) → place < k → places_for m (mapped_from (at_place f place) k posts) ≡ places_for m posts
same_places m f place k posts lt = ap (places_for m) (apart f place k posts lt)

-- where a change of one seat gives so many places back
fewer_places : (m : SeatState → ℕ) (n : ℕ) (f : Post → Post) (place k i : ℕ) (posts : List Post) (post : Post) → k + i ≡ place → slice_get posts i ≡ Some post → m (f post).seat.book.state + n ≤ m post.seat.book.state
    → places_for m (mapped_from (at_place f place) k posts) + n ≤ places_for m posts
fewer_places m n f place k i [] post is at less = cc
fewer_places m n f place k zero (y ∷ ys) post is at less =
    let same : y ≡ post = cc in
    let here : k ≡ place = omega (arith, is) in
    let rest = same_places m f place (suc k) ys (omega (arith, here)) in
    let head : m (at_place f place k y).seat.book.state ≡ m (f post).seat.book.state =
    (λ j. m (cond ((ap (λ x. eqb x k) (sym here) ∙ eqb_same k) j) (f (same j)) (same j)).seat.book.state) in
    let old : m y.seat.book.state ≡ m post.seat.book.state = ap (λ (x : Post). m x.seat.book.state) same in
    omega (arith, rest, head, old, less)
fewer_places m n f place k (suc i) (y ∷ ys) post is at less =
    let rest = fewer_places m n f place (suc k) i ys post (omega (arith, is)) at less in
    let head : m (at_place f place k y).seat.book.state ≡ m y.seat.book.state = ap (λ b. m (cond b (f y) y).seat.book.state) (eqb_apart place k (omega (arith, is))) in
    omega (arith, rest, head)

-- what is left once a seat was let go, or not
less_left : (drop : Bool) (s : Seat) → leaves s.book.state drop ≡ true → due_of (left_seat drop s).book.state + 1 ≤ due_of s.book.state
less_left drop_it s moves = by_state s.book.state refl moves
  where
    let_go_less : (t : Bool) (c : Seat) (n : ℕ) → due_of c.book.state ≤ n → due_of (cond t (freed_seat c) c).book.state ≤ n
    let_go_less true c n h = omega arith
    let_go_less false c n h = h

    by_drop : (d : Bool) (state : SeatState) → s.book.state ≡ state → leaves state d ≡ true → due_of (left_book d s.book).state + 1 ≤ due_of s.book.state
    by_drop true Free is h = cc
    by_drop true (Joined reader writer) is h = let n = ap due_of is in omega (arith, n)
    by_drop true (Closing reader writer) is h = let n = ap due_of is in omega (arith, n)
    by_drop false Free is h = cc
    by_drop false (Joined reader writer) is h = let n = ap due_of is in let m = ap (λ x. due_of (closed x)) is in omega (arith, n, m)
    by_drop false (Closing reader writer) is h = cc

    by_state : (state : SeatState) → s.book.state ≡ state → leaves s.book.state drop_it ≡ true → due_of (left_seat drop_it s).book.state + 1 ≤ due_of s.book.state
    by_state state is h =
        let less = by_drop drop_it state is (sym (ap (λ x. leaves x drop_it) is) ∙ h) in
        let c : Seat = record s { book = left_book drop_it s.book } in
        let few = let_go_less (is_let_go c) c (due_of s.book.state - 1) (omega (arith, less)) in
        omega (arith, less, few)

moved_there : (state : State) (seat : ℕ) (drop : Bool) (o : Option Post) → slice_get state.posts seat ≡ o → leaves (standing (option_map (λ p. p.seat) o)) drop ≡ true → due (left_posts seat drop state.posts) + 1 ≤ due state.posts
moved_there state seat drop_it None at moves = cc
moved_there state seat drop_it (Some post) at moves = fewer_places due_of 1 (left_post drop_it) seat 0 seat state.posts post (zero-add seat) at (less_left drop_it post.seat moves)

pub due_left : (state : State) (seat : ℕ) (drop : Bool) → changes_state (world_in state) (Leave seat drop) ≡ true → due (left_posts seat drop state.posts) + 1 ≤ due state.posts
due_left state seat drop_it moves = moved_there state seat drop_it (slice_get state.posts seat) refl (sym (ap (λ o. leaves (standing o) drop_it) (slice_get-map (λ (x : Post). x.seat) state.posts seat)) ∙ moves)

-- an opening owes none
pub due_fresh : (m : SeatState → ℕ) (posts : List Post) → m Free ≡ 0 → AllByRecursion IsFreshSeat (map (λ post. post.seat) posts) → places_for m posts ≡ 0
due_fresh m [] none fresh = refl
due_fresh m (post ∷ posts) none fresh = let rest = due_fresh m posts none fresh.1 in let one : m post.seat.book.state ≡ 0 = ap m fresh.0.book.state ∙ none in omega (arith, rest, one)

-- ---- places for Cuts

pub cut_due_most : (posts : List Post) → cut_due posts ≤ length posts
cut_due_most [] = omega arith
cut_due_most (post ∷ posts) = let rest = cut_due_most posts in let one = most post.seat.book.state in omega (arith, rest, one)
  where
    most : (state : SeatState) → cut_due_of state ≤ 1
    most Free = omega arith
    most (Joined reader writer) = omega arith
    most (Closing reader writer) = omega arith

-- no seat that was left is Joined
none_to_cut : (drop : Bool) (s : Seat) → cut_due_of (left_seat drop s).book.state ≡ 0
none_to_cut drop_it s = by_let_go (is_let_go c) c (by_drop drop_it s.book.state)
  where
    c : Seat
    c = record s { book = left_book drop_it s.book }

    by_let_go : (t : Bool) (x : Seat) → cut_due_of x.book.state ≡ 0 → cut_due_of (cond t (freed_seat x) x).book.state ≡ 0
    by_let_go true x h = refl
    by_let_go false x h = h

    by_state : (state : SeatState) → cut_due_of (closed state) ≡ 0
    by_state Free = refl
    by_state (Joined reader writer) = refl
    by_state (Closing reader writer) = refl

    by_drop : (d : Bool) (state : SeatState) → cut_due_of (left_book d s.book).state ≡ 0
    by_drop true state = refl
    by_drop false state = by_state s.book.state

pub cut_there : (posts : List Post) (seat : ℕ) (drop : Bool) (n : ℕ) (o : Option Post) → slice_get posts seat ≡ o → n ≤ cut_due_of (state_in o) → cut_due (left_posts seat drop posts) + n ≤ cut_due posts
cut_there posts seat drop_it n None at few = let same = ap cut_due (set_nowhere (left_post drop_it) seat posts at) in omega (arith, same, few)
cut_there posts seat drop_it n (Some post) at few =
    let none = none_to_cut drop_it post.seat in
    fewer_places cut_due_of n (left_post drop_it) seat 0 seat posts post (zero-add seat) at (omega (arith, none, few))

-- ---- posts with room

pub map_set : (places : List Place) (i : ℕ) (y : Place) → map posted (set places i y) ≡ set (map posted places) i (posted y)
map_set [] i y = refl
map_set (p ∷ places) zero y = refl
map_set (p ∷ places) (suc i) y = ap (λ ps. posted p ∷ ps) (map_set places i y)
