-- The state that a running campaign keeps.
use Rattle.std.proofs.Common.{◌≡◌, ℕ, zero, suc, ◌<◌, eqb, List, [], ◌∷◌, length, map, drop, Some, None, refl, sym, ◌∙◌, ap, arith, zero-add}
use Rattle.std.specs.Prelude.{Option, option_map, slice_get}
use Rattle.seats.specs.Book.{Book}
use Rattle.campaign_law.specs.declared.entry.Entry.{Entry}
use Rattle.world.specs.Scene.{Scene}
use Rattle.player_view.specs.View.{view_of}
use Rattle.command_effects.specs.Settle.{settled}
use Rattle.campaign_law.specs.Seat.{Seat, fresh_seat}
use Rattle.campaign_law.specs.Outcome.{Outcome, seat_of}
use Rattle.campaign_law.specs.World.{World, seat_at, outcome_of, scene_after, seat_after, mapped_from, step, replay}
use Rattle.campaign_law.specs.Session.{session}
use Rattle.campaign_law.specs.State.{Post, State, opening_post, opening_state, world_in, post_by, state_after, post_of, state_of}
use Rattle.campaign_law.proofs.Lists.{length-mapped_from, slice_get-mapped_from}

-- the posts and the scene after an entry are the state after it
pub stated : (state : State) (e : Entry) (o : Outcome) (scene : Scene) (posts : List Post) → o ≡ outcome_of (world_in state) e → scene ≡ scene_after (world_in state) e → posts ≡ mapped_from (λ seat post. post_by seat (eqb (seat_of e) seat) o (view_of state.scene seat) (view_of scene seat) post) 0 state.posts → record { posts = posts; scene = scene } ≡ state_after state e
stated state e o scene posts h k is = λ i. record {
  posts = (is ∙ (λ j. mapped_from (λ seat post. post_by seat (eqb (seat_of e) seat) (h j) (view_of state.scene seat) (view_of (k j) seat) post) 0 state.posts)) i;
  scene = k i;
}

pub length-replay : (w : World) (h : List Entry) → length (replay w h).seats ≡ length w.seats
length-replay w [] = refl
length-replay w (e ∷ h) = length-replay (step w e) h ∙ length-mapped_from (seat_after w e) 0 w.seats

-- the post of a seat is the seat and what waits of its session
pub slice_get-state_of : (w : World) (h : List Entry) (seat : ℕ) → slice_get (state_of w h).posts seat ≡ option_map (post_of w h seat) (seat_at (replay w h) seat)
slice_get-state_of w h seat = slice_get-mapped_from (post_of w h) 0 (replay w h).seats seat ∙ ap (λ n. option_map (post_of w h n) (seat_at (replay w h) seat)) (zero-add seat)

pub record IsPostOf (w : World) (h : List Entry) (seat : ℕ) (post : Post) : Type 0 where
  pub seat_is : Some post.seat ≡ seat_at (replay w h) seat
  pub mail_is : post.mail ≡ drop post.seat.taken (session w h seat)

found : (w : World) (h : List Entry) (seat : ℕ) (post : Post) (o : Option Seat) → seat_at (replay w h) seat ≡ o → Some post ≡ option_map (post_of w h seat) o → IsPostOf w h seat post
found w h seat post None is e = cc
found w h seat post (Some s) is e =
    let same : post ≡ post_of w h seat s = cc in
    record { seat_is = ap (λ p. Some p.seat) same ∙ sym is; mail_is = ap (λ p. p.mail) same ∙ ap (λ p. drop p.seat.taken (session w h seat)) (sym same) }

pub post_found : (w : World) (h : List Entry) (seat : ℕ) (post : Post) (state : State) → state ≡ state_of w h → Some post ≡ slice_get state.posts seat → IsPostOf w h seat post
post_found w h seat post state s e = found w h seat post (seat_at (replay w h) seat) refl (e ∙ ap (λ t. slice_get t.posts seat) s ∙ slice_get-state_of w h seat)

inside : (xs : List Seat) (i : ℕ) → i < length xs → None ≡ slice_get xs i → ⊥
inside [] i lt e = omega arith
inside (x ∷ xs) zero lt e = cc
inside (x ∷ xs) (suc i) lt e = inside xs i (omega arith) e

none_is : {A B : Type 0} (f : A → B) (o : Option A) → None ≡ option_map f o → None ≡ o
none_is f None e = refl
none_is f (Some a) e = cc

pub post_there : (w : World) (h : List Entry) (seat : ℕ) (state : State) → state ≡ state_of w h → seat < length w.seats → None ≡ slice_get state.posts seat → ⊥
post_there w h seat state s lt e =
    let n : length (replay w h).seats ≡ length w.seats = length-replay w h in
    inside (replay w h).seats seat (omega (arith, n)) (none_is (post_of w h seat) (seat_at (replay w h) seat) (e ∙ ap (λ t. slice_get t.posts seat) s ∙ slice_get-state_of w h seat))

-- ---- a campaign that opens

opening_posts : (books : List Book) (k : ℕ) (w : World) → mapped_from (post_of w []) k (map (λ post. post.seat) (map opening_post books)) ≡ map opening_post books
opening_posts [] k w = refl
opening_posts (b ∷ books) k w = ap (λ posts. opening_post b ∷ posts) (opening_posts books (suc k) w)

pub opened : (books : List Book) (scene : Scene) → opening_state books scene ≡ state_of (world_in (opening_state books scene)) []
opened books scene = ap (λ posts. record { posts = posts; scene = settled scene }) (sym (opening_posts books 0 (world_in (opening_state books scene))))

pub posts_seats : (books : List Book) → map (λ post. post.seat) (map opening_post books) ≡ map fresh_seat books
posts_seats [] = refl
posts_seats (b ∷ books) = ap (λ seats. fresh_seat b ∷ seats) (posts_seats books)
