use Rattle.std.proofs.Common.{map, ◌∙◌, sym, ap, subst, eqb}
use Rattle.std.specs.Prelude.{option_map, slice_get}
use Rattle.player_view.specs.View.{view_of}
use Rattle.view_keep.specs.Kept.{Kept}
use Rattle.world.specs.Scene.{Scene}
use Rattle.campaign_law.specs.Outcome.{Outcome}
use Rattle.campaign_law.specs.World.{mapped_from, outcome_of}
use Rattle.campaign_law.specs.State.{post_by}
use Rattle.campaign_core.specs.Places.{Place, posted, put_all, world_at}
use Rattle.campaign_core.specs.Sound.{AreSound}
use Rattle.campaign_core.proofs.Laws.{stated_law}
use Rattle.campaign_core.specs.Changed.{reach_of, scene_in}
use Rattle.campaign_core.specs.Steps.{with_book}
use Rattle.campaign_core.specs.declared.reach.Reach.{Reach}
use Rattle.campaign_core.specs.Shown.{AreStill, IsShown, made_view}
use Rattle.campaign_core.proofs.Nexts.{stands, if_ok}
use Rattle.campaign_core.specs.Glances.{ViewsFit}
use Rattle.campaign_core.proofs.Following.{views_fit}
use Rattle.campaign_core.proofs.Posts.{queues_few}
use Rattle.campaign_core.proofs.Shows.{joins_full, shown_seats, stays_in_view}
use Rattle.campaign_core.proofs.next.seats_after.Goals as goal

pub next_seats-requires-clause-joins : goal.next_seats-requires-clause-joins
unfolding with_book
next_seats-requires-clause-joins c = λ joins.
    ap (λ (o : Outcome). o.full) c.requires.outcome ∙ joins_full (world_at c.args.state.now) c.args.entry.now (sym (ap (λ (o : Outcome). o.joins) c.requires.outcome) ∙ joins)

pub next_seats-requires-clause-few : goal.next_seats-requires-clause-few
next_seats-requires-clause-few c = queues_few (world_at c.args.state.now) c.args.entry.now c.args.outcome.now c.args.book c.requires.outcome

pub next_seats-requires-clause-shown : goal.next_seats-requires-clause-shown
next_seats-requires-clause-shown c = λ seat.
    subst (λ (s : Scene). IsShown s c.glances-glances.result.keep.now.views seat (option_map (λ p. p.seat) (slice_get c.posts.result.now seat))) (sym c.glances-glances.ensures.before)
    (subst (λ (k : Kept). IsShown c.args.state.now.scene k.views seat (option_map (λ p. p.seat) (slice_get c.posts.result.now seat))) (sym c.glances-glances.ensures.keep)
    (subst (λ ps. IsShown c.args.state.now.scene c.args.keep.now.views seat (option_map (λ p. p.seat) (slice_get ps seat))) (sym c.posts.ensures.value)
    (shown_seats c.args.state.now c.args.keep.now.views c.requires.views seat)))

pub glances-glances-requires-clause-fit : goal.glances-glances-requires-clause-fit
glances-glances-requires-clause-fit c =
    subst (ViewsFit c.args.state.now.scene) (sym (stands (world_at c.args.state.now) c.args.entry.now c.args.keep.now.fields c.args.changed.now c.requires.changed))
    (views_fit (world_at c.args.state.now) c.args.entry.now c.requires.fits c.requires.tables)

pub next_seats-requires-clause-sound : goal.next_seats-requires-clause-sound
next_seats-requires-clause-sound c = subst (λ ps. AreSound (map posted ps)) (sym c.posts.ensures.value) c.requires.sound

pub returns-clause-state : goal.returns-clause-state
returns-clause-state c = if_ok c.next_seats.result _ _ (λ n is. stated_law c.args.state.now c.args.entry.now (with_book c.args.outcome.now c.args.book) (scene_in c.args.state.now.scene c.args.changed.now) (put_all n.nexts.items (map posted c.args.state.now.posts)) c.requires.outcome
    (stands (world_at c.args.state.now) c.args.entry.now c.args.keep.now.fields c.args.changed.now c.requires.changed)
    (ap (λ ps. put_all n.nexts.items (map posted ps)) (sym c.posts.ensures.value) ∙ is ∙ (λ i. mapped_from (λ seat post. post_by seat (eqb (c.seat.ensures i) seat) (with_book c.args.outcome.now c.args.book) (view_of (c.glances-glances.ensures.before i) seat) (view_of (c.glances-glances.ensures.after i) seat) post) 0 (map posted (c.posts.ensures.value i))))) c.next_seats.ensures.posts

pub returns-clause-views : goal.returns-clause-views
unfolding with_book
returns-clause-views c = if_ok c.next_seats.result _ _ (λ n is. is
    ∙ (λ i. mapped_from (λ seat (p : Place). made_view (c.glances-glances.ensures.reach i) (eqb (c.seat.ensures i) seat) (c.requires.outcome i)
    ((c.glances-glances.ensures.after ∙ stands (world_at c.args.state.now) c.args.entry.now c.args.keep.now.fields c.args.changed.now c.requires.changed) i) seat p.seat) 0 (c.posts.ensures.value i))) c.next_seats.ensures.views

pub next_seats-requires-clause-still : goal.next_seats-requires-clause-still
unfolding with_book
next_seats-requires-clause-still c =
    let w = world_at c.args.state.now in
    let after = c.glances-glances.ensures.after ∙ stands w c.args.entry.now c.args.keep.now.fields c.args.changed.now c.requires.changed in
    let still : AreStill c.glances-glances.result.reach (with_book c.args.outcome.now c.args.book) c.glances-glances.result.before.now c.glances-glances.result.after.now =
    subst (λ (r : Reach). AreStill r (with_book c.args.outcome.now c.args.book) c.glances-glances.result.before.now c.glances-glances.result.after.now) (sym c.glances-glances.ensures.reach)
    (subst (λ (o : Outcome). AreStill (reach_of c.args.changed.now) o c.glances-glances.result.before.now c.glances-glances.result.after.now) (sym c.requires.outcome)
    (subst (λ (s : Scene). AreStill (reach_of c.args.changed.now) (outcome_of w c.args.entry.now) s c.glances-glances.result.after.now) (sym c.glances-glances.ensures.before)
    (subst (AreStill (reach_of c.args.changed.now) (outcome_of w c.args.entry.now) c.args.state.now.scene) (sym after)
    (stays_in_view w c.args.entry.now c.args.keep.now.fields c.args.changed.now c.requires.fits c.requires.tables c.requires.settled c.requires.changed)))) in
    record { each = still.each; letters = still.letters; placed = still.placed }
