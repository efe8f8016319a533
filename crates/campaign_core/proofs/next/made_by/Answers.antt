use Rattle.std.proofs.Common.{◌≡◌, ◌∙◌, ap, sym, subst, length, Some, true, arith, ℕ}
use Rattle.std.proofs.lemmas.List.{length-map}
use Rattle.player_view.specs.View.{view_of}
use Rattle.campaign_law.specs.Seat.{was_joined}
use Rattle.campaign_law.specs.Outcome.{Outcome}
use Rattle.campaign_law.specs.World.{World, seat_at, step, scene_after, steps_of, outcome_of}
use Rattle.campaign_law.specs.Law.{answer_of}
use Rattle.campaign_law.proofs.Lists.{length-mapped_from, mapped_from-map}
use Rattle.campaign_core.specs.Changed.{IsChanged, reach_of}
use Rattle.campaign_core.specs.Places.{Place, posted, world_at}
use Rattle.campaign_core.specs.Steps.{with_book}
use Rattle.campaign_core.specs.Shown.{placed_reaching, view_then}
use Rattle.campaign_core.proofs.Laws.{world_law}
use Rattle.campaign_core.proofs.Shows.{stays_in_view, views_stand}
use Rattle.campaign_core.proofs.next.made_by.Goals as goal

pub returns-clause-prepared : goal.returns-clause-prepared
returns-clause-prepared g c =
    let e = c.args.entry.now in
    let w = world_at c.args.state.now in
    let same = world_law c.args.state.now in
    let p = c.in_ok-nexts.field-0 in
    let posts = length-map c.args.state.now.posts posted in
    let nexts = c.in_ok-nexts.ensures.count in
    let views = ap length c.in_ok-nexts.ensures.views ∙ length-mapped_from _ 0 c.args.state.now.posts in
    let seen = views_stand w e c.args.keep.now.views p.views.items (reach_of c.in_ok-changed.changed) c.requires.views
    (stays_in_view w e c.args.keep.now.fields c.in_ok-changed.changed c.requires.fits c.requires.tables c.requires.settled c.in_ok-changed.ensures.changed)
    (c.in_ok-nexts.ensures.views ∙ sym (mapped_from-map _ (λ (x : Place). x.seat) 0 c.args.state.now.posts)) in
    record {
      state = c.in_ok-nexts.ensures.state;
      changed = subst (λ (x : World). IsChanged x e c.args.keep.now.fields c.in_ok-changed.changed) same c.in_ok-changed.ensures.changed;
      nexts = omega (arith, posts, nexts);
      count = omega (arith, posts, views);
      views = subst (λ (x : World). (seat : ℕ) → was_joined (seat_at (step x e) seat) ≡ true → view_then (placed_reaching (reach_of c.in_ok-changed.changed)) p.views.items c.args.keep.now.views seat ≡ Some (view_of (scene_after x e) seat)) same seen;
      said = c.told-answer.ensures.said ∙ ap (λ (o : Outcome). o.messages) c.take_book-book.ensures.outcome ∙ ap (λ (o : Outcome). o.messages) c.in_ok-steps.ensures.outcome
          ∙ ap (λ (x : World). (outcome_of x e).messages) same;
      answer = c.told-answer.ensures.answer ∙ ap (answer_of _) c.take_book-book.ensures.outcome ∙ (λ i. answer_of (c.in_ok-steps.ensures.steps i) (c.in_ok-steps.ensures.outcome i))
          ∙ ap (λ (x : World). answer_of (steps_of x e) (outcome_of x e)) same;
    }

pub seats_after-requires-clause-outcome : goal.seats_after-requires-clause-outcome
unfolding with_book
seats_after-requires-clause-outcome g c = (λ i. with_book (c.take_book-book.ensures.outcome i) (c.take_book-book.ensures.book i)) ∙ c.in_ok-steps.ensures.outcome
