use Rattle.std.proofs.Common.{cond, None, ◌≡◌, ◌+◌, ◌++◌, ◌∙◌, ℕ, refl, rules, ap, eqb, sym, subst, length, map, ◌≤◌}
use Rattle.std.specs.Prelude.{Option}
use Rattle.std.proofs.lemmas.List.{length-map}
use Rattle.views.specs.declared.view.View.{View}
use Rattle.player_view.specs.View.{view_of}
use Rattle.campaign_law.specs.World.{mapped_from}
use Rattle.campaign_law.specs.State.{Post, post_by}
use Rattle.campaign_core.specs.Places.{Place, posted}
use Rattle.campaign_core.specs.Steps.{with_book}
use Rattle.campaign_core.specs.Shown.{made_view}
use Rattle.campaign_core.proofs.Posts.{AreMade, none_made, one_more, all_made, longer, item_at, own_post, own_is, first_left, still_left}
use Rattle.campaign_core.proofs.Shows.{mapped_on}
use Rattle.campaign_core.proofs.queues.next_seats.Goals as goal

pub loop-post-init : goal.loop-post-init
loop-post-init c =
    let h : ℕ → Place → Option View = λ seat p. made_view c.args.glances.now.reach (eqb c.args.actor seat) c.args.outcome.now c.args.glances.now.after.now seat p.seat in
    record {
      place = refl;
      book = first_left c.args.actor c.args.book;
      count = ap length c.in_ok-nexts.ensures;
      made = subst (λ ns. AreMade (λ seat post. post_by seat (eqb c.args.actor seat) (with_book c.args.outcome.now c.args.book) (view_of c.args.glances.now.before.now seat) (view_of c.args.glances.now.after.now seat) post) ns 0 (map posted c.args.posts.now))
          (sym c.in_ok-nexts.ensures) (none_made _ _);
      views = ap (λ vs. vs ++ mapped_from h 0 c.args.posts.now) c.in_ok-views.ensures;
    }

pub next_seat-requires-clause-sound : goal.next_seat-requires-clause-sound
next_seat-requires-clause-sound c = c.requires.sound c.loop-post.post-index (posted c.post-item.result) (item_at posted c.args.posts.now c.loop-post.post-index c.post-item.result c.loop-post-test.true c.post-item.is)

pub loop-post-preserved : goal.loop-post-preserved
loop-post-preserved c =
    let f : ℕ → Post → Post = λ seat post. post_by seat (eqb c.args.actor seat) (with_book c.args.outcome.now c.args.book) (view_of c.args.glances.now.before.now seat) (view_of c.args.glances.now.after.now seat) post in
    let h : ℕ → Place → Option View = λ seat p. made_view c.args.glances.now.reach (eqb c.args.actor seat) c.args.outcome.now c.args.glances.now.after.now seat p.seat in
    let seat = c.in-Some.seat in
    let post = posted c.post-item.result in
    let at : eqb c.args.actor c.loop-post.number ≡ c.eq-acts.result = ap (eqb c.args.actor) (sym c.in-Some.ensures.value) ∙ sym c.eq-acts.ensures in
    record {
      place = ap (λ n. n + 1) c.loop-post.invariant.place;
      book = still_left c.args.actor c.loop-post.number c.eq-acts.result c.loop-post.book _ c.args.book at c.loop-post.invariant.book c.in_ok-made.ensures.left;
      count = longer c.loop-post.next.nexts.items _ c.loop-post.post-index c.in_ok-made.made.next c.loop-post.invariant.count c.in_ok-add_seat.ensures.nexts;
      made = one_more f c.loop-post.next.nexts.items _ c.loop-post.post-index (map posted c.args.posts.now) c.in_ok-made.made.next post c.loop-post.invariant.count
          (item_at posted c.args.posts.now c.loop-post.post-index c.post-item.result c.loop-post-test.true c.post-item.is)
          (c.in_ok-made.ensures.post
          ∙ own_post seat c.eq-acts.result c.args.outcome.now (cond c.eq-acts.result c.loop-post.book None) c.args.book _ _ post (own_is c.args.actor c.loop-post.number c.eq-acts.result (cond c.eq-acts.result c.loop-post.book None) c.loop-post.book c.args.book at c.loop-post.invariant.book refl)
          ∙ ap (λ b. post_by seat b (with_book c.args.outcome.now c.args.book) (view_of c.args.glances.now.before.now seat) (view_of c.args.glances.now.after.now seat) post) c.eq-acts.ensures
          ∙ ap (λ n. f n post) (c.in-Some.ensures.value ∙ c.loop-post.invariant.place))
          c.in_ok-add_seat.ensures.nexts c.loop-post.invariant.made;
      views = mapped_on h c.loop-post.number c.loop-post.post-index c.args.posts.now c.post-item.result c.loop-post.next.views.items _ _ c.in_ok-made.made.view c.loop-post-test.true (sym c.post-item.is)
          c.in_ok-add_seat.ensures.views
          (c.in_ok-made.ensures.view ∙ ap (λ b. made_view c.args.glances.now.reach b c.args.outcome.now c.args.glances.now.after.now seat c.post-item.result.seat) c.eq-acts.ensures
          ∙ ap (λ n. h n c.post-item.result) c.in-Some.ensures.value)
          c.loop-post.invariant.views;
    }

pub returns-clause-posts : goal.returns-clause-posts
returns-clause-posts c =
    let all : length c.args.posts.now ≤ c.loop-post.post-index = search rules in
    all_made _ c.loop-post.next.nexts.items c.loop-post.post-index (map posted c.args.posts.now) (subst (λ n. n ≤ c.loop-post.post-index) (sym (length-map c.args.posts.now posted)) all) c.loop-post.invariant.made
