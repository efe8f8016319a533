use Rattle.std.proofs.Common.{rules, ap, sym, ◌∙◌, set, map, ◌≡◌, Some, None}
use Rattle.std.specs.Prelude.{option_map, slice_get}
use Rattle.std.proofs.lemmas.Option.{slice_get-map}
use Rattle.campaign_core.specs.Places.{Standing, posted}
use Rattle.campaign_core.specs.Taking.{taken_post, taken_posts}
use Rattle.campaign_core.proofs.Leaving.{set_there, set_nowhere, lent, lent_none, map_set}
use Rattle.campaign_core.proofs.state.State.take.Goals as goal
use Rattle.campaign_core.proofs.state.State.take.Goals.{in-Some, in_default}

pub returns : goal.returns
returns c = elim c.match-get_mut.branch [
  | in-Some w ↦ (
      let posts = c.self.inside.posts.items in
      let place : c.from.result ≡ c.args.seat = search rules in
      let put : c.match-get_mut.self-inside.posts.items ≡ set c.self.inside.posts.items c.args.seat w.take.new.self = search rules in
      let at : slice_get (map posted posts) c.args.seat ≡ Some (posted w.in-Some.own.now) =
      slice_get-map posted posts c.args.seat
      ∙ ap (option_map posted) (ap (slice_get posts) (sym place) ∙ lent (λ x. x.now) posts c.from.result c.get_mut.result w.in-Some.own w.in-Some.is c.get_mut.ensures.item) in
      (λ i. record {
        posts = (ap (map posted) put ∙ map_set posts c.args.seat w.take.new.self ∙ ap (set (map posted posts) c.args.seat) w.take.ensures ∙ set_there (taken_post c.args.count) c.args.seat (map posted posts) (posted w.in-Some.own.now) at) i;
        scene = (w.self-inside-is i).scene;
      })
      ∙ ap (λ (s : Standing). record { posts = taken_posts c.args.seat c.args.count (map posted s.posts); scene = s.scene }) c.self.view_is)
  | in_default w ↦ (
      let posts = c.self.inside.posts.items in
      let place : c.from.result ≡ c.args.seat = search rules in
      let at : slice_get (map posted posts) c.args.seat ≡ None =
      slice_get-map posted posts c.args.seat
      ∙ ap (option_map posted) (ap (slice_get posts) (sym place) ∙ lent_none (λ x. x.now) posts c.from.result c.get_mut.result w.in_default.is c.get_mut.ensures.item) in
      (λ i. record {
        posts = (ap (λ x. map posted x.posts.items) w.self-inside-is ∙ set_nowhere (taken_post c.args.count) c.args.seat (map posted posts) at) i;
        scene = (w.self-inside-is i).scene;
      })
      ∙ ap (λ (s : Standing). record { posts = taken_posts c.args.seat c.args.count (map posted s.posts); scene = s.scene }) c.self.view_is)
]
