use Rattle.std.proofs.Common.{◌≡◌, ◌∙◌, ap, false, map, subst, sym}
use Rattle.serde_json.specs.Data.{Data}
use Rattle.serde_json.specs.Written.{has_float}
use Rattle.world.specs.World.{World as Opened}
use Rattle.campaign_writing.specs.Canonical.{campaign_tree}
use Rattle.campaign_writing.proofs.Shape.{campaign_plain}
use Rattle.campaign_core.proofs.Dumping.{book_of, standing, standing_at}
use Rattle.campaign_core.proofs.dumps.campaign_now.Goals as goal

pub returns-in-Ok-clause-tree : goal.returns-in-Ok-clause-tree
returns-in-Ok-clause-tree c =
    let given : Opened = record { scene = c.scene.result.now; books = c.as_slice.result.now } in
    let same : given ≡ standing c.args.state.now = λ i. record { scene = c.scene.ensures i; books = (c.as_slice.ensures.value ∙ c.in_ok-books.ensures ∙ ap (map book_of) c.posts.ensures.value) i } in
    c.in-Ok.ensures.tree ∙ ap campaign_tree (same ∙ standing_at c.args.state.now)

pub returns-in-Ok-clause-exact : goal.returns-in-Ok-clause-exact
returns-in-Ok-clause-exact c = subst (λ (d : Data). has_float d ≡ false) (sym c.in-Ok.ensures.tree) (campaign_plain (record { scene = c.scene.result.now; books = c.as_slice.result.now })).exact
