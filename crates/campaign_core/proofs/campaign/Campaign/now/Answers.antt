use Rattle.std.proofs.Common.{◌≡◌, ◌∙◌, sym, ap, subst, map}
use Rattle.world.specs.World.{World as Opened, IsWorld}
use Rattle.campaign_law.specs.State.{world_in}
use Rattle.campaign_law.specs.Law.{Course, world_of}
use Rattle.campaign_law.specs.Worlds.{opened_of}
use Rattle.campaign_core.specs.Places.{Place, law}
use Rattle.campaign_core.proofs.Dumping.{standing, standing_fits, standing_now}
use Rattle.campaign_core.proofs.campaign.Campaign.now.Goals as goal

pub from_parts-requires : goal.from_parts-requires
from_parts-requires g c =
    let copied : Opened = record { scene = c.in_ok-scene.scene; books = c.in_ok-books.books.items } in
    let same : copied ≡ standing c.self.inside.state = λ i. record { scene = (c.in_ok-scene.ensures ∙ c.scene.ensures) i; books = (c.in_ok-books.ensures ∙ ap (map (λ (p : Place). p.seat.book)) c.posts.ensures.value) i } in
    subst IsWorld (sym same) (standing_fits (world_in (law c.self.inside.origin)) c.self.inside.history.items _ c.self.inside.state _ _ c.self.invariant)

pub returns : goal.returns
returns g c =
    let copied : Opened = record { scene = c.in_ok-scene.scene; books = c.in_ok-books.books.items } in
    let same : copied ≡ standing c.self.inside.state = λ i. record { scene = (c.in_ok-scene.ensures ∙ c.scene.ensures) i; books = (c.in_ok-books.ensures ∙ ap (map (λ (p : Place). p.seat.book)) c.posts.ensures.value) i } in
    c.from_parts.ensures
    ∙ same
    ∙ standing_now (world_in (law c.self.inside.origin)) c.self.inside.history.items _ c.self.inside.state _ _ c.self.invariant
    ∙ ap (λ (x : Course). opened_of (world_of x)) c.self.view_is
