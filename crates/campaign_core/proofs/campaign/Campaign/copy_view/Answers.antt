use Rattle.std.proofs.Common.{◌<◌, ◌∙◌, sym, ap, subst, length, arith}
use Rattle.std.specs.Option.{option_copied}
use Rattle.world.specs.Scene.{Scene}
use Rattle.player_view.specs.View.{view_of}
use Rattle.command_looks.specs.Fields.{AreKept}
use Rattle.campaign_law.specs.World.{World, replay}
use Rattle.campaign_law.specs.Law.{Course, world_of}
use Rattle.campaign_law.specs.State.{world_in}
use Rattle.campaign_core.specs.Places.{law}
use Rattle.campaign_core.proofs.Nexts.{if_ok}
use Rattle.campaign_core.proofs.Running.{kept_shown, seats_now, world_now}
use Rattle.campaign_core.proofs.campaign.Campaign.copy_view.Goals as goal

pub returns-in-Some : goal.returns-in-Some
returns-in-Some g c =
    if_ok c.copy.result _ _
    (λ v is. is ∙ kept_shown (world_of c.args.self.now) c.args.seat c.in-Some.view.now (sym (ap option_copied c.in-Some.is) ∙ c.view.ensures))
    c.copy.ensures

pub serve-requires : goal.serve-requires
serve-requires g c =
    subst (λ (scene : Scene). AreKept scene c.fields-fields.result.now) (sym c.scene-scene.ensures)
    (subst (λ fields. AreKept c.self.inside.state.scene fields) (sym c.fields-fields.ensures) c.self.invariant.fields)

pub view_of-requires-clause-seat : goal.view_of-requires-clause-seat
view_of-requires-clause-seat g c =
    let seats = seats_now (world_in (law c.self.inside.origin)) c.self.inside.history.items _ c.self.inside.state c.self.inside.keep c.self.inside.staged c.self.invariant in
    let there = subst (λ (x : Course). c.args.seat < length x.origin.seats) (sym c.self.view_is) c.requires in
    let players = ap (λ (s : Scene). s.fog.players) c.scene-scene.ensures in
    omega (arith, seats, there, players, c.seats-seats.ensures.value, c.seats-seats.ensures.players)

pub returns : goal.returns
returns g c =
    if_ok c.view_of.result _ _
    (λ v is.
    is ∙ ap (λ (s : Scene). view_of s c.args.seat) c.scene-scene.ensures
    ∙ ap (λ (w : World). view_of w.scene c.args.seat) (world_now (world_in (law c.self.inside.origin)) c.self.inside.history.items _ c.self.inside.state c.self.inside.keep c.self.inside.staged c.self.invariant)
    ∙ ap (λ (x : Course). view_of (replay x.origin x.history).scene c.args.seat) c.self.view_is)
    c.view_of.ensures.value
