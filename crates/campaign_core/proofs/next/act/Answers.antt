use Rattle.std.proofs.Common.{◌∙◌, ap, sym, subst, arith}
use Rattle.std.proofs.lemmas.List.{length-map}
use Rattle.command_looks.specs.Fields.{AreKept}
use Rattle.campaign_law.specs.State.{State, world_in}
use Rattle.campaign_core.specs.Changed.{scene_in}
use Rattle.campaign_core.specs.Places.{law, posted}
use Rattle.campaign_law.proofs.Feeding.{players_stay}
use Rattle.campaign_core.proofs.Nexts.{keeps_fields}
use Rattle.campaign_core.proofs.next.act.Goals as goal

pub go_on-requires-clause-count : goal.go_on-requires-clause-count
go_on-requires-clause-count c =
    let posts = length-map c.args.state.now.posts posted in
    let nexts = c.requires.prepared.nexts in
    omega (arith, posts, nexts)

pub go_on-requires-clause-players : goal.go_on-requires-clause-players
go_on-requires-clause-players c = ap (λ (s : State). s.scene.fog.players) c.requires.prepared.state ∙ players_stay (world_in (law c.args.state.now)) c.args.entry.now

pub go_on-requires-clause-views : goal.go_on-requires-clause-views
go_on-requires-clause-views c =
    let posts = length-map c.args.state.now.posts posted in
    let views = c.requires.prepared.count in
    let count = c.requires.count in
    omega (arith, posts, views, count)

pub go_on-requires-clause-one : goal.go_on-requires-clause-one
go_on-requires-clause-one c =
    let count = c.requires.count in
    let seats = c.seats-seats.ensures.value in
    let players = c.seats-seats.ensures.players in
    omega (arith, count, seats, players)

pub returns-clause-fields : goal.returns-clause-fields
returns-clause-fields c =
    let p = c.requires.prepared in
    subst (λ (s : State). AreKept s.scene c.go_on.new.keep.fields) (sym c.go_on.ensures.state)
    (subst (AreKept (scene_in c.args.state.now.scene c.args.prepared.changed)) (sym c.go_on.ensures.fields)
    (keeps_fields (world_in (law c.args.state.now)) c.args.entry.now c.args.keep.now.fields c.args.prepared.changed p.changed c.requires.fields))

pub returns-clause-views : goal.returns-clause-views
returns-clause-views c = record { each = λ seat joined. c.go_on.ensures.views seat ∙ c.requires.prepared.views seat joined }
