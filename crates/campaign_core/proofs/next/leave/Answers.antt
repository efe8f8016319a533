use Rattle.std.proofs.Common.{◌∙◌, ap, sym, arith, map, length}
use Rattle.std.proofs.lemmas.List.{length-map}
use Rattle.campaign_law.specs.State.{State, world_in}
use Rattle.campaign_law.proofs.Lists.{length-mapped_from}
use Rattle.campaign_core.specs.Leaving.{cut_due, due, left_posts}
use Rattle.campaign_core.specs.Places.{law, posted}
use Rattle.campaign_core.proofs.Cutting.{moved_answer, moved_cuts, moved_due, moved_state}
use Rattle.campaign_core.proofs.next.leave.Goals as goal

pub returns-clause-state : goal.returns-clause-state
returns-clause-state c =
    c.leave.ensures
    ∙ (λ i. record { posts = left_posts (c.seat.ensures i) (c.frees.ensures i) (law c.args.state.now).posts; scene = c.args.state.now.scene })
    ∙ moved_state (law c.args.state.now) c.args.entry.now c.requires.moves c.requires.settled c.requires.sound

pub returns-clause-seats : goal.returns-clause-seats
returns-clause-seats c =
    sym (length-map c.leave.new.self.posts posted) ∙ ap (λ (s : State). length s.posts) c.leave.ensures
    ∙ length-mapped_from _ 0 (map posted c.args.state.now.posts) ∙ length-map c.args.state.now.posts posted

pub returns-clause-scene : goal.returns-clause-scene
returns-clause-scene c = ap (λ (s : State). s.scene) c.leave.ensures

pub returns-clause-owed : goal.returns-clause-owed
returns-clause-owed c =
    let less = moved_due (law c.args.state.now) c.args.entry.now c.requires.moves in
    let now = ap (λ (s : State). due s.posts) c.leave.ensures ∙ (λ i. due (left_posts (c.seat.ensures i) (c.frees.ensures i) (law c.args.state.now).posts)) in
    omega (arith, less, now)

pub returns-clause-owed_cuts : goal.returns-clause-owed_cuts
returns-clause-owed_cuts c = λ place. (
    let less = moved_cuts (law c.args.state.now) c.args.entry.now place c.requires.moves in
    let now = ap (λ (s : State). cut_due s.posts) c.leave.ensures ∙ (λ i. cut_due (left_posts (c.seat.ensures i) (c.frees.ensures i) (law c.args.state.now).posts)) in
    omega (arith, less, now))

pub returns-clause-answer : goal.returns-clause-answer
returns-clause-answer c = moved_answer (world_in (law c.args.state.now)) c.args.entry.now c.requires.moves
