use Rattle.std.proofs.Common.{◌∙◌, ap, sym, map, length}
use Rattle.std.proofs.lemmas.List.{length-map}
use Rattle.campaign_law.specs.State.{State, world_in}
use Rattle.campaign_law.proofs.Lists.{length-mapped_from}
use Rattle.campaign_core.specs.Places.{law, posted}
use Rattle.campaign_core.specs.Taking.{taken_posts}
use Rattle.campaign_core.proofs.Taking.{taken_answer, taken_state}
use Rattle.campaign_core.proofs.next.take.Goals as goal

pub returns-clause-state : goal.returns-clause-state
returns-clause-state c =
    c.take.ensures
    ∙ (λ i. record { posts = taken_posts (c.seat.ensures i) (c.taken_count.ensures i) (law c.args.state.now).posts; scene = c.args.state.now.scene })
    ∙ taken_state (law c.args.state.now) c.args.entry.now c.requires.taken c.requires.settled c.requires.sound

pub returns-clause-seats : goal.returns-clause-seats
returns-clause-seats c =
    sym (length-map c.take.new.self.posts posted) ∙ ap (λ (s : State). length s.posts) c.take.ensures
    ∙ length-mapped_from _ 0 (map posted c.args.state.now.posts) ∙ length-map c.args.state.now.posts posted

pub returns-clause-scene : goal.returns-clause-scene
returns-clause-scene c = ap (λ (s : State). s.scene) c.take.ensures

pub returns-clause-answer : goal.returns-clause-answer
returns-clause-answer c = taken_answer (world_in (law c.args.state.now)) c.args.entry.now c.requires.taken
