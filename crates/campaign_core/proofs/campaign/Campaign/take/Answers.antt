use Rattle.std.proofs.Common.{◌≡◌, ◌++◌, ◌∷◌, [], ◌∙◌, refl, sym, ap, subst, length, false, arith}
use Rattle.world.specs.Scene.{Scene}
use Rattle.command_looks.specs.Fields.{AreKept}
use Rattle.campaign_law.specs.World.{replay}
use Rattle.campaign_law.specs.State.{world_in}
use Rattle.campaign_law.specs.Session.{changes_state}
use Rattle.campaign_law.proofs.Lists.{append_nil}
use Rattle.campaign_law.proofs.Simulation.{sent_is_machine}
use Rattle.campaign_core.specs.Places.{law}
use Rattle.campaign_core.specs.Running.{IsRunning}
use Rattle.campaign_core.proofs.CutLists.{none_cut}
use Rattle.campaign_core.proofs.Nexts.{on_ok}
use Rattle.campaign_core.proofs.Running.{advances, owed_cuts_most, owed_most, running_settled, running_sound}
use Rattle.campaign_core.proofs.Saying.{taken_silent}
use Rattle.campaign_core.proofs.Taking.{taken_shown, taken_still}
use Rattle.campaign_core.proofs.campaign.Campaign.take.Goals as goal

pub returns-then-is_err-clause-sent : goal.returns-then-is_err-clause-sent
returns-then-is_err-clause-sent g c = λ p. sent_is_machine _ _ p c.self.invariant.opening

pub take-answer-requires-clause-settled : goal.take-answer-requires-clause-settled
take-answer-requires-clause-settled g c = running_settled _ _ _ _ _ _ c.self.invariant

pub take-answer-requires-clause-sound : goal.take-answer-requires-clause-sound
take-answer-requires-clause-sound g c = running_sound _ _ _ _ _ _ c.self.invariant

pub invariant_of-self-2 : goal.invariant_of-self-2
invariant_of-self-2 g c =
    let e = c.args.entry in
    let done = sym c.is_err.ensures.value ∙ c.if-is_err.false in
    let enough = on_ok c.make_places.result _ done c.make_places.ensures.enough in
    let enough_cuts = on_ok c.make_places.result _ done c.make_places.ensures.enough_cuts in
    let few = owed_most _ _ _ c.self.inside.state c.take-answer.new.state _ _ c.self.invariant c.take-answer.ensures.seats in
    let few_cuts = owed_cuts_most _ _ _ c.self.inside.state c.take-answer.new.state _ _ c.self.invariant c.take-answer.ensures.seats in
    let still : changes_state (replay (world_in (law c.self.inside.origin)) c.self.inside.history.items) e ≡ false = taken_still (replay (world_in (law c.self.inside.origin)) c.self.inside.history.items) e c.requires.taken in
    let len = c.push_reserved.ensures.len in
    let capacity = c.push_reserved.ensures.capacity in
    subst (IsRunning (world_in (law c.self.inside.origin)) c.push_reserved.new.self.items _ c.take-answer.new.state c.self.inside.keep) (sym c.clear_staged.ensures)
    (advances _ _ _ _ _ c.self.inside.state c.take-answer.new.state c.self.inside.keep c.self.inside.keep c.self.inside.staged e c.self.invariant
    c.take-answer.ensures.state c.take-answer.ensures.seats (subst (λ (s : Scene). AreKept s c.self.inside.keep.fields) (sym c.take-answer.ensures.scene) c.self.invariant.fields)
    (taken_shown (world_in (law c.self.inside.state)) e c.self.inside.keep.views c.requires.taken (running_settled _ _ _ _ _ _ c.self.invariant) c.self.invariant.views) refl
    (omega (arith, enough, few, len, capacity)) (omega (arith, enough_cuts, few_cuts)) (c.push_reserved.ensures.items ∙ ap (λ h. h ++ e ∷ []) c.make_places.ensures.history)
    (c.make_places.ensures.cuts
    ∙ sym (append_nil c.self.inside.cuts.items)
    ∙ ap (λ more. c.self.inside.cuts.items ++ more) (sym (none_cut (replay (world_in (law c.self.inside.origin)) c.self.inside.history.items) (length c.self.inside.history.items) e still)))
    (c.clear.ensures.items ∙ sym (taken_silent (replay (world_in (law c.self.inside.origin)) c.self.inside.history.items) e c.requires.taken)))

pub returns-clause-sent : goal.returns-clause-sent
returns-clause-sent g c = λ p. sent_is_machine _ _ p c.self.invariant.opening
