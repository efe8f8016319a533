use Rattle.std.proofs.Common.{rules, ◌≡◌, ◌++◌, ◌∙◌, refl, sym, ap, subst, length, false, arith}
use Rattle.std.specs.Prelude.{is_some, option_map}
use Rattle.world.specs.Scene.{Scene}
use Rattle.command_looks.specs.Fields.{AreKept}
use Rattle.campaign_law.specs.declared.answer.Answer.{Answer}
use Rattle.campaign_law.specs.World.{World, steps_of, outcome_of, replay}
use Rattle.campaign_law.specs.State.{world_in}
use Rattle.campaign_law.specs.Law.{Course, answer_of, ChangesLittle}
use Rattle.campaign_law.specs.Session.{changes_state}
use Rattle.campaign_law.proofs.Lists.{append_nil}
use Rattle.campaign_law.proofs.Simulation.{sent_is_machine}
use Rattle.campaign_law.proofs.Refused.{refused_changes_little}
use Rattle.campaign_core.specs.declared.campaign.Made.TheVariants.{Whole, Alone}
use Rattle.campaign_core.specs.CutList.{cut_by}
use Rattle.campaign_core.specs.Places.{law, world_at}
use Rattle.campaign_core.specs.Running.{IsRunning, IsWhole, entry_in}
use Rattle.campaign_core.proofs.Cutting.{moved_cuts}
use Rattle.campaign_core.proofs.CutLists.{none_cut}
use Rattle.campaign_core.proofs.Laws.{world_law}
use Rattle.campaign_core.proofs.Shows.{left_shown}
use Rattle.campaign_core.proofs.Running.{advances, if_is, made_is, owed_cuts_most, owed_most, running_settled, running_sound, world_now}
use Rattle.campaign_core.proofs.Saying.{moved_silent}
use Rattle.campaign_core.proofs.campaign.Campaign.commit.Goals as goal

-- ---- a Leave or a Cut alone

pub leave-answer-requires-clause-settled : goal.leave-answer-requires-clause-settled
leave-answer-requires-clause-settled g c = running_settled _ _ _ _ _ _ c.self.invariant

pub leave-answer-requires-clause-sound : goal.leave-answer-requires-clause-sound
leave-answer-requires-clause-sound g c = running_sound _ _ _ _ _ _ c.self.invariant

pub leave-answer-requires-clause-moves : goal.leave-answer-requires-clause-moves
leave-answer-requires-clause-moves g c = made_is _ c.self.inside.state c.self.inside.keep c.self.inside.staged c.in-Some.staged Alone c.in-Some.ensures.value c.in-Alone.is c.self.invariant.staged

pub add_cut-requires : goal.add_cut-requires
add_cut-requires g c =
    let e = c.in-Some.staged.entry in
    let moves = made_is _ c.self.inside.state c.self.inside.keep c.self.inside.staged c.in-Some.staged Alone c.in-Some.ensures.value c.in-Alone.is c.self.invariant.staged in
    let less = moved_cuts (law c.self.inside.state) e c.len-place.result moves in
    let places = c.self.invariant.owed_cuts in
    let same : length (cut_by (world_at c.self.inside.state) c.len-place.result e) ≡ length (cut_by (world_in (law c.self.inside.state)) c.len-place.result e) = ap (λ (w : World). length (cut_by w c.len-place.result e)) (world_law c.self.inside.state) in
    omega (arith, less, places, same)

pub push_reserved-requires : goal.push_reserved-requires
push_reserved-requires g c =
    let places = c.self.invariant.owed in
    let less = c.leave-answer.ensures.owed in
    omega (arith, places, less)

pub invariant_of-self : goal.invariant_of-self
invariant_of-self g c =
    let places = c.self.invariant.owed in
    let less = c.leave-answer.ensures.owed in
    let cut_places = c.self.invariant.owed_cuts in
    let less_cuts = c.leave-answer.ensures.owed_cuts c.len-place.result in
    let len = c.push_reserved.ensures.len in
    let capacity = c.push_reserved.ensures.capacity in
    let left = c.add_cut.ensures.places in
    let e = c.in-Some.staged.entry in
    let now = world_now (world_in (law c.self.inside.origin)) c.self.inside.history.items _ c.self.inside.state c.self.inside.keep c.self.inside.staged c.self.invariant in
    let count : c.len-place.result ≡ length c.self.inside.history.items = search rules in
    let placed : cut_by (world_at c.self.inside.state) c.len-place.result e ≡ cut_by (replay (world_in (law c.self.inside.origin)) c.self.inside.history.items) (length c.self.inside.history.items) e =
    (λ i. cut_by ((world_law c.self.inside.state ∙ now) i) (count i) e) in
    let same : length (cut_by (world_at c.self.inside.state) c.len-place.result e) ≡ length (cut_by (world_in (law c.self.inside.state)) c.len-place.result e) = ap (λ (w : World). length (cut_by w c.len-place.result e)) (world_law c.self.inside.state) in
    let moves = made_is _ c.self.inside.state c.self.inside.keep c.self.inside.staged c.in-Some.staged Alone c.in-Some.ensures.value c.in-Alone.is c.self.invariant.staged in
    subst (IsRunning (world_in (law c.self.inside.origin)) c.push_reserved.new.self.items _ c.leave-answer.new.state c.self.inside.keep) (sym c.in-Some.ensures.after)
    (advances _ _ _ _ _ c.self.inside.state c.leave-answer.new.state c.self.inside.keep c.self.inside.keep c.self.inside.staged e c.self.invariant
    c.leave-answer.ensures.state c.leave-answer.ensures.seats (subst (λ (s : Scene). AreKept s c.self.inside.keep.fields) (sym c.leave-answer.ensures.scene) c.self.invariant.fields)
    (left_shown (world_in (law c.self.inside.state)) e c.self.inside.keep.views moves (running_settled _ _ _ _ _ _ c.self.invariant) c.self.invariant.views) refl
    (omega (arith, places, less, len, capacity)) (omega (arith, cut_places, less_cuts, left, same)) c.push_reserved.ensures.items
    (c.add_cut.ensures.items ∙ ap (λ more. c.self.inside.cuts.items ++ more) placed)
    (c.clear.ensures.items ∙ sym (ap (λ (w : World). (outcome_of w e).messages) (sym now) ∙ moved_silent (world_in (law c.self.inside.state)) e moves)))

pub returns-in-Alone-clause-answer : goal.returns-in-Alone-clause-answer
returns-in-Alone-clause-answer g c =
    let e = c.in-Some.staged.entry in
    if_is c.args.self.now.staged e _ (sym (ap (λ (x : Course). x.staged) c.self.view_is) ∙ ap (option_map entry_in) (sym c.in-Some.ensures.value))
    (c.leave-answer.ensures.answer
    ∙ ap (λ (w : World). answer_of (steps_of w e) (outcome_of w e)) (world_now (world_in (law c.self.inside.origin)) c.self.inside.history.items _ c.self.inside.state c.self.inside.keep c.self.inside.staged c.self.invariant)
    ∙ ap (λ (x : Course). answer_of (steps_of (replay x.origin x.history) e) (outcome_of (replay x.origin x.history) e)) c.self.view_is)

pub returns-in-Alone-clause-refused : goal.returns-in-Alone-clause-refused
returns-in-Alone-clause-refused g c =
    let e = c.in-Some.staged.entry in
    let now = world_now (world_in (law c.self.inside.origin)) c.self.inside.history.items _ c.self.inside.state c.self.inside.keep c.self.inside.staged c.self.invariant in
    if_is c.args.self.now.staged e _ (sym (ap (λ (x : Course). x.staged) c.self.view_is) ∙ ap (option_map entry_in) (sym c.in-Some.ensures.value))
    (λ is. subst (λ (x : Course). ChangesLittle (replay x.origin x.history) e) c.self.view_is
    (refused_changes_little (world_in (law c.self.inside.origin)) c.self.inside.history.items e c.self.invariant.opening
    (sym (ap (λ (a : Answer). is_some a.refusal) c.leave-answer.ensures.answer ∙ ap (λ (w : World). is_some (outcome_of w e).refusal) now) ∙ is)))

pub returns-in-Alone-clause-sent : goal.returns-in-Alone-clause-sent
returns-in-Alone-clause-sent g c = λ p. sent_is_machine _ _ p c.self.invariant.opening

-- ---- all that an entry makes

pub act-answer-requires-clause-fields : goal.act-answer-requires-clause-fields
act-answer-requires-clause-fields g c = c.self.invariant.fields

pub act-answer-requires-clause-count : goal.act-answer-requires-clause-count
act-answer-requires-clause-count g c = c.self.invariant.count

pub act-answer-requires-clause-most : goal.act-answer-requires-clause-most
act-answer-requires-clause-most g c = c.self.invariant.most

pub act-answer-requires-clause-room : goal.act-answer-requires-clause-room
act-answer-requires-clause-room g c =
    let whole : IsWhole _ c.self.inside.state c.self.inside.keep c.in-Some.staged.entry c.in-Whole.prepared =
    made_is _ c.self.inside.state c.self.inside.keep c.self.inside.staged c.in-Some.staged (Whole c.in-Whole.prepared) c.in-Some.ensures.value c.in-Whole.is c.self.invariant.staged in
    whole.room

pub act-answer-requires-clause-prepared : goal.act-answer-requires-clause-prepared
act-answer-requires-clause-prepared g c =
    let whole : IsWhole _ c.self.inside.state c.self.inside.keep c.in-Some.staged.entry c.in-Whole.prepared =
    made_is _ c.self.inside.state c.self.inside.keep c.self.inside.staged c.in-Some.staged (Whole c.in-Whole.prepared) c.in-Some.ensures.value c.in-Whole.is c.self.invariant.staged in
    whole.prepared

pub push_reserved-requires-2 : goal.push_reserved-requires-2
push_reserved-requires-2 g c =
    let whole : IsWhole _ c.self.inside.state c.self.inside.keep c.in-Some.staged.entry c.in-Whole.prepared =
    made_is _ c.self.inside.state c.self.inside.keep c.self.inside.staged c.in-Some.staged (Whole c.in-Whole.prepared) c.in-Some.ensures.value c.in-Whole.is c.self.invariant.staged in
    let enough = whole.enough in
    omega (arith, enough)

pub invariant_of-self-2 : goal.invariant_of-self-2
invariant_of-self-2 g c =
    let whole : IsWhole _ c.self.inside.state c.self.inside.keep c.in-Some.staged.entry c.in-Whole.prepared =
    made_is _ c.self.inside.state c.self.inside.keep c.self.inside.staged c.in-Some.staged (Whole c.in-Whole.prepared) c.in-Some.ensures.value c.in-Whole.is c.self.invariant.staged in
    let enough = whole.enough in
    let few = owed_most _ _ _ c.self.inside.state c.act-answer.new.state _ _ c.self.invariant c.act-answer.ensures.seats in
    let enough_cuts = whole.enough_cuts in
    let few_cuts = owed_cuts_most _ _ _ c.self.inside.state c.act-answer.new.state _ _ c.self.invariant c.act-answer.ensures.seats in
    let now = world_now (world_in (law c.self.inside.origin)) c.self.inside.history.items _ c.self.inside.state c.self.inside.keep c.self.inside.staged c.self.invariant in
    let still : changes_state (replay (world_in (law c.self.inside.origin)) c.self.inside.history.items) c.in-Some.staged.entry ≡ false = sym (ap (λ (w : World). changes_state w c.in-Some.staged.entry) now) ∙ whole.still in
    let len = c.push_reserved-2.ensures.len in
    let capacity = c.push_reserved-2.ensures.capacity in
    subst (IsRunning (world_in (law c.self.inside.origin)) c.push_reserved-2.new.self.items _ c.act-answer.new.state c.act-answer.new.keep) (sym c.in-Some.ensures.after)
    (advances _ _ _ _ _ c.self.inside.state c.act-answer.new.state c.self.inside.keep c.act-answer.new.keep c.self.inside.staged c.in-Some.staged.entry c.self.invariant
    c.act-answer.ensures.state c.act-answer.ensures.seats c.act-answer.ensures.fields c.act-answer.ensures.views c.act-answer.ensures.count
    (omega (arith, enough, few, len, capacity)) (omega (arith, enough_cuts, few_cuts)) c.push_reserved-2.ensures.items
    (sym (append_nil c.self.inside.cuts.items)
    ∙ ap (λ more. c.self.inside.cuts.items ++ more) (sym (none_cut (replay (world_in (law c.self.inside.origin)) c.self.inside.history.items) (length c.self.inside.history.items) c.in-Some.staged.entry still)))
    (c.act-answer.ensures.said ∙ ap (λ (w : World). (outcome_of w c.in-Some.staged.entry).messages) now))

pub returns-clause-answer : goal.returns-clause-answer
returns-clause-answer g c =
    let e = c.in-Some.staged.entry in
    if_is c.args.self.now.staged e _ (sym (ap (λ (x : Course). x.staged) c.self.view_is) ∙ ap (option_map entry_in) (sym c.in-Some.ensures.value))
    (c.act-answer.ensures.answer
    ∙ ap (λ (w : World). answer_of (steps_of w e) (outcome_of w e)) (world_now (world_in (law c.self.inside.origin)) c.self.inside.history.items _ c.self.inside.state c.self.inside.keep c.self.inside.staged c.self.invariant)
    ∙ ap (λ (x : Course). answer_of (steps_of (replay x.origin x.history) e) (outcome_of (replay x.origin x.history) e)) c.self.view_is)

pub returns-clause-refused : goal.returns-clause-refused
returns-clause-refused g c =
    let e = c.in-Some.staged.entry in
    let now = world_now (world_in (law c.self.inside.origin)) c.self.inside.history.items _ c.self.inside.state c.self.inside.keep c.self.inside.staged c.self.invariant in
    if_is c.args.self.now.staged e _ (sym (ap (λ (x : Course). x.staged) c.self.view_is) ∙ ap (option_map entry_in) (sym c.in-Some.ensures.value))
    (λ is. subst (λ (x : Course). ChangesLittle (replay x.origin x.history) e) c.self.view_is
    (refused_changes_little (world_in (law c.self.inside.origin)) c.self.inside.history.items e c.self.invariant.opening
    (sym (ap (λ (a : Answer). is_some a.refusal) c.act-answer.ensures.answer ∙ ap (λ (w : World). is_some (outcome_of w e).refusal) now) ∙ is)))

pub returns-clause-sent : goal.returns-clause-sent
returns-clause-sent g c = λ p. sent_is_machine _ _ p c.self.invariant.opening
