use Rattle.std.proofs.Common.{◌≡◌, ◌-◌, ◌∙◌, Some, vec_len, vec_capacity, ap, sym, subst, refl, true, false, arith}
use Rattle.std.proofs.lemmas.List.{length-map}
use Rattle.std.specs.Prelude.{Option}
use Rattle.campaign_law.specs.World.{World, replay}
use Rattle.campaign_law.specs.Worlds.{FitsTogether}
use Rattle.campaign_law.specs.Session.{changes_state}
use Rattle.campaign_law.specs.Law.{Course}
use Rattle.campaign_law.specs.State.{State, world_in}
use Rattle.campaign_law.proofs.Simulation.{sent_is_machine}
use Rattle.campaign_core.specs.CutList.{Ledger}
use Rattle.campaign_core.specs.Looking.{looks_at}
use Rattle.campaign_core.specs.Places.{law, posted, HaveRoom}
use Rattle.campaign_core.specs.declared.campaign.Made.TheVariants.{Whole}
use Rattle.campaign_core.specs.declared.campaign.Staged.{Staged}
use Rattle.campaign_core.specs.Prepared.{IsPrepared}
use Rattle.campaign_core.specs.Running.{IsRunning}
use Rattle.campaign_core.specs.Shown.{AreShown}
use Rattle.campaign_core.proofs.Laws.{world_law}
use Rattle.campaign_core.proofs.Nexts.{on_ok}
use Rattle.campaign_core.proofs.Running.{running_fits, running_tables, running_settled, running_sound, world_now, restaged}
use Rattle.campaign_core.proofs.campaign.Campaign.prepare.Goals as goal

pub made_by-requires-clause-fits : goal.made_by-requires-clause-fits
made_by-requires-clause-fits g c = subst FitsTogether (sym (world_law c.self.inside.state)) (running_fits _ _ _ _ _ _ c.self.invariant)

pub made_by-requires-clause-tables : goal.made_by-requires-clause-tables
made_by-requires-clause-tables g c = running_tables _ _ _ _ _ _ c.self.invariant

pub made_by-requires-clause-settled : goal.made_by-requires-clause-settled
made_by-requires-clause-settled g c = running_settled _ _ _ _ _ _ c.self.invariant

pub made_by-requires-clause-sound : goal.made_by-requires-clause-sound
made_by-requires-clause-sound g c = running_sound _ _ _ _ _ _ c.self.invariant

pub made_by-requires-clause-fields : goal.made_by-requires-clause-fields
made_by-requires-clause-fields g c = c.self.invariant.fields

pub made_by-requires-clause-views : goal.made_by-requires-clause-views
made_by-requires-clause-views g c = subst (λ (w : World). AreShown w c.self.inside.keep.views) (sym (world_law c.self.inside.state)) c.self.invariant.views

pub make_room-requires : goal.make_room-requires
make_room-requires g c =
    let posts = length-map c.self.inside.state.posts posted in
    let nexts = c.in-Ok.ensures.prepared.nexts in
    omega (arith, posts, nexts)

pub returns-then-is_changed_by-clause-looks : goal.returns-then-is_changed_by-clause-looks
returns-then-is_changed_by-clause-looks g c =
    let before = ap (λ (x : Course). x.looks) c.self.view_is in
    omega (arith, before)

pub returns-then-is_changed_by-clause-sent : goal.returns-then-is_changed_by-clause-sent
returns-then-is_changed_by-clause-sent g c = λ p. sent_is_machine _ _ p c.self.invariant.opening

pub returns-in_default-clause-sure : goal.returns-in_default-clause-sure
returns-in_default-clause-sure g c =
    let same = world_law c.self.inside.state ∙ world_now (world_in (law c.self.inside.origin)) c.self.inside.history.items _ c.self.inside.state c.self.inside.keep c.self.inside.staged c.self.invariant in
    let told = ap (λ (w : World). changes_state w c.args.entry) same ∙ ap (λ (x : Course). changes_state (replay x.origin x.history) c.args.entry) c.self.view_is in
    λ moves. (let no : true ≡ false = sym moves ∙ sym told ∙ sym c.is_changed_by.ensures ∙ c.if-is_changed_by.false in cc)

pub returns-in_default-clause-looks : goal.returns-in_default-clause-looks
returns-in_default-clause-looks g c =
    let same = world_law c.self.inside.state ∙ world_now (world_in (law c.self.inside.origin)) c.self.inside.history.items _ c.self.inside.state c.self.inside.keep c.self.inside.staged c.self.invariant in
    let most = ap (λ (w : World). looks_at w c.args.entry) same
    ∙ ap (λ (x : Course). looks_at (replay x.origin x.history) c.args.entry) c.self.view_is in
    let before = ap (λ (x : Course). x.looks) c.self.view_is in
    omega (arith, c.made_by.ensures.looks, most, before)

pub returns-in_default-clause-sent : goal.returns-in_default-clause-sent
returns-in_default-clause-sent g c = λ p. sent_is_machine _ _ p c.self.invariant.opening

pub returns-then-is_err-clause-sure : goal.returns-then-is_err-clause-sure
returns-then-is_err-clause-sure g c =
    let same = world_law c.self.inside.state ∙ world_now (world_in (law c.self.inside.origin)) c.self.inside.history.items _ c.self.inside.state c.self.inside.keep c.self.inside.staged c.self.invariant in
    let told = ap (λ (w : World). changes_state w c.args.entry) same ∙ ap (λ (x : Course). changes_state (replay x.origin x.history) c.args.entry) c.self.view_is in
    λ moves. (let no : true ≡ false = sym moves ∙ sym told ∙ sym c.is_changed_by.ensures ∙ c.if-is_changed_by.false in cc)

pub returns-then-is_err-clause-looks : goal.returns-then-is_err-clause-looks
returns-then-is_err-clause-looks g c =
    let before = ap (λ (x : Course). x.looks) c.self.view_is in
    omega (arith, before)

pub returns-then-is_err-clause-sent : goal.returns-then-is_err-clause-sent
returns-then-is_err-clause-sent g c = λ p. sent_is_machine _ _ p c.self.invariant.opening

pub returns-then-is_err-2-clause-sure : goal.returns-then-is_err-2-clause-sure
returns-then-is_err-2-clause-sure g c =
    let same = world_law c.self.inside.state ∙ world_now (world_in (law c.self.inside.origin)) c.self.inside.history.items _ c.self.inside.state c.self.inside.keep c.self.inside.staged c.self.invariant in
    let told = ap (λ (w : World). changes_state w c.args.entry) same ∙ ap (λ (x : Course). changes_state (replay x.origin x.history) c.args.entry) c.self.view_is in
    λ moves. (let no : true ≡ false = sym moves ∙ sym told ∙ sym c.is_changed_by.ensures ∙ c.if-is_changed_by.false in cc)

pub returns-then-is_err-2-clause-looks : goal.returns-then-is_err-2-clause-looks
returns-then-is_err-2-clause-looks g c =
    let same = world_law c.self.inside.state ∙ world_now (world_in (law c.self.inside.origin)) c.self.inside.history.items _ c.self.inside.state c.self.inside.keep c.self.inside.staged c.self.invariant in
    let most = ap (λ (w : World). looks_at w c.args.entry) same
    ∙ ap (λ (x : Course). looks_at (replay x.origin x.history) c.args.entry) c.self.view_is in
    let before = ap (λ (x : Course). x.looks) c.self.view_is in
    omega (arith, c.made_by.ensures.looks, most, before)

pub returns-then-is_err-2-clause-sent : goal.returns-then-is_err-2-clause-sent
returns-then-is_err-2-clause-sent g c = λ p. sent_is_machine _ _ p c.self.invariant.opening

pub returns-clause-looks : goal.returns-clause-looks
returns-clause-looks g c =
    let same = world_law c.self.inside.state ∙ world_now (world_in (law c.self.inside.origin)) c.self.inside.history.items _ c.self.inside.state c.self.inside.keep c.self.inside.staged c.self.invariant in
    let most = ap (λ (w : World). looks_at w c.args.entry) same
    ∙ ap (λ (x : Course). looks_at (replay x.origin x.history) c.args.entry) c.self.view_is in
    let before = ap (λ (x : Course). x.looks) c.self.view_is in
    omega (arith, c.made_by.ensures.looks, most, before)

pub returns-clause-sent : goal.returns-clause-sent
returns-clause-sent g c = λ p. sent_is_machine _ _ p c.self.invariant.opening

-- a Leave or a Cut that changes its seat's state stages itself alone
pub invariant_of-self : goal.invariant_of-self
invariant_of-self g c =
    restaged (world_in (law c.self.inside.origin)) c.self.inside.history.items _ _ c.self.inside.state c.self.inside.state c.self.inside.keep c.self.inside.staged _ c.self.invariant
    refl refl refl refl (omega arith) (omega arith)
    (sym (ap (λ (w : World). changes_state w c.args.entry) (world_law c.self.inside.state)) ∙ sym c.is_changed_by.ensures ∙ c.if-is_changed_by.true)

-- all that another entry makes, and room for it
pub invariant_of-self-2 : goal.invariant_of-self-2
invariant_of-self-2 g c =
    let ledger : Ledger = record { cuts = c.make_places.new.cuts.items; places = vec_capacity c.make_places.new.history - vec_len c.make_places.new.history; cut_places = vec_capacity c.make_places.new.cuts - vec_len c.make_places.new.cuts; said = c.self.inside.said.items } in
    let stage : Option Staged = Some (record { entry = c.args.entry; made = Whole c.in-Ok.prepared }) in
    let done = sym c.is_err.ensures.value ∙ c.if-is_err.false in
    let same : law c.make_room.new.self ≡ law c.self.inside.state = c.make_room.ensures.state in
    subst (λ h. IsRunning (world_in (law c.self.inside.origin)) h ledger c.make_room.new.self c.self.inside.keep stage) (sym c.make_places.ensures.history)
    (restaged (world_in (law c.self.inside.origin)) c.self.inside.history.items _ ledger c.self.inside.state c.make_room.new.self c.self.inside.keep c.self.inside.staged stage c.self.invariant
    c.make_room.ensures.state c.make_room.ensures.count c.make_places.ensures.cuts refl c.make_places.ensures.kept c.make_places.ensures.kept_cuts
    (record {
      still = ap (λ (s : State). changes_state (world_in s) c.args.entry) same ∙ sym (ap (λ (w : World). changes_state w c.args.entry) (world_law c.self.inside.state)) ∙ sym c.is_changed_by.ensures ∙ c.if-is_changed_by.false;
      enough = on_ok c.make_places.result _ done c.make_places.ensures.enough;
      enough_cuts = on_ok c.make_places.result _ done c.make_places.ensures.enough_cuts;
      room = subst (λ ns. HaveRoom ns c.make_room.new.self.posts) c.deref.ensures.value (on_ok c.make_room.result _ (sym c.is_err-2.ensures.value ∙ c.if-is_err-2.false) c.make_room.ensures.room);
      prepared = subst (λ (s : State). IsPrepared s c.self.inside.keep c.args.entry c.in-Ok.prepared) (sym c.make_room.ensures.state) c.in-Ok.ensures.prepared;
    }))
