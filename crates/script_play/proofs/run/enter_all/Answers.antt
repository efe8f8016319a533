use Rattle.std.proofs.Common.{◌≡◌, ◌++◌, ◌∷◌, [], ◌∙◌, sym, subst, ap, append_assoc}
use Rattle.std.specs.Vec.Iter.{into_iter_items}
use Rattle.campaign_law.specs.Law.{Course}
use Rattle.script_play.specs.Played.{entries_since, IsPrefix}
use Rattle.script_play.proofs.AfterEntry.{since_is}
use Rattle.script_play.proofs.Counts.{looks_after}
use Rattle.script_play.proofs.run.enter_all.Goals as goal

pub returns-in-Err-clause-stopped : goal.returns-in-Err-clause-stopped
returns-in-Err-clause-stopped g c =
    let same : entries_since c.args.campaign.now c.step.new.self ≡ c.loop-entry.yielded = since_is c.args.campaign.now c.step.new.self c.loop-entry.yielded (ap (λ (x : Course). x.history) c.in-Err.ensures.unchanged ∙ c.loop-entry.invariant.history) in
    subst (λ es. IsPrefix es c.args.entries.items) (sym same) (record { rest = into_iter_items c.loop-entry.entry-iterator; is = sym c.loop-entry.invariant.whole })

pub loop-entry-preserved-in-Ok : goal.loop-entry-preserved-in-Ok
loop-entry-preserved-in-Ok g c =
    let inv = c.loop-entry.invariant in
    let old = c.args.campaign.now in
    let now = c.loop-entry.campaign in
    let new = c.step.new.self in
    record {
      origin = c.step.ensures.origin ∙ inv.origin;
      history = c.in-Ok.ensures.history ∙ ap (λ h. h ++ c.in-Some.entry ∷ []) inv.history ∙ append_assoc old.history c.loop-entry.yielded (c.in-Some.entry ∷ []);
      looks = looks_after old now new c.loop-entry.yielded c.in-Some.entry inv.origin inv.history c.step.ensures.origin c.in-Ok.ensures.history inv.looks c.step.ensures.looks;
      whole = append_assoc c.loop-entry.yielded (c.in-Some.entry ∷ []) (into_iter_items c.next.new.self) ∙ ap (λ r. c.loop-entry.yielded ++ r) (sym c.in-Some.ensures.steps.0) ∙ inv.whole;
    }

pub loop-entry-preserved-in-Ok-2 : goal.loop-entry-preserved-in-Ok-2
loop-entry-preserved-in-Ok-2 g c =
    let inv = c.loop-entry.invariant in
    let old = c.args.campaign.now in
    let now = c.loop-entry.campaign in
    let new = c.step.new.self in
    record {
      origin = c.step.ensures.origin ∙ inv.origin;
      history = c.in-Ok.ensures.history ∙ ap (λ h. h ++ c.in-Some.entry ∷ []) inv.history ∙ append_assoc old.history c.loop-entry.yielded (c.in-Some.entry ∷ []);
      looks = looks_after old now new c.loop-entry.yielded c.in-Some.entry inv.origin inv.history c.step.ensures.origin c.in-Ok.ensures.history inv.looks c.step.ensures.looks;
      whole = append_assoc c.loop-entry.yielded (c.in-Some.entry ∷ []) (into_iter_items c.next.new.self) ∙ ap (λ r. c.loop-entry.yielded ++ r) (sym c.in-Some.ensures.steps.0) ∙ inv.whole;
    }
