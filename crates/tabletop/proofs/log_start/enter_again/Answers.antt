use Rattle.std.proofs.Common.{◌++◌, ◌∷◌, [], ◌∙◌, sym, ap, append_assoc}
use Rattle.std.specs.Vec.Iter.{into_iter_items}
use Rattle.tabletop.proofs.log_start.enter_again.Goals as goal

pub loop-entry-preserved-in-Ok : goal.loop-entry-preserved-in-Ok
loop-entry-preserved-in-Ok g c =
    let inv = c.loop-entry.invariant in
    let old = c.args.campaign.now in
    record {
      origin = c.step.ensures.origin ∙ inv.origin;
      history = c.in-Ok.ensures.history ∙ ap (λ h. h ++ c.in-Some.entry ∷ []) inv.history ∙ append_assoc old.history c.loop-entry.yielded (c.in-Some.entry ∷ []);
      whole = append_assoc c.loop-entry.yielded (c.in-Some.entry ∷ []) (into_iter_items c.next.new.self) ∙ ap (λ r. c.loop-entry.yielded ++ r) (sym c.in-Some.ensures.steps.0) ∙ inv.whole;
    }

pub loop-entry-preserved-in-Ok-2 : goal.loop-entry-preserved-in-Ok-2
loop-entry-preserved-in-Ok-2 g c =
    let inv = c.loop-entry.invariant in
    let old = c.args.campaign.now in
    record {
      origin = c.step.ensures.origin ∙ inv.origin;
      history = c.in-Ok.ensures.history ∙ ap (λ h. h ++ c.in-Some.entry ∷ []) inv.history ∙ append_assoc old.history c.loop-entry.yielded (c.in-Some.entry ∷ []);
      whole = append_assoc c.loop-entry.yielded (c.in-Some.entry ∷ []) (into_iter_items c.next.new.self) ∙ ap (λ r. c.loop-entry.yielded ++ r) (sym c.in-Some.ensures.steps.0) ∙ inv.whole;
    }
