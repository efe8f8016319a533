use Rattle.std.proofs.Common.{refl, ◌∙◌}
use Rattle.vision.proofs.AddingLemmas.{with_more}
use Rattle.vision.proofs.ToldLemmas.{IsToldByCells-with_cells}
use Rattle.vision.proofs.seen.add_seen.Goals as goal

pub add_lit-requires-clause-told : goal.add_lit-requires-clause-told
add_lit-requires-clause-told c = IsToldByCells-with_cells _ _ _ c.add_own-in-Night.ensures

pub returns-in-Night : goal.returns-in-Night
returns-in-Night c = rw c.in-Night.is (c.add_lit.ensures ∙ with_more c.args.out.now c.add_own-in-Night.new.out _ _ _ c.add_own-in-Night.ensures (λ _ _ _ _. refl))
