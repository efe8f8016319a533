use Rattle.std.proofs.Common.{◌<◌, subst, sym, ◌∙◌}
use Rattle.cells.specs.Cells.{Extent}
use Rattle.vision.proofs.AddingLemmas.{with_same}
use Rattle.vision.proofs.SeenLemmas.{AddsSeen-with_cells, lit_test_tells, sees_test_tells}
use Rattle.vision.proofs.ToldLemmas.{told_served, same_field}
use Rattle.vision.proofs.seen.seen_cells.Goals as goal

pub returns-clause-value : goal.returns-clause-value
returns-clause-value c walls are =
    c.add_seen.ensures
    ∙ with_same c.args.out.now _ _ (λ x y hx hy.
    told_served c.args.mode walls c.args.sight c.args.eye c.kept_field-own.result.now c.args.lamps.now c.args.fields.now x y
    c.requires.range c.requires.night c.requires.mult c.requires.radii (same_field _ _ _ c.kept_field-own.ensures are.own) are.of_lamps
    (subst (λ (e : Extent). x < e.w) (sym are.size) hx) (subst (λ (e : Extent). y < e.h) (sym are.size) hy))

pub returns-clause-cells : goal.returns-clause-cells
returns-clause-cells c walls are = AddsSeen-with_cells c.args.mode walls c.args.lamps.now c.args.sight c.args.eye c.args.out.now _ (returns-clause-value c walls are)

pub returns-clause-told : goal.returns-clause-told
returns-clause-told c = record {
  lit = λ walls x y. lit_test_tells walls c.args.lamps.now c.args.sight.mult x y;
  seen = λ walls x y. sees_test_tells c.args.mode walls c.args.lamps.now c.args.sight c.args.eye x y;
}
