use Rattle.std.proofs.Common.{◌≡◌, ℕ, ◌<◌, Bool, refl, ap, arith, ◌∙◌, nat_eq, ◌&&◌}
use Rattle.cells.specs.Cells.{Extent, Cells}
use Rattle.vision.specs.Common.{field_in_disc}
use Rattle.vision.proofs.AddingLemmas.{with_none, with_same, with_more, rows_none, rows_all, rows_more}
use Rattle.vision.proofs.ToldLemmas.{field_down}
use Rattle.vision.proofs.seen.add_in_disc.Goals as goal

pub loop-y-init : goal.loop-y-init
loop-y-init c =
    let test : ℕ → ℕ → Bool = field_in_disc c.args.field.now c.args.disc.now in
    record {
      extent = refl;
      cells = with_none c.args.out.now _ c.size.ensures.told (λ u v _ _. rows_none test _ u v (λ e. c.rows-first.ensures.first v (field_down c.args.field.now c.args.disc.now u v e).0));
    }

pub loop-y-preserved : goal.loop-y-preserved
loop-y-preserved c =
    let test : ℕ → ℕ → Bool = field_in_disc c.args.field.now c.args.disc.now in
    record {
      extent = ap (λ (s : Cells). s.extent) c.add_span.ensures ∙ c.loop-y.invariant.extent;
      cells = c.add_span.ensures ∙ with_more c.args.out.now c.loop-y.out _ (λ u v. nat_eq v c.loop-y.y && test u v) _ c.loop-y.invariant.cells
          (λ u v _ _. rows_more test c.loop-y.y u v);
    }

pub returns : goal.returns
returns c =
    let test : ℕ → ℕ → Bool = field_in_disc c.args.field.now c.args.disc.now in
    let height : c.h.result ≡ c.args.out.now.extent.h = c.h.ensures.value ∙ ap (λ (s : Extent). s.h) c.size.ensures.value in
    c.loop-y.invariant.cells
    ∙ with_same c.args.out.now _ _ (λ u v _ hv. rows_all test c.loop-y.y u v (λ e.
    let inside : v < c.h.result = rw height hv in
    let before = c.rows-first.ensures.past v inside (field_down c.args.field.now c.args.disc.now u v e).1 in
    omega (arith, before, c.loop-y-test.false)))
