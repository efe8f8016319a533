use Rattle.std.proofs.Common.{◌≡◌, ◌&&◌, ◌<◌, nat_eq, nat_lt, ap, sym, ◌∙◌}
use Rattle.std.specs.Prelude.{nat_le}
use Rattle.cells.specs.Cells.{Extent, has}
use Rattle.vision.specs.Common.{is_in_disc}
use Rattle.vision.proofs.AddingLemmas.{with_same}
use Rattle.vision.proofs.SpanLemmas.{in_span}
use Rattle.vision.proofs.seen.add_span.Goals as goal

pub returns : goal.returns
returns c =
    let width : c.w-width.result ≡ c.args.out.now.extent.w = c.w-width.ensures.value ∙ ap (λ (s : Extent). s.w) c.size.ensures.value in
    c.join_common.ensures
    ∙ with_same c.args.out.now
    (λ u v. nat_eq v c.args.y && nat_le c.span-first.result.0 u && nat_lt u c.span-first.result.1 && has c.args.field.now u v && has c.args.field.now u v) _
    (λ u v hu hv.
    let inside : u < c.w-width.result = rw width hu in
    in_span c.args.y u v c.span-first.result.0 c.span-first.result.1 (has c.args.field.now u v) (is_in_disc c.args.disc.now u v)
    (λ e. c.span-first.ensures.cells u inside ∙ ap (λ n. is_in_disc c.args.disc.now u n) (sym e)))
