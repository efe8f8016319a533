use Rattle.std.proofs.Common.{◌≡◌, ◌&&◌, ◌<◌, not, nat_eq, nat_lt, ap, sym, ◌∙◌}
use Rattle.std.specs.Prelude.{nat_le, slice_index}
use Rattle.cells.specs.Cells.{Extent, has, has_column}
use Rattle.vision.specs.Common.{is_in_disc}
use Rattle.vision.proofs.AddingLemmas.{with_same}
use Rattle.vision.proofs.SpanLemmas.{in_both_spans_but}
use Rattle.vision.proofs.seen.add_shared_row.Goals as goal

pub returns : goal.returns
returns c =
    let width : c.w-width.result ≡ c.args.out.now.extent.w = c.w-width.ensures.value ∙ ap (λ (s : Extent). s.w) c.size.ensures.value in
    let word = slice_index c.args.put_out.now c.args.y in
    c.join_common_but.ensures
    ∙ with_same c.args.out.now
    (λ u v. nat_eq v c.args.y && nat_le c.max-first.result u && nat_lt u c.min-past.result && has c.args.own.now u v && has c.args.field.now u v && not (has_column word u)) _
    (λ u v hu hv.
    let inside : u < c.w-width.result = rw width hu in
    (λ i. nat_eq v c.args.y && nat_le (c.max-first.ensures i) u && nat_lt u (c.min-past.ensures i) && has c.args.own.now u v && has c.args.field.now u v && not (has_column word u))
    ∙ in_both_spans_but c.args.y u v c.span-range_first.result.0 c.span-range_first.result.1 c.span-light_first.result.0 c.span-light_first.result.1
    (has c.args.own.now u v) (has c.args.field.now u v) (is_in_disc c.args.range.now u v) (is_in_disc c.args.light.now u v)
    (not (has_column word u)) (not (has_column (slice_index c.args.put_out.now v) u))
    (λ e. c.span-range_first.ensures.cells u inside ∙ ap (λ n. is_in_disc c.args.range.now u n) (sym e))
    (λ e. c.span-light_first.ensures.cells u inside ∙ ap (λ n. is_in_disc c.args.light.now u n) (sym e))
    (λ e. ap (λ n. not (has_column (slice_index c.args.put_out.now n) u)) (sym e)))
