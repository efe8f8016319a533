use Rattle.std.proofs.Common.{◌<◌, List, length, ap, subst, ◌∙◌}
use Rattle.std.specs.List.{position_or_len}
use Rattle.fog_book.specs.declared.exposure.Exposure.{Exposure}
use Rattle.fog_book.specs.Exposures.{is_of}
use Rattle.fog_book.specs.Rects.{with_rect}
use Rattle.fog_book.proofs.Changes.{changed_at-at}
use Rattle.fog_book.proofs.exposure.set_rect_of.Goals as goal

pub returns : goal.returns
returns c = changed_at-at (is_of c.args.seat c.args.map) (λ cells. with_rect cells c.args.rect c.args.shown) c.args.sets.now.items c.place_of-place.result c.index_mut-exposure.result.now _
    (c.place_of-place.ensures.place ∙ ap (position_or_len (is_of c.args.seat c.args.map)) c.deref.ensures.value)
    (subst (λ (s : List Exposure). c.place_of-place.result < length s) c.deref.ensures.value c.place_of-place.ensures.bound) c.index_mut-exposure.ensures.value c.set_rect.ensures
