use Rattle.std.proofs.Common.{◌<◌, List, length, ap, subst, ◌∙◌}
use Rattle.std.specs.List.{position_or_len}
use Rattle.fog_book.specs.declared.exposure.Exposure.{Exposure}
use Rattle.fog_book.specs.Exposures.{is_of, joined}
use Rattle.fog_book.proofs.Changes.{cells_at-at, changed_at-at}
use Rattle.fog_book.proofs.exposure.join_with.Goals as goal

pub join_with-requires : goal.join_with-requires
join_with-requires c = c.requires.size _ (cells_at-at c.args.seat c.args.map c.args.sets.now.items c.place_of-place.result c.index_mut-exposure.result.now
    (c.place_of-place.ensures.place ∙ ap (position_or_len (is_of c.args.seat c.args.map)) c.deref.ensures.value)
    (subst (λ (s : List Exposure). c.place_of-place.result < length s) c.deref.ensures.value c.place_of-place.ensures.bound) c.index_mut-exposure.ensures.value)

pub returns : goal.returns
returns c = changed_at-at (is_of c.args.seat c.args.map) (λ cells. joined cells c.args.seen.now) c.args.sets.now.items c.place_of-place.result c.index_mut-exposure.result.now _
    (c.place_of-place.ensures.place ∙ ap (position_or_len (is_of c.args.seat c.args.map)) c.deref.ensures.value)
    (subst (λ (s : List Exposure). c.place_of-place.result < length s) c.deref.ensures.value c.place_of-place.ensures.bound) c.index_mut-exposure.ensures.value c.join_with.ensures
