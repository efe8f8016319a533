use Rattle.std.proofs.Common.{◌<◌, List, length, ap, subst, sym, ◌∙◌}
use Rattle.std.specs.List.{position_or_len}
use Rattle.fog_book.specs.declared.exposure.Exposure.{Exposure}
use Rattle.fog_book.specs.Exposures.{Fog, is_of, exposed_of}
use Rattle.fog_book.proofs.Changes.{cells_at-at}
use Rattle.fog_book.proofs.book.FogBook.exposed.Goals as goal

pub returns : goal.returns
returns c = ap (λ (f : Fog). exposed_of f c.args.seat c.args.map) (sym c.self.view_is) ∙ cells_at-at c.args.seat c.args.map c.self.inside.sets.items c.place_of-place.result c.index.result.now
    (c.place_of-place.ensures.place ∙ ap (position_or_len (is_of c.args.seat c.args.map)) c.deref.ensures.value)
    (subst (λ (s : List Exposure). c.place_of-place.result < length s) c.deref.ensures.value c.place_of-place.ensures.bound) c.index.ensures
