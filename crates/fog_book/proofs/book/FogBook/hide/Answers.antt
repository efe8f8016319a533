use Rattle.std.proofs.Common.{false}
use Rattle.fog_book.specs.Rects.{with_rect}
use Rattle.fog_book.proofs.Changes.{changes_after}
use Rattle.fog_book.proofs.book.FogBook.hide.Goals as goal

pub returns-clause-sets : goal.returns-clause-sets
returns-clause-sets c = changes_after c.args.seat c.args.map (λ cells. with_rect cells c.args.rect false) c.args.self.now c.self.inside.players c.self.inside.sets.items c.set_rect_of.new.sets.items c.self.view_is c.set_rect_of.ensures
