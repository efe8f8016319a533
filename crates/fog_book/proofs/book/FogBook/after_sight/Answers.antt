use Rattle.fog_book.specs.Exposures.{joined}
use Rattle.fog_book.proofs.Changes.{changes_after}
use Rattle.fog_book.proofs.book.FogBook.after_sight.Goals as goal

pub returns-clause-sets : goal.returns-clause-sets
returns-clause-sets c = changes_after c.args.seat c.args.map (λ cells. joined cells c.args.seen.now) c.args.self.now c.self.inside.players c.self.inside.sets.items c.join_with.new.sets.items c.self.view_is c.join_with.ensures
