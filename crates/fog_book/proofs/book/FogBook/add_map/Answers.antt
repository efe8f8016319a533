-- The sets of a new map stand in their place.
use Rattle.std.proofs.Common.{ap, ◌∙◌}
use Rattle.fog_book.proofs.Adding.{adds_after}
use Rattle.fog_book.proofs.Order.{if_ok, placed}
use Rattle.fog_book.specs.Exposures.{Fog, blank_sets, with_sets}
use Rattle.fog_book.proofs.book.FogBook.add_map.Goals as goal

pub returns-clause-value : goal.returns-clause-value
returns-clause-value c = if_ok c.insert_all.result
    (λ is. (λ i. record { players = c.self.inside.players; sets = placed c.args.map c.args.size c.self.inside.players c.place_for-place.result c.self.inside.sets.items _ _ _ c.deref.ensures.value c.place_for-place.ensures.place c.in_ok-fresh.ensures is i })
    ∙ ap (λ (f : Fog). record { players = f.players; sets = with_sets c.args.map (blank_sets f.players c.args.map c.args.size) f.sets }) c.self.view_is) c.insert_all.ensures.ok

pub returns-clause-sets : goal.returns-clause-sets
returns-clause-sets c = if_ok c.insert_all.result
    (λ is. adds_after c.args.map c.args.size c.args.self.now c.self.inside.players c.self.inside.sets.items _ c.self.view_is
    (placed c.args.map c.args.size c.self.inside.players c.place_for-place.result c.self.inside.sets.items _ _ _ c.deref.ensures.value c.place_for-place.ensures.place c.in_ok-fresh.ensures is)) c.insert_all.ensures.ok
