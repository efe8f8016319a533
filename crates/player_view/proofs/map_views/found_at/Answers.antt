use Rattle.std.proofs.Common.{sym, ◌∙◌, ap}
use Rattle.std.specs.List.{position}
use Rattle.fog_book.specs.Exposures.{is_of}
use Rattle.player_view.proofs.FoundLemmas.{found_before}
use Rattle.player_view.proofs.map_views.found_at.Goals as goal

pub returns-in-Some : goal.returns-in-Some
returns-in-Some c =
    found_before (λ x. x.now) c.args.scene.now c.args.seat c.args.map.now c.args.seen.now c.in-Some.place _ c.requires.there c.requires.seen
    (sym
    (c.in-Some.ensures
    ∙ (λ i. position (is_of c.args.seat (c.name.ensures.value i)) ((c.sets.ensures ∙ ap (λ fog. fog.sets) c.fog.ensures.value) i))))
    c.get.ensures.lookup.0 c.get.ensures.lookup.1
