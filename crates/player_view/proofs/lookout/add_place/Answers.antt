use Rattle.std.proofs.Common.{◌∙◌, ◌++◌, ◌∷◌, [], sym, ap, cond, append-nil}
use Rattle.player_view.specs.Lookouts.{places_among}
use Rattle.player_view.proofs.SightLemmas.{places_next}
use Rattle.player_view.proofs.lookout.add_place.Goals as goal

pub returns-in_ok-push_place : goal.returns-in_ok-push_place
returns-in_ok-push_place c =
    c.in_ok-push_place.ensures ∙ ap (λ ps. ps ++ c.args.place ∷ []) c.requires.so_far
    ∙ ap (λ b. places_among c.args.scene.now c.args.name c.args.place ++ cond b (c.args.place ∷ []) []) c.if-eq.ensures
    ∙ sym (places_next c.args.scene.now c.args.name c.args.place c.token_at.result.now c.token_at.ensures.value)

pub returns-else-eq : goal.returns-else-eq
returns-else-eq c =
    c.requires.so_far ∙ sym (append-nil (places_among c.args.scene.now c.args.name c.args.place))
    ∙ ap (λ b. places_among c.args.scene.now c.args.name c.args.place ++ cond b (c.args.place ∷ []) []) c.if-eq.ensures
    ∙ sym (places_next c.args.scene.now c.args.name c.args.place c.token_at.result.now c.token_at.ensures.value)
