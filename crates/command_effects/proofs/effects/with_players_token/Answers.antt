use Rattle.std.proofs.Common.{true, ◌∙◌, sym, ap, subst}
use Rattle.tokens.specs.declared.token.Token.{Token}
use Rattle.tokens.specs.Tokens.{has_token}
use Rattle.tokens.specs.Owners.{with_owner}
use Rattle.command_effects.specs.Allowed.{MayStand}
use Rattle.command_effects.proofs.Allowed.{players_token_belongs}
use Rattle.command_effects.proofs.effects.with_players_token.Goals as goal

pub with_new-requires-clause-absent : goal.with_new-requires-clause-absent
with_new-requires-clause-absent c = ap (λ (t : Token). has_token t.id c.args.scene.now.tokens) c.in_ok-token.ensures ∙ c.requires.absent

pub with_new-requires-clause-fitting : goal.with_new-requires-clause-fitting
with_new-requires-clause-fitting c = players_token_belongs c.args.scene.now c.in_ok-token.token c.args.seat c.args.place
    (subst (λ (t : Token). MayStand c.args.scene.now t.map t.size c.args.place) (sym c.in_ok-token.ensures) c.requires.stands)
    c.requires.player
    (ap (λ (t : Token). t.cell) c.in_ok-token.ensures ∙ c.cell_on-cell.ensures)
    (ap (λ (t : Token). t.sight) c.in_ok-token.ensures)
    (ap (λ (t : Token). t.light) c.in_ok-token.ensures)
    (ap (λ (t : Token). t.owners) c.in_ok-token.ensures ∙ c.with-owners.ensures.value ∙ ap (λ none. with_owner none c.args.seat true) c.none.ensures)
