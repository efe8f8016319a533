use Rattle.std.proofs.Common.{List, is_some, ap, ◌∙◌}
use Rattle.tokens.specs.Tokens.{has_token}
use Rattle.tokens.specs.declared.token.Token.{Token}
use Rattle.tokens.proofs.TokenLemmas.{copied_too}
use Rattle.tokens.proofs.token_table.TokenTable.get.Goals as goal

pub returns-clause-there : goal.returns-clause-there
returns-clause-there c =
    copied_too c.find_token.result
    ∙ ap is_some c.find_token.ensures
    ∙ ap (λ (ts : List Token). has_token c.args.id ts) (c.deref.ensures.value ∙ c.self.view_is)
