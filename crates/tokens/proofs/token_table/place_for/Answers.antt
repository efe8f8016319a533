use Rattle.tokens.proofs.TokenLemmas.{end_place}
use Rattle.tokens.specs.Tokens.{is_behind}
use Rattle.tokens.proofs.token_table.place_for.Goals as goal

pub returns-in-None-clause-place : goal.returns-in-None-clause-place
returns-in-None-clause-place c = end_place (is_behind c.args.id) c.args.tokens.now c.in-None.ensures
