use Rattle.tokens.proofs.TokenLemmas.{not_missing}
use Rattle.tokens.proofs.token_table.known_place_of.Goals as goal

pub unreachable-requires : goal.unreachable-requires
unreachable-requires c = not_missing c.args.id c.args.tokens.now c.requires c.in-None.ensures
