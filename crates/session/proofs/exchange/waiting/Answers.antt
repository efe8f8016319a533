use Rattle.session.proofs.exchange.waiting.Goals as goal

pub returns-then-not-is_held : goal.returns-then-not-is_held
returns-then-not-is_held c = c.gone.ensures c.args.count
