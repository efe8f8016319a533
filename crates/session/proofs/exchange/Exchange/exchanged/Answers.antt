use Rattle.std.proofs.Common.{◌≡◌, ◌∙◌, true, false, sym}
use Rattle.session.proofs.exchange.Exchange.exchanged.Goals as goal

pub returns-then-not-is_held-clause-ran : goal.returns-then-not-is_held-clause-ran
returns-then-not-is_held-clause-ran c = record {
  held = λ entered. let z : true ≡ false = sym entered ∙ c.requires in absurd cc;
  finds = c.gone.ensures c.args.self.now.count;
}
