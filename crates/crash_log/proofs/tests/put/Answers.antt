use Rattle.std.proofs.Common.{[], ◌∷◌, ◌++◌}
use Rattle.crash_log.proofs.tests.put.Goals as goal

pub returns-in-Ok : goal.returns-in-Ok
returns-in-Ok g c = λ _. record {
  text = c.requires.text;
  entries = c.requires.entries ++ c.sample-entry.result ∷ [];
  holds = c.in-Ok.ensures.acknowledged tt c.requires.text c.requires.entries c.requires.holds;
}
