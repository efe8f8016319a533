use Rattle.macro_parse.proofs.Scans.{quote_opens, no_quote}
use Rattle.macro_parse.proofs.atoms.quoted.Goals as goal

pub loop-step-init : goal.loop-step-init
loop-step-init c = record {
  inside = rw c.new-text.ensures.items (quote_opens c.args.cursor.now.rest.now c.takes.new.self.rest.now c.if-not-takes.ensures.value);
  shrinks = c.takes.ensures.shrinks;
}

pub returns-then-not-takes-clause-value : goal.returns-then-not-takes-clause-value
returns-then-not-takes-clause-value c = no_quote c.args.cursor.now.rest.now c.takes.new.self.rest.now c.if-not-takes.ensures.value
