use Rattle.std.proofs.Common.{arith}
use Rattle.macro_parse.proofs.Comparing.{at_most, at_least, below, above}
use Rattle.macro_parse.proofs.levels.compare_operator.Goals as goal

pub returns-in-60-clause-value : goal.returns-in-60-clause-value
returns-in-60-clause-value c = at_most c.in-Some.first.now c.args.cursor.now.rest.now c.in-Some.rest.now c.takes.new.self.rest.now c.in-Some.ensures.cases.0 c.in-60.is c.if-takes.ensures.value

pub returns-in_default-first-clause-value : goal.returns-in_default-first-clause-value
returns-in_default-first-clause-value c = at_least c.in-Some.first.now c.args.cursor.now.rest.now c.in-Some.rest.now c.takes.new.self.rest.now c.in-Some.ensures.cases.0 (omega arith) c.if-takes.ensures.value

pub returns-in-60-first-clause-value : goal.returns-in-60-first-clause-value
returns-in-60-first-clause-value c = below c.in-Some.first.now c.args.cursor.now.rest.now c.in-Some.rest.now c.takes.new.self.rest.now c.in-Some.ensures.cases.0 c.in-60-first.is c.if-takes.ensures.value

pub returns-in-62-clause-value : goal.returns-in-62-clause-value
returns-in-62-clause-value c = above c.in-Some.first.now c.args.cursor.now.rest.now c.in-Some.rest.now c.takes.new.self.rest.now c.in-Some.ensures.cases.0 c.in-62.is c.if-takes.ensures.value
