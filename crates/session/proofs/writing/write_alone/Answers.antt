use Rattle.std.proofs.Common.{rules, refl, ap}
use Rattle.std.specs.Prelude.{Some}
use Rattle.session.proofs.writing.write_alone.Goals as goal

pub returns-clause-hall : goal.returns-clause-hall
returns-clause-hall g c = let f = c.write_begun-side.ensures.written.1.hall in search rules

pub returns-clause-written : goal.returns-clause-written
returns-clause-written g c = let f = c.write_begun-side.ensures.written.1.ended c.write_begun-side.result.wrote refl in search rules

pub returns-clause-safe : goal.returns-clause-safe
returns-clause-safe g c = let f = c.write_begun-side.ensures.written.1.safe in search rules

pub returns-clause-count : goal.returns-clause-count
returns-clause-count g c = let f = c.write_begun-side.ensures.written.1.faults_rose in search rules

pub returns-clause-write_fault : goal.returns-clause-write_fault
returns-clause-write_fault g c fault = let f = c.write_begun-side.ensures.written.1.write_fault (ap Some fault) in search rules
