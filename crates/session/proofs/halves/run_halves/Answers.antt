use Rattle.std.proofs.Common.{rules, refl, ap}
use Rattle.std.specs.Prelude.{Some}
use Rattle.session.proofs.halves.run_halves.Goals as goal

pub returns-clause-writing : goal.returns-clause-writing
returns-clause-writing g c = let f = c.run_begun-sides.ensures.written.1.hall in search rules

pub returns-clause-written : goal.returns-clause-written
returns-clause-written g c = let f = c.run_begun-sides.ensures.written.1.ended c.run_begun-sides.result.wrote refl in search rules

pub returns-clause-safe : goal.returns-clause-safe
returns-clause-safe g c = let f = c.run_begun-sides.ensures.written.1.safe in search rules

pub returns-clause-output_count : goal.returns-clause-output_count
returns-clause-output_count g c = let f = c.run_begun-sides.ensures.written.1.faults_rose in search rules

pub returns-clause-write_fault : goal.returns-clause-write_fault
returns-clause-write_fault g c fault = let f = c.run_begun-sides.ensures.written.1.write_fault (ap Some fault) in search rules
