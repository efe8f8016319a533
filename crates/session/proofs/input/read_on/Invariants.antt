use Rattle.std.proofs.Common.{◌≤◌, []}
use Rattle.line_io.specs.Reader.{bytes_to_come}
use Rattle.session.specs.Inputs.{IsReaderOf, CamePast}
use Rattle.session.proofs.input.read_on.Given as goal

abbrev pub invariant-loop : goal.invariant-loop
invariant-loop g l = record {
  reader : IsReaderOf l.reader (g.I.Source.left l.input);
  past : CamePast [] (bytes_to_come l.fn.reader (g.I.Source.left l.fn.input)) (bytes_to_come l.reader (g.I.Source.left l.input));
  faults : g.I.Source.faults_of l.fn.input ≤ g.I.Source.faults_of l.input;
}
