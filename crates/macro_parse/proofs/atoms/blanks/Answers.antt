use Rattle.std.proofs.Common.{arith}
use Rattle.macro_parse.proofs.Scans.{skips_more}
use Rattle.macro_parse.proofs.atoms.blanks.Goals as goal

pub loop-preserved : goal.loop-preserved
loop-preserved c = ((λ r h. c.loop.invariant.0 r (skips_more c.loop.cursor.rest.now c.takes.new.self.rest.now r c.loop-test.ensures.value h)), omega arith)
