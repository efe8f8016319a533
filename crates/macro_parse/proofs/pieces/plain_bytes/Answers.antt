use Rattle.std.proofs.Common.{arith}
use Rattle.macro_parse.proofs.PiecesFound.{plain_goes_on}
use Rattle.macro_parse.proofs.pieces.plain_bytes.Goals as goal

pub loop-text-preserved : goal.loop-text-preserved
loop-text-preserved c =
    let e = rw c.in-Some.is at c.in_ok-byte.ensures.step in
    record {
      told = rw c.in-Ok.ensures.items (plain_goes_on c.args.cursor.now.rest.now c.loop-text.text.items c.loop-text.cursor.rest.now c.plain_byte.new.cursor.rest.now c.in-Some.byte c.loop-text.invariant.told e);
      shrinks = omega (arith, c.plain_byte.ensures.shrinks, c.loop-text.invariant.shrinks);
    }
