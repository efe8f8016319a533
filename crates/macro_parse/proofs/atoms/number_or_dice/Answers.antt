use Rattle.std.proofs.Common.{arith}
use Rattle.macro_parse.proofs.Scans.{nine_digits_small}
use Rattle.macro_parse.proofs.atoms.number_or_dice.Goals as goal

pub overflow_cast-number : goal.overflow_cast-number
overflow_cast-number c = let k = nine_digits_small c.args.cursor.now.rest.now c.number.new.self.rest.now c.in_ok-number.number c.in_ok-number.ensures.value (omega arith) in omega (arith, k)
