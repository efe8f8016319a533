use Rattle.std.proofs.Common.{◌-◌, arith}
use Rattle.macro_parse.proofs.Scans.{no_name, name_begins, name_goes_on, name_stops}
use Rattle.macro_parse.proofs.atoms.name.Goals as goal

pub returns-in_default-clause-value : goal.returns-in_default-clause-value
returns-in_default-clause-value c = no_name c.args.cursor.now.rest.now c.letter.new.cursor.rest.now c.in_default.ensures.value

pub loop-place-init : goal.loop-place-init
loop-place-init c = record {
  name = rw (c.in_ok-push.ensures.items, c.new-name.ensures.items) (name_begins c.args.cursor.now.rest.now c.letter.new.cursor.rest.now c.in-Some.first c.in-Some.ensures.value);
  shrinks = c.letter.ensures.shrinks;
}

pub loop-place-preserved : goal.loop-place-preserved
loop-place-preserved c =
    record {
      name = rw c.in_ok-push-2.ensures.items (name_goes_on c.args.cursor.now.rest.now c.loop-place.cursor.rest.now c.name_byte.new.cursor.rest.now c.loop-place.name.items c.loop-place._place c.in-Some-name_byte.byte c.loop-place-test.true c.loop-place.invariant.name c.in-Some-name_byte.ensures.value);
      shrinks = omega (arith, c.name_byte.ensures.shrinks, c.loop-place.invariant.shrinks);
    }

pub returns-in_default-name_byte-clause-value : goal.returns-in_default-name_byte-clause-value
returns-in_default-name_byte-clause-value c = name_stops c.args.cursor.now.rest.now c.loop-place.cursor.rest.now c.name_byte.new.cursor.rest.now c.loop-place.name.items (23 - c.loop-place._place) c.loop-place.invariant.name c.in_default-name_byte.ensures.value
