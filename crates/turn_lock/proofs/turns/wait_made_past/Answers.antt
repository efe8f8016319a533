use Rattle.std.proofs.Common.{rules, ◌≤◌}
use Rattle.turn_lock.proofs.RuledSteps.{hears_again}
use Rattle.turn_lock.proofs.turns.wait_made_past.Goals as goal

pub loop-preserved : goal.loop-preserved
loop-preserved g c = let less : c.load_made-made.result ≤ c.args.known = c.if-made-known.false in record {
  table = search rules;
  heard = hears_again c.args.seat.now.me c.loop.seat.me c.load_made-made.new.seat.me c.load_made-made.result c.args.known less c.loop.invariant.heard c.load_made-made.ensures.view;
}
