use Rattle.std.proofs.Common.{rules, arith}
use Rattle.std.proofs.lemmas.Grind.{common_steps}
use Rattle.turn_lock.specs.Pass.{HasTurn}
use Rattle.turn_lock.specs.Seat.{known_of}
use Rattle.turn_lock.proofs.Places.{within-turn}
use Rattle.turn_lock.proofs.turns.turn.Goals as goal

pub returns-clause-within : goal.returns-clause-within
returns-clause-within g c =
    let entries = g.J.Job.entries c.args.job.now c.run_job-more.new.job in
    let turn : HasTurn (λ before after. Unit {0}) entries (known_of c.args.seat.now.me.0) (known_of c.pass_turn.new.seat.me.0) = record {
      found = c.take_turn.new.seat.me.0.front;
      begins = search rules;
      as_long = search rules;
      front_is = search rules;
      has_run = tt;
      own_is = grind (arith, common_steps);
      heard_is = search rules;
    } in
    within-turn (λ before after. Unit {0}) entries (known_of c.args.seat.now.me.0) (known_of c.pass_turn.new.seat.me.0) turn c.requires.resting.1
