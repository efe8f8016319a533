use Rattle.std.proofs.Common.{rules, ◌≡◌, ◌+◌, All, [], ◌∷◌, ◌++◌, subst, sym, ap, ◌∙◌, refl, arith, append_assoc, length-append}
use Rattle.std.proofs.lemmas.List.Elements.{All-head, All-tail}
use Rattle.std.specs.Arc.{arc_value}
use Rattle.line_io.specs.Connections.{IsAtLeast}
use Rattle.turn_lock.proofs.Prefixes.{prefix_self, prefix_trans}
use Rattle.serving.specs.Guests.{IsGuestOf, sitting_in}
use Rattle.serving.specs.Runs.{IsSafeRun}
use Rattle.serving.proofs.PrintedLines.{fault_more}
use Rattle.serving.proofs.Gatherings.{gathered_none, gathered_more}
use Rattle.serving.proofs.gathering.gather_all.Goals as goal

pub loop-guest-init : goal.loop-guest-init
loop-guest-init g c =
    let given : c.args.guests.items ≡ c.into_iter-guest-iterator.result.rest.items = search rules in
    record {
      fit = c.requires.fit;
      pass = c.requires.pass;
      number_kept = refl;
      front = prefix_self c.args.pass.front;
      whole = given;
      guests = subst (All (IsGuestOf g.P.Spawner.work_of (arc_value c.args.hall.now))) given c.requires.guests;
      away = subst (λ l. IsAtLeast (sitting_in l) (g.L.Door.away c.args.door.now)) given c.requires.away;
      counted = refl;
      gathered = gathered_none g.P.Spawner.work_of (IsSafeRun g.L.Out.Outlet.safe g.L.In.Source.left g.L.Out.Sink.written g.L.In.Source.faults_of g.L.Out.Sink.faults_of) c.args.pass (g.L.Door.ended c.args.door.now) (g.O.Sink.written c.args.out.now);
      coming = refl;
      door_count = omega arith;
      started = refl;
      spawner_count = omega arith;
      out_count = omega arith;
      out_fault = λ no. absurd (cc no);
    }

pub gather_one-rest-requires-clause-guest : goal.gather_one-rest-requires-clause-guest
gather_one-rest-requires-clause-guest g c κs within =
    let P = IsGuestOf g.P.Spawner.work_of (arc_value c.args.hall.now) in
    All-head P c.in-Some.guest c.next.new.self.rest.items (subst (All P) c.in-Some.ensures.steps.0 c.loop-guest.invariant.guests)

pub loop-guest-preserved : goal.loop-guest-preserved
loop-guest-preserved g c =
    let P = IsGuestOf g.P.Spawner.work_of (arc_value c.args.hall.now) in
    let before = c.loop-guest.invariant in
    let steps = c.in-Some.ensures.steps.0 in
    let one = c.gather_one-rest.ensures in
    let told = c.print_line-printed.ensures in
    let rest = c.next.new.self.rest.items in
    record {
      fit = one.fit;
      pass = one.pass;
      number_kept = one.number ∙ before.number_kept;
      front = prefix_trans c.args.pass.front c.loop-guest.pass.front c.gather_one-rest.result.0.front before.front one.front;
      whole = before.whole ∙ ap (λ l. c.loop-guest.yielded ++ l) steps ∙ sym (append_assoc c.loop-guest.yielded (c.in-Some.guest ∷ []) rest);
      guests = All-tail P c.in-Some.guest rest (subst (All P) steps before.guests);
      away = one.away (sitting_in rest) (subst (λ l. IsAtLeast (sitting_in l) (g.L.Door.away c.loop-guest.door)) steps before.away);
      counted = ap (λ n. n + 1) before.counted ∙ sym (length-append c.loop-guest.yielded (c.in-Some.guest ∷ []));
      gathered = gathered_more g.P.Spawner.work_of (IsSafeRun g.L.Out.Outlet.safe g.L.In.Source.left g.L.Out.Sink.written g.L.In.Source.faults_of g.L.Out.Sink.faults_of) c.loop-guest.yielded c.in-Some.guest c.gather_one-rest.result.1 (c.loop-guest.number + 1)
          c.args.pass c.loop-guest.pass c.gather_one-rest.result.0 (g.L.Door.ended c.args.door.now) (g.L.Door.ended c.loop-guest.door) (g.L.Door.ended c.gather_one-rest.new.door) c.loop-guest.printed c.print_line-printed.result
          (g.O.Sink.written c.args.out.now) (g.O.Sink.written c.loop-guest.out) (g.O.Sink.written c.print_line-printed.new.out)
          before.gathered one.gathers one.front (let counted = before.counted in omega (arith, counted)) told.prints;
      coming = one.coming ∙ before.coming;
      door_count = let a = before.door_count in let b = one.door_count in omega (arith, a, b);
      started = one.started ∙ before.started;
      spawner_count = let a = before.spawner_count in let b = one.spawner_count in omega (arith, a, b);
      out_count = let a = before.out_count in let b = told.count in omega (arith, a, b);
      out_fault = fault_more c.loop-guest.printed c.print_line-printed.result (g.O.Sink.faults_of c.args.out.now) (g.O.Sink.faults_of c.loop-guest.out) (g.O.Sink.faults_of c.print_line-printed.new.out) before.out_fault before.out_count told.count told.failed;
    }
