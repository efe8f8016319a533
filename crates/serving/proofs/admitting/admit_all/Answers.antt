use Rattle.std.proofs.Common.{◌+◌, ◌*◌, ◌∷◌, [], length, subst, sym, ap, ◌∙◌, arith, length-append}
use Rattle.std.specs.Arc.{arc_value}
use Rattle.serving.specs.Guests.{HasTaken, GotNewPasses, AdmitsByNewPasses, Admits}
use Rattle.serving.proofs.Admissions.{takes_stopped, takes_none, took_more, new_passes_below, new_passes_more, split_more}
use Rattle.serving.proofs.admitting.admit_all.Goals as goal

pub returns-in_default-clause-takes : goal.returns-in_default-clause-takes
returns-in_default-clause-takes g c =
    takes_none g.P.Spawner.work_of (arc_value c.args.hall.now) c.args.count c.new.result.items (g.L.Door.coming c.args.door.now) (g.L.Door.away c.args.door.now) (g.P.Spawner.started c.args.spawner.now) (g.P.Spawner.faults_of c.args.spawner.now) c.new.ensures.items

pub returns-in_default-clause-new : goal.returns-in_default-clause-new
returns-in_default-clause-new g c =
    let count = c.args.usher.now.count in
    subst (λ items. GotNewPasses g.P.Spawner.work_of count items count) (sym c.new.ensures.items) (omega arith)

pub returns-in-Stopped-clause-split : goal.returns-in-Stopped-clause-split
returns-in-Stopped-clause-split g c =
    split_more (arc_value c.args.hall.now) (2 * c.loop.counter) 2048 c.args.pass c.loop.pass c.admit-rest.result.0 c.args.usher.now c.loop.usher c.admit-rest.new.usher c.loop.invariant.split c.admit-rest.ensures.split (omega arith)

pub returns-in-Stopped-clause-takes : goal.returns-in-Stopped-clause-takes
returns-in-Stopped-clause-takes g c =
    takes_stopped g.P.Spawner.work_of (arc_value c.args.hall.now) c.in-Stopped.stop c.loop.counter c.args.count c.loop.guests.items _ _ _ _ _ _ _ _ _ _ _ _ c.loop.invariant.taken c.loop.invariant.long (omega arith) (subst (λ a. Admits g.P.Spawner.work_of (arc_value c.args.hall.now) a (g.L.Door.coming c.loop.door) (g.L.Door.coming c.admit-rest.new.door) (g.L.Door.away c.loop.door) (g.L.Door.away c.admit-rest.new.door) (g.P.Spawner.started c.loop.spawner) (g.P.Spawner.started c.admit-rest.new.spawner) (g.P.Spawner.faults_of c.loop.spawner) (g.P.Spawner.faults_of c.admit-rest.new.spawner)) c.in-Stopped.is c.admit-rest.ensures.admits)

pub returns-in-Stopped-clause-own : goal.returns-in-Stopped-clause-own
returns-in-Stopped-clause-own g c = c.admit-rest.ensures.own ∙ c.loop.invariant.own

pub returns-in-Stopped-clause-new : goal.returns-in-Stopped-clause-new
returns-in-Stopped-clause-new g c =
    new_passes_below g.P.Spawner.work_of c.args.usher.now.count c.loop.usher.count c.admit-rest.new.usher.count c.loop.guests.items c.loop.invariant.new c.admit-rest.ensures.split.rose

pub loop-preserved : goal.loop-preserved
loop-preserved g c = record {
  fit = c.admit-rest.ensures.fit;
  own = c.admit-rest.ensures.own ∙ c.loop.invariant.own;
  new =
      let guests = c.loop.guests.items in
      let guest = c.in-Taken.guest in
      subst (λ items. GotNewPasses g.P.Spawner.work_of c.args.usher.now.count items c.admit-rest.new.usher.count) (sym c.push_reserved.ensures.items)
      (new_passes_more g.P.Spawner.work_of c.args.usher.now.count c.loop.usher.count c.admit-rest.new.usher.count guests guest c.loop.invariant.new
      (subst (λ a. AdmitsByNewPasses g.P.Spawner.work_of c.loop.usher.count a c.admit-rest.new.usher.count) c.in-Taken.is c.admit-rest.ensures.new));
  split = split_more (arc_value c.args.hall.now) (2 * c.loop.counter) (2 * (c.loop.counter + 1)) c.args.pass c.loop.pass c.admit-rest.result.0 c.args.usher.now c.loop.usher c.admit-rest.new.usher c.loop.invariant.split c.admit-rest.ensures.split (omega arith);
  taken =
      let guests = c.loop.guests.items in
      let guest = c.in-Taken.guest in
      subst (λ items. HasTaken g.P.Spawner.work_of (arc_value c.args.hall.now) items [] (g.L.Door.coming c.args.door.now) (g.L.Door.coming c.admit-rest.new.door) (g.L.Door.away c.args.door.now) (g.L.Door.away c.admit-rest.new.door)
      (g.P.Spawner.started c.args.spawner.now) (g.P.Spawner.started c.admit-rest.new.spawner) (g.P.Spawner.faults_of c.args.spawner.now) (g.P.Spawner.faults_of c.admit-rest.new.spawner))
      (sym c.push_reserved.ensures.items)
      (took_more g.P.Spawner.work_of (arc_value c.args.hall.now) guests guest _ _ _ _ _ _ _ _ _ _ _ _ c.loop.invariant.taken
      (subst (λ a. Admits g.P.Spawner.work_of (arc_value c.args.hall.now) a (g.L.Door.coming c.loop.door) (g.L.Door.coming c.admit-rest.new.door) (g.L.Door.away c.loop.door) (g.L.Door.away c.admit-rest.new.door) (g.P.Spawner.started c.loop.spawner) (g.P.Spawner.started c.admit-rest.new.spawner) (g.P.Spawner.faults_of c.loop.spawner) (g.P.Spawner.faults_of c.admit-rest.new.spawner)) c.in-Taken.is c.admit-rest.ensures.admits));
  long = ap length c.push_reserved.ensures.items ∙ length-append c.loop.guests.items (c.in-Taken.guest ∷ []) ∙ ap (λ n. n + 1) c.loop.invariant.long;
  most = omega (arith, c.loop-test.true);
  room = let kept = c.push_reserved.ensures.capacity in let room = c.loop.invariant.room in omega (arith, kept, room);
  ended = c.admit-rest.ensures.ended ∙ c.loop.invariant.ended;
  door_count = let before = c.loop.invariant.door_count in let now = c.admit-rest.ensures.door_count in omega (arith, before, now);
}
