use Rattle.std.proofs.Common.{◌+◌, sym, length, drop, List, ℕ, arith, subst}
use Rattle.crash_log.specs.Reading.{IsReadTo, HasRecord}
use Rattle.campaign_law.specs.declared.entry.Entry.{Entry}
use Rattle.crash_log.proofs.GateBytes.{none_read, then_read}
use Rattle.crash_log.proofs.Walk.{walk_start, walk_on}
use Rattle.crash_log.proofs.recovery.read_records.Goals as goal

pub records-init : goal.records-init
records-init g c = record {
  low = omega (arith, c.requires.short);
  only_read = λ told. none_read g.K.Disk.seen g.K.Disk.may_leave g.K.Disk.moment g.K.Disk.left_since c.args.disk.now (g.met.K.Disk.only_now c.args.disk.now);
  so_far = λ told. subst (λ (es : List Entry). IsReadTo (g.K.Disk.seen c.args.disk.now) c.args.text.now es (10 + length c.args.text.now)) (sym c.new-entries.ensures.items)
      (walk_start (g.K.Disk.seen c.args.disk.now) c.args.text.now (c.requires.head told));
  count = omega arith;
}

pub records-preserved : goal.records-preserved
records-preserved g c =
    let inv = c.records.invariant in
    let file = g.K.Disk.seen c.args.disk.now in
    let on = rw c.in-Some.is at c.in_ok-read_record.ensures.on in
    record {
      low = omega (arith, on, c.if-gate-ge-GATE_LIMIT.false);
      only_read = λ told. then_read g.K.Disk.seen g.K.Disk.may_leave g.K.Disk.moment g.K.Disk.left_since c.args.disk.now c.records.disk c.read_record.new.disk (inv.only_read told) (c.read_record.ensures.read told);
      so_far = λ told.
          let shut = c.in_ok-read_record.ensures.shut told in
          let next = c.in_ok-read_record.ensures.next told in
          let there = rw c.in-Some.is at shut in
          let next_is = rw c.in-Some.is at next in
          subst (λ (es : List Entry). IsReadTo file c.args.text.now es c.in-Some.next) (sym c.in_ok-pushed-in-Some.ensures)
          (walk_on file c.args.text.now c.records.entries.items c.records.gate (inv.so_far told) c.in-Some.entry c.in-Some.next c.if-gate-ge-GATE_LIMIT.false
          (subst (λ (f : List ℕ). HasRecord (drop c.records.gate f) c.in-Some.entry) (inv.only_read told).stays.seen_same there) next_is);
      count = omega (arith, inv.count, c.read_record.ensures.count);
    }
