use Rattle.std.proofs.Common.{length, take, ap, sym, subst, arith, length-append}
use Rattle.std.specs.List.{flat_map}
use Rattle.std.proofs.lemmas.List.Elements.{All-get_or, All-more}
use Rattle.std.proofs.lemmas.List.Folds.{length-flat_map-take}
use Rattle.campaign_law.specs.declared.entry.Entry.{Entry}
use Rattle.crash_log.specs.Entries.{IsShort, Fits}
use Rattle.crash_log.specs.Log.{record_bytes}
use Rattle.crash_log.proofs.Crash.{records_more, length-record}
use Rattle.crash_log.proofs.entry_bytes.gate_behind.Goals as goal

pub returns-then-next-ge-GATE_LIMIT-clause-full : goal.returns-then-next-ge-GATE_LIMIT-clause-full
returns-then-next-ge-GATE_LIMIT-clause-full c = λ none.
    let e = c.entry-item.result in
    omega (
      arith,
      c.if-next-ge-GATE_LIMIT.true,
      c.loop-entry.invariant.place,
      c.entry_size.ensures.size,
      length-record e,
      length-flat_map-take record_bytes c.args.entries.now c.loop-entry.entry-index e c.loop-entry-test.true,
      ap (λ (x : Entry). length (record_bytes x)) c.entry-item.is,
    )

pub loop-entry-preserved : goal.loop-entry-preserved
loop-entry-preserved c =
    let es = c.args.entries.now in
    let e = c.entry-item.result in
    let i = c.loop-entry.entry-index in
    let fits : Fits e = record { range = c.entry_size.ensures.range; short = subst IsShort (sym c.entry-item.is) (All-get_or IsShort es i e c.loop-entry-test.true c.requires.short) } in
    record {
      place = omega (
        arith,
        c.loop-entry.invariant.place,
        c.entry_size.ensures.size,
        length-record e,
        ap length (records_more es i e c.loop-entry-test.true c.entry-item.is),
        length-append (flat_map record_bytes (take i es)) (record_bytes e),
      );
      low = c.if-next-ge-GATE_LIMIT.false;
      fit = All-more Fits es i e c.loop-entry-test.true c.loop-entry.invariant.fit (subst Fits c.entry-item.is fits);
    }
