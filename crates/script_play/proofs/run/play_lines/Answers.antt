use Rattle.std.proofs.Common.{◌≡◌, ◌∷◌, [], ◌∙◌, ap, sym, subst, arith, true, false}
use Rattle.line_io.specs.declared.lines.NextLine.TheVariants.{Line, End, ReadFault as ReaderFault}
use Rattle.line_io.specs.ReaderState.{ReaderState}
use Rattle.campaign_law.specs.Law.{world_of}
use Rattle.script_play.specs.declared.run.Played.TheVariants.{Done, ReadFault, TooLarge, Memory}
use Rattle.script_play.specs.Script.{script_from}
use Rattle.script_play.specs.Played.{HasEntered, entries_since}
use Rattle.script_play.proofs.Fronts.{all_written, wrote_nothing}
use Rattle.script_play.proofs.AfterEntry.{stays, nothing_since}
use Rattle.script_play.proofs.LineRuns.{goes_both}
use Rattle.script_play.proofs.WholeRuns.{not_so, starts, goes_on_line, stops_at, done_at, too_long_at, fault_at, read_to_fault, memory_at, written_on, meets_end}
use Rattle.script_play.specs.declared.tally.Tally.{Tally}
use Rattle.script_play.specs.Played.{IsLineStop}
use Rattle.script_play.proofs.Counts.{adds_both, adds_nothing}
use Rattle.script_play.proofs.run.play_lines.Goals as goal

pub lines-init : goal.lines-init
lines-init g c =
    let old = c.args.campaign.now in
    record {
      campaign = stays old;
      quiet = c.requires.quiet;
      written = wrote_nothing Done (world_of old) _ _ (nothing_since old);
      came = starts old 4112 c.args.reader.now (g.S.Source.left c.args.script.now) c.requires.reader;
      at_end = λ h. let z : true ≡ false = sym h ∙ ap (λ (r : ReaderState). r.ended) c.requires.reader in cc;
      cap = ap (λ (r : ReaderState). r.cap) c.requires.reader;
      number = omega arith;
      counted = adds_nothing c.args.tally.now old;
      lines = let e = ap (λ (t : Tally). t.lines) c.requires.tally in omega (arith, e);
      refused = let e = ap (λ (t : Tally). t.refused) c.requires.tally in omega (arith, e);
      script_count = omega arith;
      out_count = omega arith;
    }

pub lines-preserved : goal.lines-preserved
lines-preserved g c =
    let old = c.args.campaign.now in
    let now = c.lines.campaign in
    let new = c.play_line.new.campaign in
    let inv = c.lines.invariant in
    let going : c.lines.reader.ended ≡ false = not_so c.lines.reader.ended (λ e. let z : Line c.in-Line.line ≡ End = (c.in-Line.ensures.stays_ended e).0 in cc) in
    let entered : HasEntered Done (script_from (world_of now) c.lines.number (c.in-Line.line ∷ [])) (entries_since now new) =
    c.in-Ok.ensures.entered in
    record {
      campaign = goes_both old now new inv.campaign c.in-Ok.ensures.campaign;
      quiet = c.in-Ok.ensures.waits;
      written = written_on Done old now new (g.O.Sink.written c.args.out.now) (g.O.Sink.written c.lines.out) (g.O.Sink.written c.play_line.new.out) inv.campaign c.in-Ok.ensures.campaign inv.written c.in-Ok.ensures.written;
      came = goes_on_line old now new c.lines.number c.lines.reader.cap c.lines.reader.ended c.next.new.self.ended c.in-Line.line _ _ _ inv.campaign c.in-Ok.ensures.campaign inv.came c.in-Line.ensures.answer going c.in-Line.ensures.reader.1 entered;
      at_end = meets_end c.lines.reader.ended c.next.new.self.ended (g.S.Source.left c.lines.script) (g.S.Source.left c.next.new.source) inv.at_end (λ e. ap g.S.Source.left (c.in-Line.ensures.stays_ended e).2) c.in-Line.ensures.met_end;
      cap = c.in-Line.ensures.cap ∙ inv.cap;
      number = omega (arith, c.in-Ok.ensures.few);
      counted = adds_both c.args.tally.now c.lines.tally c.play_line.new.tally old now new inv.campaign c.in-Ok.ensures.campaign inv.counted c.in-Ok.ensures.counted;
      lines = omega (arith, inv.lines, c.in-Ok.ensures.lines);
      refused = c.in-Ok.ensures.refused;
      script_count = omega (arith, inv.script_count, c.in-Line.ensures.count);
      out_count = omega (arith, inv.out_count, c.in-Ok.ensures.count);
    }

pub returns-in-End-clause-entered : goal.returns-in-End-clause-entered
returns-in-End-clause-entered g c = done_at c.args.campaign.now c.lines.campaign c.lines.number c.lines.reader.cap c.lines.reader.ended c.next.new.self _ _ _ c.lines.invariant.came c.in-End.ensures.answer

pub returns-in-TooLong-clause-entered : goal.returns-in-TooLong-clause-entered
returns-in-TooLong-clause-entered g c = too_long_at c.args.campaign.now c.lines.campaign c.lines.number c.lines.reader.cap c.lines.reader.ended c.next.new.self _ _ _ c.lines.invariant.cap c.lines.invariant.came c.in-TooLong.ensures.answer

pub returns-in-ReadFault-clause-entered : goal.returns-in-ReadFault-clause-entered
returns-in-ReadFault-clause-entered g c = fault_at c.args.campaign.now c.lines.campaign c.lines.number c.lines.reader.cap c.lines.reader.ended c.next.new.self _ _ _ c.lines.invariant.came c.in-ReadFault.ensures.answer

pub returns-in-ReadFault-clause-read : goal.returns-in-ReadFault-clause-read
returns-in-ReadFault-clause-read g c =
    let going : c.lines.reader.ended ≡ false = not_so c.lines.reader.ended (λ e. let z : ReaderFault ≡ End = (c.in-ReadFault.ensures.stays_ended e).0 in cc) in
    read_to_fault c.args.campaign.now c.lines.campaign c.lines.number c.lines.reader.cap c.lines.reader.ended c.next.new.self _ _ _ going c.in-ReadFault.ensures.reader.2 c.in-ReadFault.ensures.reader.1 c.lines.invariant.came c.in-ReadFault.ensures.answer

pub returns-in-Memory-clause-entered : goal.returns-in-Memory-clause-entered
returns-in-Memory-clause-entered g c = memory_at c.args.campaign.now c.lines.campaign c.lines.number c.lines.reader.cap c.lines.reader.ended c.next.new.self _ _ _ c.lines.invariant.came c.in-Memory.ensures.answer

pub returns-in-Memory-clause-written : goal.returns-in-Memory-clause-written
returns-in-Memory-clause-written g c = all_written Memory _ _ _ _ c.lines.invariant.written

pub returns-in-Err-clause-entered : goal.returns-in-Err-clause-entered
returns-in-Err-clause-entered g c =
    let now = c.lines.campaign in
    let new = c.play_line.new.campaign in
    let entered : HasEntered c.in-Err.stop (script_from (world_of now) c.lines.number (c.in-Line.line ∷ [])) (entries_since now new) =
    c.in-Err.ensures.entered in
    stops_at c.in-Err.stop c.args.campaign.now now new c.lines.number c.lines.reader.cap c.lines.reader.ended c.next.new.self c.in-Line.line _ _ _ c.in-Err.ensures.stop c.lines.invariant.campaign c.in-Err.ensures.campaign c.lines.invariant.came c.in-Line.ensures.answer entered

pub returns-in-Err-clause-written : goal.returns-in-Err-clause-written
returns-in-Err-clause-written g c =
    written_on c.in-Err.stop c.args.campaign.now c.lines.campaign c.play_line.new.campaign _ (g.O.Sink.written c.lines.out) _ c.lines.invariant.campaign c.in-Err.ensures.campaign c.lines.invariant.written c.in-Err.ensures.written

pub returns-in-TooLong-clause-written : goal.returns-in-TooLong-clause-written
returns-in-TooLong-clause-written g c = all_written TooLarge _ _ _ _ c.lines.invariant.written

pub returns-in-ReadFault-clause-written : goal.returns-in-ReadFault-clause-written
returns-in-ReadFault-clause-written g c = all_written ReadFault _ _ _ _ c.lines.invariant.written

pub returns-in-Err-clause-counted : goal.returns-in-Err-clause-counted
returns-in-Err-clause-counted g c = λ e. absurd (subst IsLineStop e c.in-Err.ensures.stop)
