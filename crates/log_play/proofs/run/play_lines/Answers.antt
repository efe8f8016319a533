use Rattle.std.proofs.Common.{◌≡◌, ◌++◌, ◌∷◌, [], ◌∙◌, ap, sym, subst, refl, arith, true, false, List, ℕ}
use Rattle.line_io.specs.declared.lines.NextLine.TheVariants.{Line, End, ReadFault as ReaderFault}
use Rattle.line_io.specs.ReaderState.{ReaderState}
use Rattle.campaign_law.specs.declared.entry.Entry.{Entry}
use Rattle.campaign_law.specs.Law.{world_of}
use Rattle.script_play.specs.declared.run.Played.TheVariants.{Done, ReadFault, TooLarge, Memory}
use Rattle.script_play.specs.Script.{Script, script_from, script_of}
use Rattle.script_play.specs.Played.{HasEntered, HasRead, IsLineStop, IsPrefix, entries_since}
use Rattle.script_play.proofs.Fronts.{all_written, wrote_nothing}
use Rattle.script_play.proofs.AfterEntry.{stays, nothing_since}
use Rattle.script_play.proofs.LineRuns.{goes_both, since_all}
use Rattle.script_play.proofs.Reading.{told_weaker}
use Rattle.script_play.proofs.WholeRuns.{not_so, starts, goes_on_line, stops_at, done_at, too_long_at, fault_at, read_to_fault, read_somehow, read_stop, memory_at, written_on, meets_end}
use Rattle.log_play.specs.declared.logged.Logged.{Logged}
use Rattle.log_play.specs.declared.logged.Logged.TheVariants as logged
use Rattle.log_play.specs.Logged.{as_played}
use Rattle.log_play.specs.Kept.{HasNoRoom, Keeps}
use Rattle.log_play.proofs.KeptLemmas.{keeps_then, keeps_same, keeps_wider, keeps_nothing, still_disks, room_behind, room_wider}
use Rattle.log_play.proofs.Whole.{entered_fronts, line_fronts}
use Rattle.log_play.proofs.run.play_lines.Goals as goal

pub lines-init : goal.lines-init
lines-init g c =
    let old = c.args.campaign.now in
    record {
      campaign = stays old;
      quiet = c.requires.quiet;
      written = wrote_nothing Done (world_of old) _ _ (nothing_since old);
      came = starts old 4112 c.args.reader.now (g.S.Source.left c.args.script.now) c.requires.reader;
      at_end = λ h. let z : true ≡ false = sym h ∙ ap (λ (r : ReaderState). r.ended) c.requires.reader in cc;
      cap = ap (λ (r : ReaderState). r.cap) c.requires.reader;
      number = omega arith;
      log = λ told. keeps_same g.K.Disk.seen g.K.Disk.may_leave g.K.Disk.moment g.K.Disk.left_since logged.Done (entries_since old old) (entries_since old old) [] (entries_since old old) c.args.disk.now c.args.disk.now c.args.journal.now c.args.journal.now refl (sym (nothing_since old))
          (keeps_nothing g.K.Disk.seen g.K.Disk.may_leave g.K.Disk.moment g.K.Disk.left_since logged.Done (entries_since old old) [] c.args.disk.now c.args.journal.now (nothing_since old) (g.met.K.Disk.only_now c.args.disk.now));
      script_count = omega arith;
      out_count = omega arith;
      disk_count = omega arith;
    }

pub play_line-requires-clause-journal : goal.play_line-requires-clause-journal
play_line-requires-clause-journal g c = λ told.
    let since : List Entry = entries_since c.args.campaign.now c.lines.campaign in
    still_disks g.K.Disk.seen g.K.Disk.may_leave g.K.Disk.moment g.K.Disk.left_since since since c.args.disk.now c.lines.disk c.args.journal.now c.lines.journal (c.requires.journal told) (c.lines.invariant.log told)

pub lines-preserved : goal.lines-preserved
lines-preserved g c =
    let old = c.args.campaign.now in
    let now = c.lines.campaign in
    let new = c.play_line.new.campaign in
    let inv = c.lines.invariant in
    let before : List Entry = entries_since old now in
    let more : List Entry = entries_since now new in
    let going : c.lines.reader.ended ≡ false = not_so c.lines.reader.ended (λ e. let z : Line c.in-Line.line ≡ End = (c.in-Line.ensures.stays_ended e).0 in cc) in
    let entered : HasEntered Done (script_from (world_of now) c.lines.number (c.in-Line.line ∷ [])) more = c.in-Ok.ensures.entered in
    let all : before ++ more ≡ entries_since old new = sym (since_all old now new inv.campaign c.in-Ok.ensures.campaign) in
    record {
      campaign = goes_both old now new inv.campaign c.in-Ok.ensures.campaign;
      quiet = c.in-Ok.ensures.waits;
      written = written_on Done old now new (g.O.Sink.written c.args.out.now) (g.O.Sink.written c.lines.out) (g.O.Sink.written c.play_line.new.out) inv.campaign c.in-Ok.ensures.campaign inv.written c.in-Ok.ensures.written;
      came = goes_on_line old now new c.lines.number c.lines.reader.cap c.lines.reader.ended c.next.new.self.ended c.in-Line.line _ _ _ inv.campaign c.in-Ok.ensures.campaign inv.came c.in-Line.ensures.answer going c.in-Line.ensures.reader.1 entered;
      at_end = meets_end c.lines.reader.ended c.next.new.self.ended (g.S.Source.left c.lines.script) (g.S.Source.left c.next.new.source) inv.at_end (λ e. ap g.S.Source.left (c.in-Line.ensures.stays_ended e).2) c.in-Line.ensures.met_end;
      cap = c.in-Line.ensures.cap ∙ inv.cap;
      number = omega (arith, c.in-Ok.ensures.few);
      log = λ told.
          keeps_same g.K.Disk.seen g.K.Disk.may_leave g.K.Disk.moment g.K.Disk.left_since logged.Done (before ++ more) (entries_since old new) (before ++ more) (entries_since old new) c.args.disk.now c.play_line.new.disk c.args.journal.now c.play_line.new.journal all all
          (keeps_then g.K.Disk.seen g.K.Disk.may_leave g.K.Disk.moment g.K.Disk.left_since logged.Done before more more c.args.disk.now c.lines.disk c.play_line.new.disk c.args.journal.now c.lines.journal c.play_line.new.journal (inv.log told)
          (keeps_same g.K.Disk.seen g.K.Disk.may_leave g.K.Disk.moment g.K.Disk.left_since logged.Done more more (script_from (world_of now) c.lines.number (c.in-Line.line ∷ [])).entries more c.lines.disk c.play_line.new.disk c.lines.journal c.play_line.new.journal refl (ap (λ (s : Script). s.entries) entered) (c.in-Ok.ensures.log told)));
      script_count = omega (arith, inv.script_count, c.in-Line.ensures.count);
      out_count = omega (arith, inv.out_count, c.in-Ok.ensures.out_count);
      disk_count = omega (arith, inv.disk_count, c.in-Ok.ensures.disk_count);
    }

pub returns-in-End-clause-entered : goal.returns-in-End-clause-entered
returns-in-End-clause-entered g c = done_at c.args.campaign.now c.lines.campaign c.lines.number c.lines.reader.cap c.lines.reader.ended c.next.new.self _ _ _ c.lines.invariant.came c.in-End.ensures.answer

pub returns-in-TooLong-clause-entered : goal.returns-in-TooLong-clause-entered
returns-in-TooLong-clause-entered g c = too_long_at c.args.campaign.now c.lines.campaign c.lines.number c.lines.reader.cap c.lines.reader.ended c.next.new.self _ _ _ c.lines.invariant.cap c.lines.invariant.came c.in-TooLong.ensures.answer

pub returns-in-ReadFault-clause-entered : goal.returns-in-ReadFault-clause-entered
returns-in-ReadFault-clause-entered g c = fault_at c.args.campaign.now c.lines.campaign c.lines.number c.lines.reader.cap c.lines.reader.ended c.next.new.self _ _ _ c.lines.invariant.came c.in-ReadFault.ensures.answer

pub returns-in-ReadFault-clause-read : goal.returns-in-ReadFault-clause-read
returns-in-ReadFault-clause-read g c =
    let going : c.lines.reader.ended ≡ false = not_so c.lines.reader.ended (λ e. let z : ReaderFault ≡ End = (c.in-ReadFault.ensures.stays_ended e).0 in cc) in
    read_to_fault c.args.campaign.now c.lines.campaign c.lines.number c.lines.reader.cap c.lines.reader.ended c.next.new.self _ _ _ going c.in-ReadFault.ensures.reader.2 c.in-ReadFault.ensures.reader.1 c.lines.invariant.came c.in-ReadFault.ensures.answer

pub returns-in-Memory-clause-entered : goal.returns-in-Memory-clause-entered
returns-in-Memory-clause-entered g c = memory_at c.args.campaign.now c.lines.campaign c.lines.number c.lines.reader.cap c.lines.reader.ended c.next.new.self _ _ _ c.lines.invariant.came c.in-Memory.ensures.answer

pub returns-in-Memory-clause-written : goal.returns-in-Memory-clause-written
returns-in-Memory-clause-written g c = all_written Memory _ _ _ _ c.lines.invariant.written

pub returns-in-TooLong-clause-written : goal.returns-in-TooLong-clause-written
returns-in-TooLong-clause-written g c = all_written TooLarge _ _ _ _ c.lines.invariant.written

pub returns-in-ReadFault-clause-written : goal.returns-in-ReadFault-clause-written
returns-in-ReadFault-clause-written g c = all_written ReadFault _ _ _ _ c.lines.invariant.written

pub returns-in-End-clause-log : goal.returns-in-End-clause-log
returns-in-End-clause-log g c = λ told text before holds.
    let old = c.args.campaign.now in
    let since : List Entry = entries_since old c.lines.campaign in
    let kept = c.lines.invariant.log told text before holds in
    let here : Keeps g.K.Disk.seen g.K.Disk.may_leave g.K.Disk.moment g.K.Disk.left_since logged.Done text before since since c.args.disk.now c.lines.disk c.lines.journal = record { any_moment = kept.any_moment; kept = kept.kept; holds = kept.holds } in
    told_weaker (λ all rest. IsPrefix since (script_of (world_of old) all).entries) _ _ _
    (entered_fronts Done (world_of old) since _ _ (done_at c.args.campaign.now c.lines.campaign c.lines.number c.lines.reader.cap c.lines.reader.ended c.next.new.self _ _ _ c.lines.invariant.came c.in-End.ensures.answer))
    (λ all rest p. keeps_wider g.K.Disk.seen g.K.Disk.may_leave g.K.Disk.moment g.K.Disk.left_since logged.Done text before since since (script_of (world_of old) all).entries c.args.disk.now c.lines.disk c.lines.journal p here)

pub returns-in-End-clause-holds : goal.returns-in-End-clause-holds
returns-in-End-clause-holds g c = λ told text before holds. (c.lines.invariant.log told text before holds).holds

pub returns-in-TooLong-clause-log : goal.returns-in-TooLong-clause-log
returns-in-TooLong-clause-log g c = λ told text before holds.
    let old = c.args.campaign.now in
    let since : List Entry = entries_since old c.lines.campaign in
    let kept = c.lines.invariant.log told text before holds in
    let here : Keeps g.K.Disk.seen g.K.Disk.may_leave g.K.Disk.moment g.K.Disk.left_since logged.TooLarge text before since since c.args.disk.now c.lines.disk c.lines.journal = record { any_moment = kept.any_moment; kept = kept.kept; holds = kept.holds } in
    told_weaker (λ all rest. IsPrefix since (script_of (world_of old) all).entries) _ _ _
    (entered_fronts TooLarge (world_of old) since _ _ (too_long_at c.args.campaign.now c.lines.campaign c.lines.number c.lines.reader.cap c.lines.reader.ended c.next.new.self _ _ _ c.lines.invariant.cap c.lines.invariant.came c.in-TooLong.ensures.answer))
    (λ all rest p. keeps_wider g.K.Disk.seen g.K.Disk.may_leave g.K.Disk.moment g.K.Disk.left_since logged.TooLarge text before since since (script_of (world_of old) all).entries c.args.disk.now c.lines.disk c.lines.journal p here)

pub returns-in-TooLong-clause-holds : goal.returns-in-TooLong-clause-holds
returns-in-TooLong-clause-holds g c = λ told text before holds. (c.lines.invariant.log told text before holds).holds

pub returns-in-ReadFault-clause-log : goal.returns-in-ReadFault-clause-log
returns-in-ReadFault-clause-log g c = λ told text before holds.
    let old = c.args.campaign.now in
    let since : List Entry = entries_since old c.lines.campaign in
    let kept = c.lines.invariant.log told text before holds in
    let here : Keeps g.K.Disk.seen g.K.Disk.may_leave g.K.Disk.moment g.K.Disk.left_since logged.ReadFault text before since since c.args.disk.now c.lines.disk c.lines.journal = record { any_moment = kept.any_moment; kept = kept.kept; holds = kept.holds } in
    told_weaker (λ all rest. IsPrefix since (script_of (world_of old) all).entries) _ _ _
    (entered_fronts ReadFault (world_of old) since _ _ (fault_at c.args.campaign.now c.lines.campaign c.lines.number c.lines.reader.cap c.lines.reader.ended c.next.new.self _ _ _ c.lines.invariant.came c.in-ReadFault.ensures.answer))
    (λ all rest p. keeps_wider g.K.Disk.seen g.K.Disk.may_leave g.K.Disk.moment g.K.Disk.left_since logged.ReadFault text before since since (script_of (world_of old) all).entries c.args.disk.now c.lines.disk c.lines.journal p here)

pub returns-in-ReadFault-clause-holds : goal.returns-in-ReadFault-clause-holds
returns-in-ReadFault-clause-holds g c = λ told text before holds. (c.lines.invariant.log told text before holds).holds

pub returns-in-Memory-clause-log : goal.returns-in-Memory-clause-log
returns-in-Memory-clause-log g c = λ told text before holds.
    let old = c.args.campaign.now in
    let since : List Entry = entries_since old c.lines.campaign in
    let kept = c.lines.invariant.log told text before holds in
    let here : Keeps g.K.Disk.seen g.K.Disk.may_leave g.K.Disk.moment g.K.Disk.left_since logged.Memory text before since since c.args.disk.now c.lines.disk c.lines.journal = record { any_moment = kept.any_moment; kept = kept.kept; holds = kept.holds } in
    told_weaker (λ all rest. IsPrefix since (script_of (world_of old) all).entries) _ _ _
    (entered_fronts Memory (world_of old) since _ _ (memory_at c.args.campaign.now c.lines.campaign c.lines.number c.lines.reader.cap c.lines.reader.ended c.next.new.self _ _ _ c.lines.invariant.came c.in-Memory.ensures.answer))
    (λ all rest p. keeps_wider g.K.Disk.seen g.K.Disk.may_leave g.K.Disk.moment g.K.Disk.left_since logged.Memory text before since since (script_of (world_of old) all).entries c.args.disk.now c.lines.disk c.lines.journal p here)

pub returns-in-Memory-clause-holds : goal.returns-in-Memory-clause-holds
returns-in-Memory-clause-holds g c = λ told text before holds. (c.lines.invariant.log told text before holds).holds

pub returns-in-Err-clause-entered : goal.returns-in-Err-clause-entered
returns-in-Err-clause-entered g c =
    let now = c.lines.campaign in
    let new = c.play_line.new.campaign in
    let entered : HasEntered (as_played c.in-Err.stop) (script_from (world_of now) c.lines.number (c.in-Line.line ∷ [])) (entries_since now new) =
    c.in-Err.ensures.entered in
    stops_at (as_played c.in-Err.stop) c.args.campaign.now now new c.lines.number c.lines.reader.cap c.lines.reader.ended c.next.new.self c.in-Line.line _ _ _ c.in-Err.ensures.stop c.lines.invariant.campaign c.in-Err.ensures.campaign c.lines.invariant.came c.in-Line.ensures.answer entered

pub returns-in-Err-clause-read : goal.returns-in-Err-clause-read
returns-in-Err-clause-read g c =
    let old = c.args.campaign.now in
    let new = c.play_line.new.campaign in
    let entered : HasEntered (as_played c.in-Err.stop) (script_from (world_of c.lines.campaign) c.lines.number (c.in-Line.line ∷ [])) (entries_since c.lines.campaign new) =
    c.in-Err.ensures.entered in
    let told = stops_at (as_played c.in-Err.stop) old c.lines.campaign new c.lines.number c.lines.reader.cap c.lines.reader.ended c.next.new.self c.in-Line.line _ _ _ c.in-Err.ensures.stop c.lines.invariant.campaign c.in-Err.ensures.campaign c.lines.invariant.came c.in-Line.ensures.answer entered in
    read_somehow (λ text rest. HasEntered (as_played c.in-Err.stop) (script_of (world_of old) text) (entries_since old new)) (λ text rest. HasRead (as_played c.in-Err.stop) (world_of old) (entries_since old new) text rest) _ _ told
    (λ text rest. read_stop (as_played c.in-Err.stop) c.in-Err.ensures.stop (world_of old) (entries_since old new) text rest)

pub returns-in-Err-clause-written : goal.returns-in-Err-clause-written
returns-in-Err-clause-written g c =
    written_on (as_played c.in-Err.stop) c.args.campaign.now c.lines.campaign c.play_line.new.campaign _ (g.O.Sink.written c.lines.out) _ c.lines.invariant.campaign c.in-Err.ensures.campaign c.lines.invariant.written c.in-Err.ensures.written

pub returns-in-Err-clause-log : goal.returns-in-Err-clause-log
returns-in-Err-clause-log g c = λ told text before holds.
    let old = c.args.campaign.now in
    let now = c.lines.campaign in
    let new = c.play_line.new.campaign in
    let inv = c.lines.invariant in
    let front : List Entry = entries_since old now in
    let more : List Entry = entries_since now new in
    let rest : List Entry = (script_from (world_of now) c.lines.number (c.in-Line.line ∷ [])).entries in
    let both = keeps_same g.K.Disk.seen g.K.Disk.may_leave g.K.Disk.moment g.K.Disk.left_since c.in-Err.stop (front ++ more) (entries_since old new) (front ++ rest) (front ++ rest) c.args.disk.now c.play_line.new.disk c.args.journal.now c.play_line.new.journal (sym (since_all old now new inv.campaign c.in-Err.ensures.campaign)) refl
    (keeps_then g.K.Disk.seen g.K.Disk.may_leave g.K.Disk.moment g.K.Disk.left_since c.in-Err.stop front more rest c.args.disk.now c.lines.disk c.play_line.new.disk c.args.journal.now c.lines.journal c.play_line.new.journal (inv.log told) (c.in-Err.ensures.log told)) in
    told_weaker (λ all left. IsPrefix (front ++ rest) (script_of (world_of old) all).entries) _ _ _
    (line_fronts old now c.lines.number c.lines.reader.cap c.lines.reader.ended c.next.new.self c.in-Line.line _ _ _ inv.campaign inv.came c.in-Line.ensures.answer)
    (λ all left p. keeps_wider g.K.Disk.seen g.K.Disk.may_leave g.K.Disk.moment g.K.Disk.left_since c.in-Err.stop text before (entries_since old new) (front ++ rest) (script_of (world_of old) all).entries c.args.disk.now c.play_line.new.disk c.play_line.new.journal p (both text before holds))

pub returns-in-Err-clause-holds : goal.returns-in-Err-clause-holds
returns-in-Err-clause-holds g c = λ told text before holds.
    let old = c.args.campaign.now in
    let now = c.lines.campaign in
    let new = c.play_line.new.campaign in
    let inv = c.lines.invariant in
    let front : List Entry = entries_since old now in
    let more : List Entry = entries_since now new in
    let rest : List Entry = (script_from (world_of now) c.lines.number (c.in-Line.line ∷ [])).entries in
    (keeps_same g.K.Disk.seen g.K.Disk.may_leave g.K.Disk.moment g.K.Disk.left_since c.in-Err.stop (front ++ more) (entries_since old new) (front ++ rest) (front ++ rest) c.args.disk.now c.play_line.new.disk c.args.journal.now c.play_line.new.journal (sym (since_all old now new inv.campaign c.in-Err.ensures.campaign)) refl
    (keeps_then g.K.Disk.seen g.K.Disk.may_leave g.K.Disk.moment g.K.Disk.left_since c.in-Err.stop front more rest c.args.disk.now c.lines.disk c.play_line.new.disk c.args.journal.now c.lines.journal c.play_line.new.journal (inv.log told) (c.in-Err.ensures.log told)) text before holds).holds

pub returns-in-Err-clause-full : goal.returns-in-Err-clause-full
returns-in-Err-clause-full g c = λ full.
    let old = c.args.campaign.now in
    let now = c.lines.campaign in
    let new = c.play_line.new.campaign in
    let inv = c.lines.invariant in
    let end : ℕ = c.play_line.new.journal in
    let front : List Entry = entries_since old now in
    let more : List Entry = entries_since now new in
    let rest : List Entry = (script_from (world_of now) c.lines.number (c.in-Line.line ∷ [])).entries in
    let room : HasNoRoom end (entries_since old new) (front ++ rest) = subst (λ (es : List Entry). HasNoRoom end es (front ++ rest)) (sym (since_all old now new inv.campaign c.in-Err.ensures.campaign)) (room_behind end front more rest (c.in-Err.ensures.full full)) in
    told_weaker (λ all left. IsPrefix (front ++ rest) (script_of (world_of old) all).entries) _ _ _
    (line_fronts old now c.lines.number c.lines.reader.cap c.lines.reader.ended c.next.new.self c.in-Line.line _ _ _ inv.campaign inv.came c.in-Line.ensures.answer)
    (λ all left p. room_wider end (entries_since old new) (front ++ rest) (script_of (world_of old) all).entries p room)

pub returns-in-Err-clause-read_fault : goal.returns-in-Err-clause-read_fault
returns-in-Err-clause-read_fault g c = λ e. absurd (subst (λ (s : Logged). IsLineStop (as_played s)) e c.in-Err.ensures.stop)
