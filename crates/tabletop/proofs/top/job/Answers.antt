use Rattle.std.proofs.Common.{rules, ◌≡◌, map, string_bytes, Some}
use Rattle.command_words.specs.Words.{Drill, Verify, Compare, job_of}
use Rattle.tabletop.proofs.Services.{lines_are, verified_seat, compared_seat}
use Rattle.tabletop.proofs.top.job.Goals as goal

pub drill-requires-clause-least : goal.drill-requires-clause-least
drill-requires-clause-least g c =
    let asked = c.in-Ok-Drill in
    let is : job_of (map string_bytes c.args.words.now) ≡ Some (Drill asked.number asked.lines) = search rules in
    (lines_are (map string_bytes c.args.words.now) asked.number asked.lines is).0

pub drill-requires-clause-most : goal.drill-requires-clause-most
drill-requires-clause-most g c =
    let asked = c.in-Ok-Drill in
    let is : job_of (map string_bytes c.args.words.now) ≡ Some (Drill asked.number asked.lines) = search rules in
    (lines_are (map string_bytes c.args.words.now) asked.number asked.lines is).1

pub verify_files-requires-clause-player : goal.verify_files-requires-clause-player
verify_files-requires-clause-player g c =
    let asked = c.in-Ok-Verify in
    let is : job_of (map string_bytes c.args.words.now) ≡ Some (Verify asked.file.now asked.lines.now asked.seat asked.transcript.now) = search rules in
    (verified_seat (map string_bytes c.args.words.now) asked.file.now asked.lines.now asked.seat asked.transcript.now is).0

pub verify_files-requires-clause-seat : goal.verify_files-requires-clause-seat
verify_files-requires-clause-seat g c =
    let asked = c.in-Ok-Verify in
    let is : job_of (map string_bytes c.args.words.now) ≡ Some (Verify asked.file.now asked.lines.now asked.seat asked.transcript.now) = search rules in
    (verified_seat (map string_bytes c.args.words.now) asked.file.now asked.lines.now asked.seat asked.transcript.now is).1

pub compare_files-requires : goal.compare_files-requires
compare_files-requires g c =
    let asked = c.in-Ok-Compare in
    let is : job_of (map string_bytes c.args.words.now) ≡ Some (Compare asked.file.now asked.lines.now asked.file2.now asked.lines2.now asked.seat) = search rules in
    (compared_seat (map string_bytes c.args.words.now) asked.file.now asked.lines.now asked.file2.now asked.lines2.now asked.seat is).1
