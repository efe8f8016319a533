use Rattle.std.proofs.Common.{rules, ◌≡◌, map, string_bytes, Some, refl}
use Rattle.line_io.specs.Counts.{CountRose}
use Rattle.command_words.specs.Words.{Serve, job_of}
use Rattle.serving.specs.Runs.{IsSafeRun}
use Rattle.tabletop.specs.ServeEnds.{service_in}
use Rattle.tabletop.proofs.Services.{count_is}
use Rattle.tabletop.proofs.ServeLemmas.{memory_serves}
use Rattle.tabletop.proofs.serve.job.Goals as goal

pub serve_file-requires-clause-count : goal.serve_file-requires-clause-count
serve_file-requires-clause-count g c κs within =
    let asked = c.in-Ok-Serve in
    let is : job_of (map string_bytes c.args.words.now) ≡ Some (Serve asked.file.now asked.port asked.count asked.end) = search rules in
    count_is (map string_bytes c.args.words.now) asked.file.now asked.port asked.count asked.end is

pub returns-in-Err-Memory-clause-ends : goal.returns-in-Err-Memory-clause-ends
returns-in-Err-Memory-clause-ends g c =
    let faults = g.D.Desk.faults_of c.args.desk.now in
    memory_serves (IsSafeRun g.L.Out.Outlet.safe g.L.In.Source.left g.L.Out.Sink.written g.L.In.Source.faults_of g.L.Out.Sink.faults_of) g.L.Out.Sink.written _ _
    (CountRose faults faults) (service_in (map string_bytes c.args.words.now)) (g.D.Desk.text_of c.args.desk.now) (record { coming = refl; ended = refl; started = refl; written = refl })
