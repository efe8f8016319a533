use Rattle.std.proofs.Common.{◌≡◌, ◌≤◌, ◌∷◌, [], ◌∙◌, subst, arith}
use Rattle.line_io.specs.Lines.{lines_of}
use Rattle.script_play.specs.Script.{script_of}
use Rattle.transcript_check.specs.Tracing.{IsStopOf}
use Rattle.transcript_check.proofs.PlayedLines.{IsPlayedTo, few_lines, to_next, to_end, to_stop}
use Rattle.transcript_check.proofs.Results.{on_err}
use Rattle.transcript_check.proofs.tracing.Follower.play.Goals as goal

pub returns-in_default-clause-played : goal.returns-in_default-clause-played
returns-in_default-clause-played g c =
    let empty : c.lines.rest.now ≡ [] = c.in_default.ensures.none in
    to_end (script_of c.args.campaign.now.origin c.args.script.now) c.lines.campaign c.lines.number c.lines.rest.now empty c.lines.invariant.to

pub returns-in_err-play_line-clause-stopped : goal.returns-in_err-play_line-clause-stopped
returns-in_err-play_line-clause-stopped g c =
    let whole = script_of c.args.campaign.now.origin c.args.script.now in
    let next : lines_of c.lines.rest.now ≡ c.in-Some.line.now ∷ lines_of c.in-Some.behind.now = c.in-Some.ensures.line in
    on_err (IsStopOf whole) c.from_residual.result c.in_err-play_line.field-0.0 c.from_residual.ensures.1
    (to_stop whole c.lines.campaign c.lines.number c.in-Some.line.now (lines_of c.in-Some.behind.now) c.in_err-play_line.field-0.0 (subst (IsPlayedTo whole c.lines.campaign c.lines.number) next c.lines.invariant.to) (c.in_err-play_line.ensures.stopped (lines_of c.in-Some.behind.now)))

pub lines-preserved : goal.lines-preserved
lines-preserved g c =
    let whole = script_of c.args.campaign.now.origin c.args.script.now in
    let next : lines_of c.lines.rest.now ≡ c.in-Some.line.now ∷ lines_of c.in-Some.behind.now = c.in-Some.ensures.line in
    let few : c.lines.number ≤ 1000000 = few_lines c.lines.number c.in-Some.line.now c.in_ok-play_line.ensures.played.within in
    record {
      origin = c.play_line.ensures.origin ∙ c.lines.invariant.origin;
      to = to_next whole c.lines.campaign c.play_line.new.campaign c.lines.number c.in-Some.line.now (lines_of c.in-Some.behind.now) c.play_line.ensures.origin (subst (IsPlayedTo whole c.lines.campaign c.lines.number) next c.lines.invariant.to) c.in_ok-play_line.ensures.played;
      follows = c.in_ok-play_line.ensures.follows;
      seat = c.play_line.ensures.seat ∙ c.lines.invariant.seat;
      number = omega (arith, few);
    }
