use Rattle.std.proofs.Common.{◌∙◌, ◌++◌}
use Rattle.std.specs.Prelude.{nat_le, nat_lt}
use Rattle.json_lines.specs.Tokens.{value_tokens}
use Rattle.view_lines.specs.Lines.{list_data, terrain_run_data, terrain_data}
use Rattle.view_lines.proofs.RowLemmas.{IsFurther, further, dropped, taken, one_more_written, same_data}
use Rattle.view_lines.proofs.ground.put_terrain_by_rows.Goals as goal

pub loop-run-preserved : goal.loop-run-preserved
loop-run-preserved c =
    let letters = c.args.letters.now in
    let left = c.loop-run.left.now in
    let now = c.from_row-left.result.now in
    let row = c.to_row.result.now in
    let run = c.in-Some.run' in
    let on : IsFurther letters now row run c.next.new.self =
    further letters left now row run c.next.new.self c.loop-run.run-iterator c.loop-run.invariant.ordered c.loop-run.invariant.left_enough c.loop-run.invariant.by_rows
    c.in-Some.ensures.steps (c.from_row-left.ensures ∙ dropped (λ l. nat_le run.y l.0.y) left) (c.to_row.ensures ∙ taken (λ l. nat_lt run.y l.0.y) now) in
    record {
      before = c.in_ok-put_terrain_run.ensures.before ∙ c.loop-run.invariant.before;
      told = one_more_written (terrain_run_data letters) c.loop-run.writer.tokens c.put_terrain_run.new.writer.tokens
          (c.args.writer.now.tokens ++ value_tokens (list_data (terrain_data c.args.cells.now letters))) (terrain_run_data row run) c.loop-run.run-iterator
          c.next.new.self run c.in_ok-put_terrain_run.ensures.tokens (same_data letters row run on.of_run) c.in-Some.ensures.steps c.loop-run.invariant.told;
      ordered = on.ordered;
      by_rows = on.by_rows;
      left_enough = on.enough;
    }
