use Rattle.std.proofs.Common.{◌≡◌, ◌∷◌, ◌++◌, ap, sym, subst, ◌∙◌, append-nil}
use Rattle.std.specs.Prelude.{All}
use Rattle.std.specs.List.{flat_map}
use Rattle.std.proofs.lemmas.List.Elements.{All-tail}
use Rattle.cells.specs.Runs.{IsMaximalRun, runs_of}
use Rattle.player_view.specs.Walk.{run_letters}
use Rattle.player_view.proofs.LetterRuns.{by_runs, run_more}
use Rattle.player_view.proofs.map_views.letter_list.Goals as goal

pub loop-run-preserved : goal.loop-run-preserved
loop-run-preserved c =
    let left : c.loop-run.run-iterator ≡ c.in-Some.run' ∷ c.next.new.self = c.in-Some.ensures.steps in
    record {
      letters = run_more c.args.map.now c.in-Some.run' c.loop-run.run-iterator c.next.new.self c.loop-run.list.items c.add_run.new.list.items
          (flat_map (run_letters c.args.map.now) (runs_of c.args.cells.now)) left c.in_ok-add_run.ensures c.loop-run.invariant.letters;
      on_map = All-tail (IsMaximalRun c.args.cells.now) c.in-Some.run' c.next.new.self (subst (All (IsMaximalRun c.args.cells.now)) left c.loop-run.invariant.on_map);
    }

pub returns : goal.returns
returns c =
    sym (append-nil c.loop-run.list.items)
    ∙ ap (λ runs. c.loop-run.list.items ++ flat_map (run_letters c.args.map.now) runs) (sym c.in-None.ensures.steps.0)
    ∙ c.loop-run.invariant.letters ∙ by_runs c.args.map.now c.args.cells.now c.requires
