-- Where there are no letters there is no terrain to tell.
use Rattle.std.proofs.Common.{◌≡◌, ◌∙◌, List, [], ◌∷◌, map, true≢false, refl, sym, ap, arith}
use Rattle.cells.specs.Cells.{Cells, cells_where, has}
use Rattle.cells.specs.Runs.{IsMaximalRun, AreMaximalRuns}
use Rattle.cells.specs.declared.cell.Run.{Run}
use Rattle.cells.proofs.MaximalLemmas.{runs_of-maximal}
use Rattle.cells.proofs.SetLaws.{has-cells_where}
use Rattle.views.specs.Lettered.{has_letter}
use Rattle.views.specs.declared.change.MapChange.{MapChange}
use Rattle.view_lines.specs.Lines.{terrain_run_data, terrain_data, lettered}

no_runs : (s : Cells) → s ≡ cells_where s.extent (has_letter []) → (runs : List Run) → AreMaximalRuns s runs → runs ≡ []
no_runs s none [] are = refl
no_runs s none (run ∷ runs) are =
    let is : IsMaximalRun s run = are.maximal 0 run (omega arith) in
    absurd (true≢false (sym (is.filled run.x0 (omega arith) is.some) ∙ ap (λ t. has t run.x0 run.y) none ∙ has-cells_where s.extent (has_letter []) run.x0 run.y (omega (arith, is.some, is.in_row)) is.in_map))

pub no_terrain : (c : MapChange) → c.letters ≡ [] → terrain_data (lettered c) c.letters ≡ []
no_terrain c none =
    ap (λ letters. terrain_data (cells_where c.dark.extent (has_letter letters)) letters) none
    ∙ ap (map (terrain_run_data [])) (no_runs (cells_where c.dark.extent (has_letter [])) refl _ (runs_of-maximal (cells_where c.dark.extent (has_letter []))))
