use Rattle.std.proofs.Common.{◌≡◌, ◌+◌, ◌*◌, ◌++◌, ◌∷◌, [], ◌∙◌, ap, sym, arith}
use Rattle.std.proofs.lemmas.List.Elements.{All-nil, All-same}
use Rattle.drill.specs.Script.{IsOnMap}
use Rattle.drill.specs.Draws.{Drawing}
use Rattle.drill.specs.Numbered.{cell_at}
use Rattle.drill.specs.Campaign.{tokens_up_to, walls_up_to, world_with}
use Rattle.drill.proofs.TagLemmas.{all_push, cells_more}
use Rattle.drill.proofs.Tokens.{no_token}
use Rattle.drill.proofs.campaign.add_owned.Goals as goal

pub loop-number-init : goal.loop-number-init
loop-number-init c = record {
  world = no_token c.args.draws.now.number c.args.world.now c.requires.world;
  draws = ap (λ next. record c.args.draws.now { next = next }) c.requires.draws;
  on = All-same IsOnMap c.new-cells.result.items [] c.new-cells.ensures.items (All-nil IsOnMap);
  cells = c.new-cells.ensures.items;
}

pub loop-number-preserved : goal.loop-number-preserved
loop-number-preserved c =
    let n = c.args.draws.now.number in
    let k = c.loop-number.number in
    let inv = c.loop-number.invariant in
    let same = ap (λ (d : Drawing). d.number) inv.draws in
    record {
      world = c.in_ok-cell.ensures.token ∙ ap (λ m. world_with (walls_up_to m 600) (tokens_up_to m (k + 1))) same;
      draws =
          let more : 2400 + 2 * k + 2 ≡ 2400 + 2 * (k + 1) = omega arith in
          c.in_ok-cell.ensures.draws ∙ (λ i. record (inv.draws i) { next = (inv.draws i).next + 2 }) ∙ ap (λ next. record c.args.draws.now { next = next }) more;
      on = All-same IsOnMap c.push.new.self.items (c.loop-number.cells.items ++ c.in_ok-cell.cell ∷ []) c.in-Ok.ensures.items (all_push IsOnMap c.loop-number.cells.items c.in_ok-cell.cell inv.on c.in_ok-cell.ensures.on);
      cells = c.in-Ok.ensures.items ∙ (λ i. inv.cells i ++ (c.in_ok-cell.ensures.cell ∙ ap (λ m. cell_at m k) same) i ∷ []) ∙ sym (cells_more n k);
    }
