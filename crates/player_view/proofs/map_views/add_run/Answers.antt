use Rattle.std.proofs.Common.{◌≡◌, ◌+◌, ◌-◌, ◌++◌, map, ap, arith, ◌∙◌}
use Rattle.std.specs.List.{range_with_len}
use Rattle.player_view.specs.View.{lettered}
use Rattle.player_view.proofs.LetterRuns.{letter_more}
use Rattle.player_view.proofs.map_views.add_run.Goals as goal

pub loop-x-preserved : goal.loop-x-preserved
loop-x-preserved c =
    letter_more c.args.map.now c.args.run c.loop-x.x c.letter.result c.args.list.now.items c.loop-x.list.items c.push_letter.new.list.items
    c.loop-x.auto.x c.letter.ensures.value c.loop-x.invariant c.in_ok-push_letter.ensures

pub returns : goal.returns
returns c =
    let end : c.loop-x.x ≡ c.args.run.x1 + 1 = omega arith in
    c.loop-x.invariant
    ∙ ap (λ x. c.args.list.now.items ++ map (lettered c.args.map.now c.args.run.y) (range_with_len c.args.run.x0 (x - c.args.run.x0))) end
