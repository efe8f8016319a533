use Rattle.std.proofs.Common.{◌∙◌, sym, ap}
use Rattle.std.specs.Option.{option_copied}
use Rattle.command_effects.specs.Effects.{cell_after}
use Rattle.command_effects.proofs.Moves.{placing}
use Rattle.command_effects.proofs.effects.moved.Goals as goal

pub place-requires-clause-there : goal.place-requires-clause-there
place-requires-clause-there c =
    (placing c.args.scene.now c.args.seat c.args.id.now c.args.path.now c.in-Some.token.now c.args.steps c.cell_after-cell.result c.in_ok-after.after c.requires c.told-told.ensures.tokens
    (sym c.mine.ensures ∙ ap option_copied c.in-Some.is) c.in_ok-after.ensures (c.cell_after-cell.ensures ∙ ap (cell_after c.args.steps c.in-Some.token.now.cell) c.cells.ensures)).0

pub place-requires-clause-fitting : goal.place-requires-clause-fitting
place-requires-clause-fitting c =
    (placing c.args.scene.now c.args.seat c.args.id.now c.args.path.now c.in-Some.token.now c.args.steps c.cell_after-cell.result c.in_ok-after.after c.requires c.told-told.ensures.tokens
    (sym c.mine.ensures ∙ ap option_copied c.in-Some.is) c.in_ok-after.ensures (c.cell_after-cell.ensures ∙ ap (cell_after c.args.steps c.in-Some.token.now.cell) c.cells.ensures)).1
