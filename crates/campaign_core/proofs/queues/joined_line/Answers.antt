use Rattle.std.proofs.Common.{◌∙◌, ◌||◌, sym, ap, Some}
use Rattle.std.specs.Prelude.{is_some}
use Rattle.campaign_core.proofs.Following.{pair_fits, pair_keeps}
use Rattle.campaign_core.proofs.queues.joined_line.Goals as goal

pub view_line-requires-clause-fit : goal.view_line-requires-clause-fit
view_line-requires-clause-fit c = λ due.
    pair_fits c.args.glances.now.before.now c.args.glances.now.after.now c.args.seat c.args.glances.now.keep.now.views (c.args.stays || is_some c.args.placed) c.view-kept.result.now c.get.result.now
    c.requires.glances.fit c.requires.seat c.requires.shown c.view-kept.ensures (sym c.requires.made ∙ c.in-Some.is ∙ ap Some (sym c.get.ensures))

pub view_line-requires-clause-letters : goal.view_line-requires-clause-letters
view_line-requires-clause-letters c = λ by_exposed.
    pair_keeps c.args.glances.now.before.now c.args.glances.now.after.now c.args.seat c.args.glances.now.keep.now.views (c.args.stays || is_some c.args.placed) c.view-kept.result.now c.get.result.now
    (c.requires.letters by_exposed) c.requires.shown c.view-kept.ensures (sym c.requires.made ∙ c.in-Some.is ∙ ap Some (sym c.get.ensures))
