use Rattle.std.proofs.Common.{◌∙◌, ap}
use Rattle.campaign_law.specs.Cuts.{is_cut_since}
use Rattle.campaign_law.specs.Law.{Course}
use Rattle.campaign_core.specs.CutList.{any_since}
use Rattle.campaign_core.proofs.campaign.Campaign.cut_since.Goals as goal

pub returns : goal.returns
returns g c =
    c.any_since.ensures ∙ ap (any_since c.args.place c.args.seat c.args.reader c.args.writer) c.deref.ensures.value ∙ c.self.invariant.cuts.since c.args.place c.args.seat c.args.reader c.args.writer
    ∙ ap (λ (x : Course). is_cut_since x.origin x.history c.args.place c.args.seat c.args.reader c.args.writer) c.self.view_is
