use Rattle.std.proofs.Common.{rules, ◌≡◌, ◌-◌, ◌++◌, ◌∙◌, ap, drop}
use Rattle.std.specs.Prelude.{Some, option_map, flat_map}
use Rattle.std.proofs.lemmas.Result.{on_ok_weaker}
use Rattle.mails.specs.Texts.{tagged_text}
use Rattle.campaign_law.specs.Seat.{Seat}
use Rattle.campaign_law.specs.Session.{session, waiting}
use Rattle.campaign_core.specs.Places.{Place}
use Rattle.campaign_core.proofs.Laws.{tagged_waits}
use Rattle.campaign_core.proofs.campaign.Campaign.add_lines_for.Goals as goal

pub returns-clause-text : goal.returns-clause-text
returns-clause-text g c =
    let post = c.post-post.result.now in
    let ls = session c.args.self.now.origin c.args.self.now.history c.args.seat in
    let gone : c.saturating_sub.result ≡ c.args.first - post.seat.taken = search rules in
    let mail : c.post.inside.mail.lines ≡ post.mail = ap (λ (p : Place). p.mail) c.post.view_is in
    on_ok_weaker c.add_past.result
    (λ is.
    ap Some (is ∙ (λ i. c.args.text.now.items ++ tagged_text c.args.tag.now (drop (gone i) (mail i))) ∙ ap (λ t. c.args.text.now.items ++ t) (tagged_waits c.args.tag.now c.args.first post.seat.taken post.mail ls c.post-post.ensures.mail))
    ∙ ap (option_map (λ (s : Seat). c.args.text.now.items ++ flat_map (λ line. c.args.tag.now ++ line) (waiting c.args.first s.taken ls))) c.post-post.ensures.seat)
    c.add_past.ensures.text
