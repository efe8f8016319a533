use Rattle.std.proofs.Common.{rules, ◌≡◌, ◌-◌, ◌∙◌, ap, drop, length}
use Rattle.std.specs.Prelude.{Some, option_map, flat_map}
use Rattle.std.proofs.lemmas.Option.{IfSome_then}
use Rattle.mails.specs.Texts.{text_of}
use Rattle.campaign_law.specs.Seat.{Seat}
use Rattle.campaign_law.specs.Session.{session, waiting}
use Rattle.campaign_core.specs.Places.{Place}
use Rattle.campaign_core.proofs.Laws.{text_waits}
use Rattle.campaign_core.proofs.campaign.Campaign.size_for.Goals as goal

pub returns : goal.returns
returns g c =
    let post = c.post-post.result.now in
    let ls = session c.args.self.now.origin c.args.self.now.history c.args.seat in
    let gone : c.saturating_sub.result ≡ c.args.first - post.seat.taken = search rules in
    let mail : c.post.inside.mail.lines ≡ post.mail = ap (λ (p : Place). p.mail) c.post.view_is in
    let text : text_of (drop c.saturating_sub.result c.post.inside.mail.lines) ≡ flat_map (λ line. line) (waiting c.args.first post.seat.taken ls) =
    (λ i. text_of (drop (gone i) (mail i))) ∙ text_waits c.args.first post.seat.taken post.mail ls c.post-post.ensures.mail in
    record {
      size = IfSome_then c.size_past.result c.size_past.ensures
          (λ n is.
          ap Some (is ∙ ap length text)
          ∙ ap (option_map (λ (s : Seat). length (flat_map (λ line. line) (waiting c.args.first s.taken ls)))) c.post-post.ensures.seat);
    }
