use Rattle.std.proofs.Common.{◌≡◌, ◌≤◌, ◌-◌, ◌*◌, ◌∙◌, ap, sym, subst, length}
use Rattle.script_play.specs.Counting.{with_text}
use Rattle.script_play.specs.Sending.{waiting_lines}
use Rattle.script_play.proofs.SendingLemmas.{tags_within, grown_sent}
use Rattle.script_play.proofs.sending.add_waiting.Goals as goal

pub without_tags-requires : goal.without_tags-requires
without_tags-requires g c =
    let old : c.len-before.result ≡ length c.args.text.now.items = c.len-before.ensures ∙ c.args.text.now.ok.0 in
    let new : c.len.result ≡ length c.add_lines.new.text.items = c.len.ensures ∙ c.add_lines.new.text.ok.0 in
    subst (λ n. c.in_ok-count.count * length c.args.tag.now ≤ n) (λ i. sym new i - sym old i)
    (tags_within c.args.tag.now c.args.text.now.items c.add_lines.new.text.items (waiting_lines c.args.campaign.now c.args.seat) c.in_ok-count.count c.in_ok-count.ensures.count c.in_ok-count.ensures.text)

pub returns-clause-counted : goal.returns-clause-counted
returns-clause-counted g c =
    let old : c.len-before.result ≡ length c.args.text.now.items = c.len-before.ensures ∙ c.args.text.now.ok.0 in
    let new : c.len.result ≡ length c.add_lines.new.text.items = c.len.ensures ∙ c.add_lines.new.text.ok.0 in
    c.in_ok-count_sent.ensures
    ∙ ap (with_text c.args.tally.now c.in_ok-count.count) (c.without_tags.ensures ∙ (λ i. (new i - old i) - c.in_ok-count.count * length c.args.tag.now))
    ∙ grown_sent c.args.tally.now c.args.tag.now c.args.text.now.items c.add_lines.new.text.items (waiting_lines c.args.campaign.now c.args.seat) c.in_ok-count.count c.in_ok-count.ensures.count c.in_ok-count.ensures.text
