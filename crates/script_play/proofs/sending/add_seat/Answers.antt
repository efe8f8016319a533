use Rattle.std.proofs.Common.{◌∙◌, ap}
use Rattle.script_play.specs.Counting.{with_sent}
use Rattle.script_play.specs.Sending.{waiting_lines, reply_to}
use Rattle.script_play.proofs.SendingLemmas.{tagged_both}
use Rattle.script_play.proofs.Counts.{sent_both}
use Rattle.script_play.proofs.sending.add_seat.Goals as goal

pub returns-clause-text : goal.returns-clause-text
returns-clause-text g c =
    tagged_both c.args.seat c.bytes.result.now c.bytes-2.result.now c.args.text.now.items c.add_reply.new.text.items c.add_waiting.new.text.items
    (reply_to c.args.acting c.args.seat c.args.reply.now) (waiting_lines c.args.campaign.now c.args.seat)
    (c.bytes.ensures ∙ c.new-tag.ensures) (c.bytes-2.ensures ∙ c.new-tag.ensures) c.in_ok-add_reply.ensures.text c.in_ok-count.ensures.text

pub returns-clause-counted : goal.returns-clause-counted
returns-clause-counted g c =
    let replied = reply_to c.args.acting c.args.seat c.args.reply.now in
    let waiting = waiting_lines c.args.campaign.now c.args.seat in
    c.in_ok-count.ensures.counted ∙ ap (λ t. with_sent t waiting) c.in_ok-add_reply.ensures.counted ∙ sent_both c.args.tally.now replied waiting
