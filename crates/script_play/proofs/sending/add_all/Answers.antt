use Rattle.std.proofs.Common.{◌≡◌, ◌∙◌, ap, sym, ◌++◌, append_assoc, arith, length, List, ℕ}
use Rattle.campaign_law.specs.World.{World, seat_at}
use Rattle.campaign_law.specs.Law.{world_of}
use Rattle.script_play.specs.Script.{takens_below, takens, taken_of}
use Rattle.script_play.specs.Tagged.{tagged_lines}
use Rattle.script_play.specs.Sending.{lines_below, sent_below, reply_to, waiting_lines}
use Rattle.script_play.specs.Counting.{with_sent}
use Rattle.script_play.proofs.EntryLines.{seats_of_replay}
use Rattle.script_play.proofs.SendingLemmas.{sent_next, takens_next}
use Rattle.script_play.proofs.Counts.{sent_to_next}
use Rattle.script_play.proofs.sending.add_all.Goals as goal

pub loop-number-preserved : goal.loop-number-preserved
loop-number-preserved g c =
    let n : ℕ = c.loop-number.number in
    let w : World = world_of c.args.campaign.now in
    let own : List ℕ = tagged_lines n (reply_to c.args.acting n c.args.reply.now ++ waiting_lines c.args.campaign.now n) in
    let front : List ℕ = sent_below c.args.campaign.now c.args.acting c.args.reply.now n in
    let old : List ℕ = c.args.text.now.items in
    record {
      entries = c.in_ok-add_next.ensures.taken ∙ ap (λ es. es ++ taken_of n (seat_at w n)) c.loop-number.invariant.entries ∙ sym (takens_next w n);
      text =
          c.in_ok-add_next.ensures.text
          ∙ ap (λ t. t ++ own) c.loop-number.invariant.text
          ∙ append_assoc old front own
          ∙ ap (λ t. old ++ t) (sym (sent_next c.args.campaign.now c.args.acting c.args.reply.now n));
      tally = sent_to_next c.args.campaign.now c.args.acting c.args.reply.now n c.args.tally.now c.loop-number.tally c.add_next.new.tally c.loop-number.invariant.tally c.in_ok-add_next.ensures.counted;
    }

pub returns-clause-takens : goal.returns-clause-takens
unfolding takens
returns-clause-takens g c =
    let end : c.loop-number.number ≡ length c.args.campaign.now.origin.seats = omega (arith, c.loop-number-test.false, c.loop-number.auto.number-end, c.requires.seats) in
    c.loop-number.invariant.entries
    ∙ ap (takens_below (world_of c.args.campaign.now)) (end ∙ sym (seats_of_replay c.args.campaign.now.origin c.args.campaign.now.history))

pub returns-clause-text : goal.returns-clause-text
returns-clause-text g c =
    let end : c.loop-number.number ≡ length c.args.campaign.now.origin.seats = omega (arith, c.loop-number-test.false, c.loop-number.auto.number-end, c.requires.seats) in
    c.loop-number.invariant.text ∙ ap (λ n. c.args.text.now.items ++ sent_below c.args.campaign.now c.args.acting c.args.reply.now n) end

pub returns-clause-counted : goal.returns-clause-counted
returns-clause-counted g c =
    let end : c.loop-number.number ≡ length c.args.campaign.now.origin.seats = omega (arith, c.loop-number-test.false, c.loop-number.auto.number-end, c.requires.seats) in
    c.loop-number.invariant.tally ∙ ap (λ n. with_sent c.args.tally.now (lines_below c.args.campaign.now c.args.acting c.args.reply.now n)) end
