use Rattle.std.proofs.Common.{◌≡◌, ◌∙◌, ◌++◌, ap, subst, length, List, ℕ}
use Rattle.script_play.specs.declared.run.Played.TheVariants.{Memory, WriteFault}
use Rattle.script_play.specs.Sending.{sent_below, WroteFront}
use Rattle.script_play.proofs.SendingLemmas.{front_taken, stops_first}
use Rattle.script_play.proofs.sending.send_all.Goals as goal

pub returns-in_default-clause-sends : goal.returns-in_default-clause-sends
returns-in_default-clause-sends g c = stops_first Memory _ _ tt

pub returns-clause-sends : goal.returns-clause-sends
returns-clause-sends g c =
    let sent : List ℕ = sent_below c.args.campaign.now c.args.acting c.args.reply.now (length c.args.campaign.now.origin.seats) in
    let text : c.deref.result.now ≡ sent = c.deref.ensures.value ∙ c.in-Ok.ensures.text ∙ ap (λ front. front ++ sent) c.new-text.ensures.items in
    record {
      cut = tt;
      part = subst (λ t. WroteFront (g.O.Sink.written c.args.out.now) t (g.O.Sink.written c.write_whole.new.sink)) text (front_taken _ _ _ c.in-Err.ensures.err);
      whole = λ e. let z : WriteFault ≡ Memory = e in cc;
    }
