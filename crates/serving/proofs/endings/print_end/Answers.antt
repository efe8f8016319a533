use Rattle.std.proofs.Common.{◌≡◌, subst}
use Rattle.campaign_law.specs.World.{replay}
use Rattle.campaign_law.specs.Worlds.{opened_of}
use Rattle.campaign_writing.specs.Canonical.{canonical}
use Rattle.serving.specs.Endings.{PrintsText}
use Rattle.serving.proofs.endings.print_end.Goals as goal

pub returns-in-Ok-clause-prints : goal.returns-in-Ok-clause-prints
returns-in-Ok-clause-prints g c =
    let q = c.dump_now.new.pass in
    let is : c.in-Ok.dump.text ≡ canonical (opened_of (replay c.args.hall.now.origin q.front)) = c.in-Ok.ensures.dump.text_is in
    record {
      r = q;
      longer = c.dump_now.ensures.front;
      own = c.dump_now.ensures.own;
      printed = subst (λ text. PrintsText c.print_text.result text (g.O.Sink.written c.args.out.now) (g.O.Sink.written c.print_text.new.out)) is c.print_text.ensures.prints;
    }
