use Rattle.std.proofs.Common.{◌≡◌, sym, subst}
use Rattle.std.specs.Prelude.{Ok, IfOk}
use Rattle.world.specs.World.{World as Opened}
use Rattle.campaign_file.specs.Campaign.{campaign_of}
use Rattle.campaign_writing.specs.Canonical.{reopened}
use Rattle.campaign_writing.specs.Written.{IsWritten}
use Rattle.campaign_law.specs.State.{world_in}
use Rattle.campaign_law.specs.Law.{Course, world_of}
use Rattle.campaign_law.specs.Worlds.{opened_of}
use Rattle.campaign_core.specs.Places.{law}
use Rattle.campaign_core.proofs.Dumping.{now_written}
use Rattle.campaign_core.proofs.campaign.Campaign.dump.Goals as goal

pub returns-clause-reads_back : goal.returns-clause-reads_back
returns-clause-reads_back g c =
    let written : IsWritten (opened_of (world_of c.args.self.now)) =
    subst (λ (x : Course). IsWritten (opened_of (world_of x))) c.self.view_is (now_written (world_in (law c.self.inside.origin)) c.self.inside.history.items _ c.self.inside.state _ _ c.self.invariant) in
    subst (λ (w : Opened). IfOk c.write_campaign-2.result (λ line. campaign_of line ≡ Ok (reopened w))) c.in_ok-now.ensures (c.write_campaign-2.ensures.reads_back (subst IsWritten (sym c.in_ok-now.ensures) written))
