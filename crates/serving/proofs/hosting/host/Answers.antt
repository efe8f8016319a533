use Rattle.std.proofs.Common.{◌∙◌, ap, sym}
use Rattle.campaign_core.specs.Opening.{world_of_text}
use Rattle.serving.specs.Runs.{IsSafeRun}
use Rattle.serving.proofs.Hostings.{hosts_text}
use Rattle.serving.proofs.hosting.host.Goals as goal

pub returns-clause-hosts : goal.returns-clause-hosts
returns-clause-hosts g c =
    hosts_text (IsSafeRun g.L.Out.Outlet.safe g.L.In.Source.left g.L.Out.Sink.written g.L.In.Source.faults_of g.L.Out.Sink.faults_of) g.L.Out.Sink.written _ _
    c.host_campaign.result c.args.text.now c.in-Ok.campaign.origin c.args.count c.args.end (ap world_of_text (sym c.bytes.ensures) ∙ c.in-Ok.ensures.world) c.host_campaign.ensures.hosts
