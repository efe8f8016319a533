use Rattle.std.proofs.Common.{rules, ◌≡◌, [], subst}
use Rattle.std.specs.Arc.{arc_value}
use Rattle.turn_lock.specs.Pass.{first_pass}
use Rattle.serving.specs.Runs.{IsSafeRun}
use Rattle.serving.specs.Outside.{as_told}
use Rattle.serving.specs.Endings.{EndsWith}
use Rattle.serving.proofs.Hostings.{served_on}
use Rattle.serving.proofs.hosting.host_campaign.Goals as goal

pub returns-clause-hosts : goal.returns-clause-hosts
returns-clause-hosts g c =
    let hall = arc_value c.in-Some.hall in
    let is : hall.origin ≡ c.args.campaign.origin = search rules in
    let first : c.in-Some.pass ≡ first_pass hall [] = search rules in
    let begins : c.in-Some.usher.count ≡ 1 = search rules in
    let opened = c.open.ensures in
    let spawner = c.args.spawner.now in
    let out = c.args.out.now in
    served_on (IsSafeRun g.L.Out.Outlet.safe g.L.In.Source.left g.L.Out.Sink.written g.L.In.Source.faults_of g.L.Out.Sink.faults_of) g.L.Out.Sink.written c.serve_hall-pass.result.1 c.ended.result hall c.args.campaign.origin c.args.count c.args.end
    c.in-Some.pass c.serve_hall-pass.result.0 c.in-Some.usher.count c.serve_hall-pass.new.usher.count _ _ _ (g.O.Sink.written c.serve_hall-pass.new.out) (g.O.Sink.faults_of c.serve_hall-pass.new.out)
    c.requires.opening is first begins (λ i. as_told (opened.coming i) (opened.ended i) (g.P.Spawner.started spawner) (g.P.Spawner.faults_of spawner) (g.O.Sink.written out) (g.O.Sink.faults_of out)) c.ended.ensures.count c.serve_hall-pass.ensures.serves
    (subst (λ h. EndsWith c.args.end c.serve_hall-pass.result.1 c.ended.result h.origin c.serve_hall-pass.result.0 (g.O.Sink.written c.serve_hall-pass.new.out) (g.O.Sink.written c.ended.new.out)) c.deref.ensures c.ended.ensures.ends)
