use Rattle.std.proofs.Common.{[], refl, sym, subst}
use Rattle.std.specs.Prelude.{unwrap_or}
use Rattle.session.specs.declared.speaking.Said.TheVariants.{Memory}
use Rattle.session.specs.Spoken.{Speaks}
use Rattle.session.proofs.ReadingTurns.{speaks_grew}
use Rattle.session.proofs.speaking.speak_once.Goals as goal

pub returns-in-Some-clause-grew : goal.returns-in-Some-clause-grew
returns-in-Some-clause-grew c =
    speaks_grew c.args.campaign.now.origin c.args.hold.now c.args.campaign.now.history c.in-Some.line c.speak.result c.speak.new.campaign.history c.speak.ensures.speaks

pub returns-in-None-clause-grew : goal.returns-in-None-clause-grew
returns-in-None-clause-grew c = speaks_grew c.args.campaign.now.origin c.args.hold.now c.args.campaign.now.history [] Memory c.args.campaign.now.history refl

pub returns-in-Some-clause-speaks : goal.returns-in-Some-clause-speaks
returns-in-Some-clause-speaks c =
    subst (λ line. Speaks c.args.campaign.now.origin c.args.hold.now c.args.campaign.now.history (unwrap_or line []) c.speak.result c.speak.new.campaign.history) (sym c.in-Some.is) c.speak.ensures.speaks
