use Rattle.std.proofs.Common.{◌∙◌, ap, sym, subst, inl, refl}
use Rattle.campaign_core.specs.Opening.{world_of_text, IsOpenFault}
use Rattle.tabletop.proofs.LoggedEnds.{not_opened_ends}
use Rattle.tabletop.proofs.logged.play_text_logged.Goals as goal

pub play_with_log-ended-requires-clause-world : goal.play_with_log-ended-requires-clause-world
play_with_log-ended-requires-clause-world g c = ap world_of_text (sym c.bytes.ensures) ∙ c.in-Ok.ensures.world

pub returns-in-Err-clause-ends : goal.returns-in-Err-clause-ends
returns-in-Err-clause-ends g c = inl (not_opened_ends g.K.Disk.tells c.in-Err.fault c.not_opened.result c.args.text.now _ c.not_opened.ensures (subst (λ t. IsOpenFault t c.in-Err.fault) c.bytes.ensures c.in-Err.ensures.bad), refl)
