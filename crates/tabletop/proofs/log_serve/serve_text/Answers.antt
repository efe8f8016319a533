use Rattle.std.proofs.Common.{◌∙◌, ap, sym, subst, inl, refl}
use Rattle.campaign_core.specs.Opening.{world_of_text, IsOpenFault}
use Rattle.tabletop.specs.LogEndings.{log_status}
use Rattle.tabletop.proofs.LoggedEnds.{not_opened_ends}
use Rattle.tabletop.proofs.Evenings.{unopened_not_two, unopened_reads, unopened_writes}
use Rattle.tabletop.proofs.log_serve.serve_text.Goals as goal

pub serve_campaign-requires-clause-world : goal.serve_campaign-requires-clause-world
serve_campaign-requires-clause-world g c κs within = ap world_of_text (sym c.bytes.ensures) ∙ c.in-Ok.ensures.world

pub returns-in-Err-clause-ends : goal.returns-in-Err-clause-ends
returns-in-Err-clause-ends g c = inl (not_opened_ends g.K.Disk.tells c.in-Err.fault c.not_opened.result c.args.text _ c.not_opened.ensures (subst (λ t. IsOpenFault t c.in-Err.fault) c.bytes.ensures c.in-Err.ensures.bad), refl)

pub returns-in-Err-clause-write_fault : goal.returns-in-Err-clause-write_fault
returns-in-Err-clause-write_fault g c = λ is. absurd (unopened_writes c.in-Err.fault (sym c.not_opened.ensures ∙ is))

pub returns-in-Err-clause-no_read_fault : goal.returns-in-Err-clause-no_read_fault
returns-in-Err-clause-no_read_fault g c = λ is. unopened_reads c.in-Err.fault (sym c.not_opened.ensures ∙ is)

pub returns-in-Err-clause-no_usage : goal.returns-in-Err-clause-no_usage
returns-in-Err-clause-no_usage g c = λ two. unopened_not_two c.in-Err.fault (sym (ap log_status c.not_opened.ensures) ∙ two)
