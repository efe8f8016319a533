use Rattle.std.proofs.Common.{inl, inr, refl}
use Rattle.tabletop.proofs.LoggedEnds.{unfetched_reads, unfetched_writes}
use Rattle.tabletop.proofs.Evenings.{unfetched_not_two}
use Rattle.tabletop.proofs.log_serve.serve_file.Goals as goal

pub returns-in-Ok-clause-ends : goal.returns-in-Ok-clause-ends
returns-in-Ok-clause-ends g c = inr (record { text = c.in-Ok.text; told = c.in-Ok.ensures.fetched.0; small = c.in-Ok.ensures.fetched.1; ends = c.serve_text.ensures.ends })

pub returns-in-Err-clause-ends : goal.returns-in-Err-clause-ends
returns-in-Err-clause-ends g c = inl (c.in-Err.ended, refl, c.in-Err.ensures.unfetched, refl)

pub returns-in-Err-clause-read_fault : goal.returns-in-Err-clause-read_fault
returns-in-Err-clause-read_fault g c = λ e. unfetched_reads _ c.in-Err.ended _ c.in-Err.ensures.unfetched e

pub returns-in-Err-clause-write_fault : goal.returns-in-Err-clause-write_fault
returns-in-Err-clause-write_fault g c = λ e. absurd (unfetched_writes _ c.in-Err.ended _ c.in-Err.ensures.unfetched e)

pub returns-in-Err-clause-no_usage : goal.returns-in-Err-clause-no_usage
returns-in-Err-clause-no_usage g c = unfetched_not_two _ c.in-Err.ended _ c.in-Err.ensures.unfetched
