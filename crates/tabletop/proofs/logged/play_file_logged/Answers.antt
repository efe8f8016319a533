use Rattle.std.proofs.Common.{inl, inr, refl}
use Rattle.tabletop.proofs.LoggedEnds.{unfetched_reads, unfetched_writes}
use Rattle.tabletop.proofs.logged.play_file_logged.Goals as goal

pub returns-in-Ok-clause-ends : goal.returns-in-Ok-clause-ends
returns-in-Ok-clause-ends g c = inr (record { text = c.in-Ok.text; told = c.in-Ok.ensures.fetched.0; small = c.in-Ok.ensures.fetched.1; ends = c.play_text_logged.ensures.ends })

pub returns-in-Err-clause-ends : goal.returns-in-Err-clause-ends
returns-in-Err-clause-ends g c = inl (c.in-Err.ended, refl, c.in-Err.ensures.unfetched, refl)

pub returns-in-Err-clause-read_fault : goal.returns-in-Err-clause-read_fault
returns-in-Err-clause-read_fault g c = λ e. inl (unfetched_reads _ c.in-Err.ended _ c.in-Err.ensures.unfetched e)

pub returns-in-Err-clause-write_fault : goal.returns-in-Err-clause-write_fault
returns-in-Err-clause-write_fault g c = λ e. absurd (unfetched_writes _ c.in-Err.ended _ c.in-Err.ensures.unfetched e)
