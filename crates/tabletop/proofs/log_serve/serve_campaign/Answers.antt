use Rattle.std.proofs.Common.{inl, inr, refl}
use Rattle.tabletop.proofs.Evenings.{no_log_not_two, no_log_reads, no_log_writes}
use Rattle.tabletop.proofs.log_serve.serve_campaign.Goals as goal

pub serve_from_log-requires-clause-holds : goal.serve_from_log-requires-clause-holds
serve_from_log-requires-clause-holds g c κs within = λ told. (c.in-Ok.ensures.begins told).holds

pub returns-in-Ok-clause-ends : goal.returns-in-Ok-clause-ends
returns-in-Ok-clause-ends g c = inr (record {
  origin = c.args.campaign.origin;
  is = c.requires.world;
  opens = c.requires.opening;
  kept = c.in-Ok.entries.items;
  began = c.open_log.new.disk;
  gate = c.in-Ok.journal;
  begins = c.in-Ok.ensures.begins;
  evening = c.serve_from_log.ensures.evening;
})

pub returns-in-Err-clause-ends : goal.returns-in-Err-clause-ends
returns-in-Err-clause-ends g c = inl (inr c.in-Err.ensures.none, refl)

pub returns-in-Err-clause-write_fault : goal.returns-in-Err-clause-write_fault
returns-in-Err-clause-write_fault g c = λ is. absurd (no_log_writes g.K.Disk.tells c.in-Err.ended c.args.text (g.K.Disk.seen c.args.disk) c.in-Err.ensures.none is)

pub returns-in-Err-clause-no_read_fault : goal.returns-in-Err-clause-no_read_fault
returns-in-Err-clause-no_read_fault g c = no_log_reads g.K.Disk.tells c.in-Err.ended c.args.text (g.K.Disk.seen c.args.disk) c.in-Err.ensures.none

pub returns-in-Err-clause-no_usage : goal.returns-in-Err-clause-no_usage
returns-in-Err-clause-no_usage g c = no_log_not_two g.K.Disk.tells c.in-Err.ended c.args.text (g.K.Disk.seen c.args.disk) c.in-Err.ensures.none
