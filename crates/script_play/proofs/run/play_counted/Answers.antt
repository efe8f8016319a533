use Rattle.std.proofs.Common.{sym, subst}
use Rattle.campaign_law.specs.Law.{IsOpening, world_of}
use Rattle.campaign_law.proofs.Simulation.{sent_is_machine}
use Rattle.script_play.specs.declared.run.Played.TheVariants.{Memory}
use Rattle.script_play.specs.Script.{script_of}
use Rattle.script_play.specs.Played.{IsPrefix, entries_since}
use Rattle.script_play.proofs.AfterEntry.{nothing_since, prefix_none, stays}
use Rattle.script_play.proofs.Fronts.{wrote_nothing}
use Rattle.script_play.proofs.Written.{writes}
use Rattle.script_play.proofs.Reading.{told_same}
use Rattle.script_play.proofs.run.play_counted.Goals as goal

pub returns-in-Ok-clause-sent : goal.returns-in-Ok-clause-sent
returns-in-Ok-clause-sent g c =
    λ p. sent_is_machine c.play_lines-played.new.campaign.origin c.play_lines-played.new.campaign.history p (subst IsOpening (sym c.play_lines-played.ensures.campaign.origin) c.seat_count-seats.ensures.opening)

pub returns-in-Err-clause-sent : goal.returns-in-Err-clause-sent
returns-in-Err-clause-sent g c = λ p. sent_is_machine c.args.campaign.now.origin c.args.campaign.now.history p c.seat_count-seats.ensures.opening

pub returns-in-Err-clause-entered : goal.returns-in-Err-clause-entered
returns-in-Err-clause-entered g c =
    told_same (λ text rest. IsPrefix (entries_since c.args.campaign.now c.args.campaign.now) (script_of (world_of c.args.campaign.now) text).entries) (g.S.Source.left c.args.script.now)
    (λ x. prefix_none _ _ (nothing_since c.args.campaign.now))

pub returns-in-Ok-clause-written : goal.returns-in-Ok-clause-written
returns-in-Ok-clause-written g c =
    writes c.play_lines-played.result c.args.campaign.now c.play_lines-played.new.campaign _ _ c.seat_count-seats.ensures.opening c.play_lines-played.ensures.campaign c.play_lines-played.ensures.written

pub returns-in-Err-clause-written : goal.returns-in-Err-clause-written
returns-in-Err-clause-written g c =
    let now = c.args.campaign.now in
    writes Memory now now _ _ c.seat_count-seats.ensures.opening (stays now) (wrote_nothing Memory (world_of now) _ _ (nothing_since now))
