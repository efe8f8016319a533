use Rattle.tabletop.proofs.DrillLemmas.{ready, counts_script, done_there}
use Rattle.tabletop.proofs.drilling.play_drill.Goals as goal

pub play_script-played-requires-clause-ready : goal.play_script-played-requires-clause-ready
play_script-played-requires-clause-ready g c = ready c.args.script c.args.campaign.now c.args.campaign.now c.requires.opens

pub play_script-played-requires-clause-done : goal.play_script-played-requires-clause-done
play_script-played-requires-clause-done g c = done_there c.args.script c.args.campaign.now c.args.campaign.now c.requires.opens c.requires.done

pub returns-in-Done-clause-counts : goal.returns-in-Done-clause-counts
returns-in-Done-clause-counts g c =
    let run = c.play_script-played in
    counts_script c.args.script c.args.campaign.now run.new.campaign c.requires.opens run.result.0 run.result.1 c.counted.result c.in-Done.is run.ensures.campaign run.ensures.entered run.ensures.counted c.counted.ensures.tally c.counted.ensures.seen c.counted.ensures.looks
