use Rattle.tabletop.proofs.DrillLemmas.{no_bad_line, no_too_large}
use Rattle.tabletop.proofs.drilling.play_script.Goals as goal

pub returns-clause-no_bad_line : goal.returns-clause-no_bad_line
returns-clause-no_bad_line g c = λ number is. no_bad_line c.args.script c.args.campaign.now c.play_counted.new.campaign c.new-text.result c.new-text.ensures c.requires.done c.play_counted.result.0 number c.play_counted.ensures.entered is

pub returns-clause-no_too_large : goal.returns-clause-no_too_large
returns-clause-no_too_large g c = λ is. no_too_large c.args.script c.args.campaign.now c.play_counted.new.campaign c.new-text.result c.new-text.ensures c.requires.done c.play_counted.result.0 c.play_counted.ensures.entered is
