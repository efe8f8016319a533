use Rattle.std.proofs.Common.{refl}
use Rattle.campaign_law.specs.World.{report_of, outcome_of}
use Rattle.campaign_law.proofs.Worlds.{fits_opened, fits_always}
use Rattle.campaign_law.proofs.NewTokens.{makes_new}
use Rattle.campaign_law.proofs.WrittenWorlds.{written_opened, written_always}
use Rattle.command_effects.proofs.KeptScenes.{settled_kept}
use Rattle.campaign_law.proofs.ScenesOfWorlds.{tables_always}
use Rattle.campaign_law.proofs.worlds_fit.Goals as goal

pub returns-clause-opens : goal.returns-clause-opens
returns-clause-opens c = fits_opened

pub returns-clause-always : goal.returns-clause-always
returns-clause-always c = fits_always

pub returns-clause-new : goal.returns-clause-new
returns-clause-new c = λ w e command fits done. makes_new w e (report_of w e) (outcome_of w e) command fits refl done

pub returns-clause-opens_written : goal.returns-clause-opens_written
returns-clause-opens_written c = written_opened

pub returns-clause-written : goal.returns-clause-written
returns-clause-written c = written_always

pub returns-clause-opens_tables : goal.returns-clause-opens_tables
returns-clause-opens_tables c = λ opened is. settled_kept opened.scene is

pub returns-clause-tables : goal.returns-clause-tables
returns-clause-tables c = tables_always
