use Rattle.campaign_writing.proofs.ReadWorlds.{read_written}
use Rattle.campaign_core.proofs.campaign.Campaign.open.Goals as goal

pub of_world-requires-clause-written : goal.of_world-requires-clause-written
of_world-requires-clause-written g c = let is = read_written c.args.text.now c.in-Ok.world c.in-Ok.ensures.exact in record { tokens = is.tokens; keys = is.keys; macros = is.macros }
