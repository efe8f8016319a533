use Rattle.campaign_writing.proofs.ReadWorlds.{read_written}
use Rattle.campaign_writing.proofs.campaign.read_worlds_are_written.Goals as goal

pub returns : goal.returns
returns c = read_written
