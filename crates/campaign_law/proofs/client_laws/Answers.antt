use Rattle.campaign_law.proofs.Clients.{lines_tell}
use Rattle.campaign_law.proofs.HeldViews.{holds_view}
use Rattle.campaign_law.proofs.client_laws.Goals as goal

pub returns-clause-lines : goal.returns-clause-lines
returns-clause-lines c = lines_tell

pub returns-clause-holds : goal.returns-clause-holds
returns-clause-holds c = holds_view
