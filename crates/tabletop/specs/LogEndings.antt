-- How a run with a log ends: its status and its last line. This project's own table.
use Rattle.std.specs.Prelude.{◌≡◌, ◌⊎◌, ℕ, List, [], ◌∷◌, ◌++◌, codes, decimal}
use Rattle.campaign_core.specs.declared.campaign.OpenFault.{OpenFault}
use Rattle.campaign_core.specs.declared.campaign.OpenFault.TheVariants as fault
use Rattle.log_play.specs.declared.logged.Logged.{Logged}
use Rattle.log_play.specs.declared.logged.Logged.TheVariants as logged
use Rattle.tabletop.specs.declared.endings.Ended.TheVariants as plain
use Rattle.tabletop.specs.declared.log_end.LogEnded.{LogEnded}
use Rattle.tabletop.specs.declared.log_end.LogEnded.TheVariants.{Plain, Usage, DiskFault, BadLog, OtherCampaign, Full}
use Rattle.tabletop.specs.Endings.{status_of, last_line, HasOwnLine}

abbrev pub log_status : LogEnded → ℕ
log_status (Plain ended) = status_of ended
log_status Usage = 2
log_status DiskFault = 10
log_status (BadLog at) = 11
log_status OtherCampaign = 12
log_status Full = 13

abbrev pub log_line : LogEnded → List ℕ
log_line (Plain ended) = last_line ended
log_line Usage = codes "tabletop: usage: play FILE --log LOG [--end]" ++ 10 ∷ []
log_line DiskFault = codes "tabletop: disk fault" ++ 10 ∷ []
log_line (BadLog at) = codes "tabletop: bad log at " ++ (decimal at ++ 10 ∷ [])
log_line OtherCampaign = codes "tabletop: log of another campaign" ++ 10 ∷ []
log_line Full = codes "tabletop: log full" ++ 10 ∷ []

-- the last line has a path or a number of the run's own
abbrev pub HasOwnLogLine : LogEnded → Type 0
HasOwnLogLine (Plain ended) = HasOwnLine ended
HasOwnLogLine (BadLog at) = Unit {0}
HasOwnLogLine ended = ⊥

-- as what an ending is told; where memory is wanting for a line of its own, as that
abbrev pub IsToldInLog : LogEnded → LogEnded → Type 0
IsToldInLog ended told = (told ≡ ended) ⊎ (HasOwnLogLine ended × (told ≡ Plain plain.Memory))

-- the last line, where it is the log's own and the same in each run
abbrev pub IsFixedLogLine : LogEnded → List ℕ → Type 0
IsFixedLogLine (Plain ended) line = Unit {0}
IsFixedLogLine (BadLog at) line = Unit {0}
IsFixedLogLine ended line = line ≡ log_line ended

-- how a script that was played and logged ends the run
abbrev pub ended_logged : Logged → LogEnded
ended_logged logged.Done = Plain plain.Done
ended_logged logged.ReadFault = Plain plain.ReadFault
ended_logged logged.WriteFault = Plain plain.WriteFault
ended_logged (logged.BadLine number) = Plain (plain.BadLine number)
ended_logged logged.TooLarge = Plain plain.TooLarge
ended_logged logged.DiskFault = DiskFault
ended_logged logged.Full = Full
ended_logged logged.Memory = Plain plain.Memory

-- as what a text ends the run that opens no campaign
abbrev pub unopened : OpenFault → LogEnded
unopened (fault.Bad breach) = Plain (plain.BadCampaign breach)
unopened fault.Memory = Plain plain.Memory
