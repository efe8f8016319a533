-- How a run of the program ends: its status and its last line. This project's own table.
use Rattle.std.specs.Prelude.{◌≡◌, ℕ, List, [], ◌∷◌, ◌++◌, codes, decimal}
use Rattle.campaign_json.specs.declared.faults.Rule.{Rule}
use Rattle.campaign_json.specs.declared.faults.Rule.TheVariants.{Json, Missing, Unknown, Kind, Range, Form, Twice, Cross}
use Rattle.tabletop.specs.declared.endings.Ended.{Ended}
use Rattle.tabletop.specs.declared.endings.Ended.TheVariants.{Done, Usage, BadCampaign, ReadFault, WriteFault, Memory, BadLine, TooLarge, DoorFault, Differs}

abbrev pub status_of : Ended → ℕ
status_of Done = 0
status_of Usage = 2
status_of (BadCampaign breach) = 3
status_of ReadFault = 4
status_of WriteFault = 5
status_of Memory = 6
status_of (BadLine number) = 7
status_of TooLarge = 8
status_of DoorFault = 9
status_of Differs = 14

-- the name of a rule of the campaign text
abbrev pub rule_word : Rule → List ℕ
rule_word Json = codes "json"
rule_word Missing = codes "missing"
rule_word Unknown = codes "unknown"
rule_word Kind = codes "kind"
rule_word Range = codes "range"
rule_word Form = codes "form"
rule_word Twice = codes "twice"
rule_word Cross = codes "cross"

abbrev pub last_line : Ended → List ℕ
last_line Done = []
last_line Usage =
    codes "tabletop: usage: play FILE [--end], check FILE, drill N LINES, serve FILE PORT COUNT [--end], verify FILE SCRIPT SEAT TRANSCRIPT, compare FILE SCRIPT FILE SCRIPT SEAT" ++ 10 ∷ []
last_line (BadCampaign breach) = codes "tabletop: bad campaign at " ++ (breach.path ++ (codes ": " ++ (rule_word breach.rule ++ 10 ∷ [])))
last_line ReadFault = codes "tabletop: read fault" ++ 10 ∷ []
last_line WriteFault = []
last_line Memory = codes "tabletop: out of memory" ++ 10 ∷ []
last_line (BadLine number) = codes "tabletop: bad script line " ++ (decimal number ++ 10 ∷ [])
last_line TooLarge = codes "tabletop: too large" ++ 10 ∷ []
last_line DoorFault = codes "tabletop: door fault" ++ 10 ∷ []
last_line Differs = []

-- the last line has a path or a number of the run's own
abbrev pub HasOwnLine : Ended → Type 0
HasOwnLine (BadCampaign breach) = Unit {0}
HasOwnLine (BadLine number) = Unit {0}
HasOwnLine ended = ⊥

-- the last line, where it is the same in each run
abbrev pub IsFixedLine : Ended → List ℕ → Type 0
IsFixedLine (BadCampaign breach) line = Unit {0}
IsFixedLine (BadLine number) line = Unit {0}
IsFixedLine ended line = line ≡ last_line ended
