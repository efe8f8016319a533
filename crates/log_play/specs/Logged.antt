-- How a script that is played and logged ends.
use Rattle.std.specs.Prelude.{Result, Ok, Err}
use Rattle.script_play.specs.declared.run.Played.{Played}
use Rattle.script_play.specs.declared.run.Played.TheVariants as played
use Rattle.log_play.specs.declared.logged.Logged.{Logged}
use Rattle.log_play.specs.declared.logged.Logged.TheVariants.{Done, ReadFault, WriteFault, BadLine, TooLarge, DiskFault, Full, Memory}

-- as what a script that is played alone would end: a fault of the disk and a full log stop it between two entries, as want of
-- memory may
abbrev pub as_played : Logged → Played
as_played Done = played.Done
as_played ReadFault = played.ReadFault
as_played WriteFault = played.WriteFault
as_played (BadLine number) = played.BadLine number
as_played TooLarge = played.TooLarge
as_played DiskFault = played.Memory
as_played Full = played.Memory
as_played Memory = played.Memory

-- and back, where the log had no part in it
abbrev pub logged_by : Played → Logged
logged_by played.Done = Done
logged_by played.ReadFault = ReadFault
logged_by played.WriteFault = WriteFault
logged_by (played.BadLine number) = BadLine number
logged_by played.TooLarge = TooLarge
logged_by played.Memory = Memory

-- how a part of a run ended that went on where it was done
abbrev pub logged : {A : Type 0} → Result A Logged → Logged
logged (Ok value) = Done
logged (Err stop) = stop

-- an entry wasn't logged
abbrev pub IsLogStop : Logged → Type 0
IsLogStop Done = ⊥
IsLogStop ReadFault = ⊥
IsLogStop WriteFault = ⊥
IsLogStop (BadLine number) = ⊥
IsLogStop TooLarge = ⊥
IsLogStop DiskFault = Unit {0}
IsLogStop Full = Unit {0}
IsLogStop Memory = Unit {0}

-- a fact that a fault of the disk ends
abbrev pub UnlessDiskFault : Logged → Type 0 → Type 0
UnlessDiskFault Done P = P
UnlessDiskFault ReadFault P = P
UnlessDiskFault WriteFault P = P
UnlessDiskFault (BadLine number) P = P
UnlessDiskFault TooLarge P = P
UnlessDiskFault DiskFault P = Unit {0}
UnlessDiskFault Full P = P
UnlessDiskFault Memory P = P
