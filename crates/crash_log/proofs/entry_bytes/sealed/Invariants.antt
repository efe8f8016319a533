use Rattle.std.proofs.Common.{◌≡◌, take}
use Rattle.std.specs.List.{flat_map}
use Rattle.crash_log.specs.Log.{record_bytes}
use Rattle.crash_log.proofs.entry_bytes.sealed.Given as goal

abbrev pub invariant-loop-entry : goal.invariant-loop-entry
invariant-loop-entry l = l.group.items ≡ flat_map record_bytes (take l.entry-index l.entries)
