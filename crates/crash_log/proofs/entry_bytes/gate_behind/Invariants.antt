use Rattle.std.proofs.Common.{◌≡◌, ◌<◌, ◌+◌, ◌^◌, length, take}
use Rattle.std.specs.Prelude.{All}
use Rattle.std.specs.List.{flat_map}
use Rattle.crash_log.specs.Entries.{Fits}
use Rattle.crash_log.specs.Log.{record_bytes}
use Rattle.crash_log.proofs.entry_bytes.gate_behind.Given as goal

abbrev pub invariant-loop-entry : goal.invariant-loop-entry
invariant-loop-entry l = record {
  place : l.next ≡ l.gate + length (flat_map record_bytes (take l.entry-index l.entries));
  low : l.next < 2 ^ 30;
  fit : All Fits (take l.entry-index l.entries);
}
