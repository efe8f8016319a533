use Rattle.std.proofs.Common.{◌≡◌, flat_map, string_bytes}
use Rattle.campaign_json.specs.Reading.{escaped_letter}
use Rattle.campaign_json.proofs.faults.escaped.Given as goal

abbrev pub invariant-loop-letter : goal.invariant-loop-letter
invariant-loop-letter l = string_bytes l.token ≡ flat_map escaped_letter l.yielded
