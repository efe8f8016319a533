-- Hellos.
use Rattle.std.specs.Prelude.{ℕ, List, Option, Some, None, Result, Ok, Err}
use Rattle.command_json.specs.declared.command.Command.{Command}
use Rattle.command_json.specs.declared.command.Command.TheVariants.{Hello}
use Rattle.command_json.specs.declared.command.LineFault.{LineFault}

-- the seat and key of a hello
abbrev pub hello_part : Result Command LineFault → Option (ℕ × List ℕ)
hello_part (Ok (Hello seat key)) = Some (seat, key)
hello_part (Ok command) = None
hello_part (Err fault) = None
