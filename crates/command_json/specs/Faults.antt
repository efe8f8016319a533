-- What a reader of lines answers.
use Rattle.std.specs.Prelude.{◌≡◌, Result, Err}
use Rattle.command_json.specs.declared.command.LineFault.{LineFault}
use Rattle.command_json.specs.declared.command.LineFault.TheVariants.{BadJson, BadCommand, GmOnly, BadField, Memory}

-- reading gives the fault, unless memory ran out
abbrev pub Fails : {Y : Type 0} → LineFault → Result Y LineFault → Type 0
Fails BadJson r = r ≡ Err BadJson
Fails BadCommand r = r ≡ Err BadCommand
Fails GmOnly r = r ≡ Err GmOnly
Fails (BadField name) r = r ≡ Err (BadField name)
Fails Memory r = Unit {0}
