use Rattle.std.proofs.Common.{◌≡◌, None, take}
use Rattle.tokens.specs.Tokens.{token_of}
use Rattle.command_looks.proofs.fields.place_of.Given as goal

abbrev pub invariant-loop-place : goal.invariant-loop-place
invariant-loop-place l = token_of l.id (take l.place l.scene.tokens) ≡ None
