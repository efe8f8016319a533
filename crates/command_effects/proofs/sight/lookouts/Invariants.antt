use Rattle.std.specs.Prelude.{All}
use Rattle.player_view.specs.Lookouts.{IsLookout}
use Rattle.command_effects.proofs.sight.lookouts.Given as goal

abbrev pub invariant-loop-place : goal.invariant-loop-place
invariant-loop-place l = All (IsLookout l.scene) l.all.items
