use Rattle.std.proofs.Common.{◌≡◌, ◌++◌, ◌∷◌, [], map, take}
use Rattle.player_machine.proofs.lines.ended.Given as goal

abbrev pub invariant-loop-line : goal.invariant-loop-line
invariant-loop-line l = l.texts.items ≡ map (λ line. line ++ 10 ∷ []) (take l.line-index l.lines)
