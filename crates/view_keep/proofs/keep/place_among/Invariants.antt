use Rattle.std.proofs.Common.{◌≡◌}
use Rattle.view_marks.specs.Placed.{placed_token}
use Rattle.view_keep.proofs.Placing.{first_mapped}
use Rattle.view_keep.proofs.keep.place_among.Given as goal

-- so many stand where they are to
abbrev pub invariant-loop-token : goal.invariant-loop-token
invariant-loop-token l = l.token-items ≡ first_mapped (placed_token l.placed) l.token-index l.fn.tokens.items
