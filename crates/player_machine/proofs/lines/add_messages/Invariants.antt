use Rattle.std.proofs.Common.{◌≡◌, ◌++◌, drop}
use Rattle.campaign_law.specs.World.{addressed}
use Rattle.player_machine.proofs.lines.add_messages.Given as goal

-- what was added and what is left make the whole
abbrev pub invariant-loop-message : goal.invariant-loop-message
invariant-loop-message l = l.lines.items ++ addressed l.seat (drop l.message-index l.messages) ≡ l.fn.lines.items ++ addressed l.seat l.messages
