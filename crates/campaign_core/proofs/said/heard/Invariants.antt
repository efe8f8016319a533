use Rattle.std.proofs.Common.{◌≡◌, drop}
use Rattle.std.specs.Prelude.{find}
use Rattle.campaign_core.specs.Said.{is_heard}
use Rattle.campaign_core.proofs.said.heard.Given as goal

-- those that are left answer for all
abbrev pub invariant-loop-message : goal.invariant-loop-message
invariant-loop-message l = find (is_heard l.seat l.joined) (drop l.message-index l.messages) ≡ find (is_heard l.seat l.joined) l.messages
