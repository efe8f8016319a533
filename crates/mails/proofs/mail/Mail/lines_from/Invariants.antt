use Rattle.std.proofs.Common.{◌≡◌, ◌++◌, ◌∷◌, [], drop, map}
use Rattle.mails.proofs.mail.Mail.lines_from.Given as goal

-- what was added and what is left make the whole
abbrev pub invariant-loop-place : goal.invariant-loop-place
invariant-loop-place l = l.all.items ++ map (λ line. line ++ 10 ∷ []) (drop l.place l.self.lines) ≡ map (λ line. line ++ 10 ∷ []) (drop l.first l.self.lines)
