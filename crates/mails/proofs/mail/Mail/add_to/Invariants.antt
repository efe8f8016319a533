use Rattle.std.proofs.Common.{◌≡◌, ◌++◌, drop}
use Rattle.mails.specs.Texts.{tagged_text}
use Rattle.mails.proofs.mail.Mail.add_to.Given as goal

-- what was added and what is left make the whole
abbrev pub invariant-loop-place : goal.invariant-loop-place
invariant-loop-place l = l.text.items ++ tagged_text l.tag (drop l.place l.self.lines) ≡ l.fn.text.items ++ tagged_text l.tag (drop l.first l.self.lines)
