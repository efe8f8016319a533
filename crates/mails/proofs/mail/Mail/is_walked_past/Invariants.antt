use Rattle.std.proofs.Common.{◌≡◌, ◌+◌, length, drop}
use Rattle.mails.specs.Texts.{text_of}
use Rattle.mails.proofs.mail.Mail.is_walked_past.Given as goal

-- what is left of the limit is for the lines that are left
abbrev pub invariant-loop-place : goal.invariant-loop-place
invariant-loop-place l = l.limit + length (text_of (drop l.place l.self.lines)) ≡ l.left + length (text_of l.self.lines)
