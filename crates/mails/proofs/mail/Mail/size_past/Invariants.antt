use Rattle.std.proofs.Common.{◌≡◌, length, drop}
use Rattle.mails.specs.Texts.{text_of}
use Rattle.mails.proofs.mail.Mail.size_past.Given as goal

-- what is left of the count is that of the lines that are left
abbrev pub invariant-loop-place : goal.invariant-loop-place
invariant-loop-place l = l.size ≡ length (text_of (drop l.place l.self.lines))
