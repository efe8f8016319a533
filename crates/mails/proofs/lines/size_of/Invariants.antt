use Rattle.std.proofs.Common.{◌≡◌, ◌+◌, length, drop}
use Rattle.mails.specs.Texts.{text_of}
use Rattle.mails.proofs.lines.size_of.Given as goal

-- what was counted and what is left make the whole
abbrev pub invariant-loop-line : goal.invariant-loop-line
invariant-loop-line l = l.size + length (text_of (drop l.line-index l.lines)) ≡ length (text_of l.lines)
