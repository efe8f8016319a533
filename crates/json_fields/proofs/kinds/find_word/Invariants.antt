use Rattle.std.proofs.Common.{◌≡◌, map, drop}
use Rattle.json_fields.specs.Kinds.{word_among}
use Rattle.json_fields.proofs.kinds.find_word.Given as goal

-- what is left gives the word the same meaning
abbrev pub invariant-loop-row : goal.invariant-loop-row
invariant-loop-row g l = word_among (map (λ row. (row.0.now, row.1)) (drop l.row-index l.table)) l.word ≡ word_among (map (λ row. (row.0.now, row.1)) l.table) l.word
