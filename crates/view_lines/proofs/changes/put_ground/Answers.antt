use Rattle.std.proofs.Common.{rules, ◌≡◌, ◌∙◌, [], sym, subst}
use Rattle.std.specs.Prelude.{codes}
use Rattle.std.proofs.lemmas.List.{nil_from_length}
use Rattle.json_lines.specs.Added.{Adds}
use Rattle.view_lines.specs.Tokens.{list_tokens}
use Rattle.view_lines.proofs.NoLetters.{no_terrain}
use Rattle.view_lines.proofs.changes.put_ground.Goals as goal

pub returns-then-is_empty : goal.returns-then-is_empty
returns-then-is_empty c =
    let change = c.args.change.now in
    let writer = c.args.writer.now in
    let none : change.letters ≡ [] = sym c.items.ensures ∙ nil_from_length c.items.result.now (search rules) in
    let nothing : Adds writer writer [] = search rules in
    subst (λ terrain. Adds writer writer (list_tokens (codes "ground") terrain)) (sym (no_terrain change none)) nothing
