use Rattle.std.proofs.Common.{◌+◌, ◌&&◌, ◌∙◌, drop, ap, sym}
use Rattle.std.specs.Str.{bytes_eq}
use Rattle.std.specs.Cmp.Lexicographic.{pointwise}
use Rattle.player_machine.proofs.SameLoops.{same_next_at}
use Rattle.player_machine.proofs.same.same_tag.Goals as goal

pub returns : goal.returns
returns c =
    same_next_at bytes_eq c.args.a.now.tags c.args.b.now.tags c.args.place _ _ c.tag_at.ensures c.tag_at-2.ensures
    ∙ ap (λ t. t && pointwise bytes_eq (drop (c.args.place + 1) c.args.a.now.tags) (drop (c.args.place + 1) c.args.b.now.tags)) (sym c.same_name.ensures)
