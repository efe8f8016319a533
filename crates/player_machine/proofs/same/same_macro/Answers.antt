use Rattle.std.proofs.Common.{◌+◌, ◌&&◌, ◌∙◌, drop, ap, sym}
use Rattle.views.specs.Same.{same_bytes, same_props}
use Rattle.player_machine.proofs.SameLoops.{same_next_at}
use Rattle.player_machine.proofs.same.same_macro.Goals as goal

pub returns : goal.returns
returns c =
    same_next_at same_bytes c.args.a.now.macros c.args.b.now.macros c.args.place _ _ c.macro_at-name.ensures c.macro_at-name2.ensures
    ∙ ap (λ t. t && same_props (drop (c.args.place + 1) c.args.a.now.macros) (drop (c.args.place + 1) c.args.b.now.macros)) (sym c.same_named_text.ensures)
