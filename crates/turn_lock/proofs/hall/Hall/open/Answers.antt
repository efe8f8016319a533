use Rattle.std.proofs.Common.{◌≡◌, ◌∷◌, [], ◌++◌, ap, ◌∙◌}
use Rattle.turn_lock.proofs.RuledSteps.{opens}
use Rattle.turn_lock.proofs.hall.Hall.open.Goals as goal

pub new-requires : goal.new-requires
new-requires g c = let items : c.push_reserved.new.self.items ≡ c.args.object ∷ [] = c.push_reserved.ensures.items ∙ ap (λ l. l ++ c.args.object ∷ []) c.in-Ok.ensures.items in
    rw (c.of-first.ensures, c.length-length.ensures, items) (opens g.O.Object.origin g.O.Object.history c.args.object)
