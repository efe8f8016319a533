use Rattle.std.proofs.Common.{ap, subst, sym, ◌≡◌, ◌∙◌, true, arith}
use Rattle.tokens.specs.Tokens.{in_order}
use Rattle.world.specs.Scene.{Scene}
use Rattle.command_looks.specs.Fields.{field_for}
use Rattle.command_looks.proofs.Along.{placed_due}
use Rattle.command_looks.proofs.OneLook.{one_look}
use Rattle.command_looks.proofs.way.stop_at.Goals as goal

pub renew-requires : goal.renew-requires
renew-requires g c other apart =
    c.requires.kept other apart
    ∙ sym (ap (λ (s : Scene). field_for s other) c.place.ensures ∙ placed_due c.args.way.now.id c.args.way.now.map c.args.cell c.args.scene.now other apart)

pub returns-in_err-renew-clause-looks : goal.returns-in_err-renew-clause-looks
returns-in_err-renew-clause-looks g c =
    let ordered : in_order c.place.new.self.tokens ≡ true = subst (λ tokens. in_order tokens ≡ true) c.tokens.ensures.value c.len-count.ensures.ordered in
    omega (arith, c.renew.ensures.looks, one_look c.args.way.now.id c.place.new.self.tokens ordered)

pub returns-clause-looks : goal.returns-clause-looks
returns-clause-looks g c =
    let ordered : in_order c.place.new.self.tokens ≡ true = subst (λ tokens. in_order tokens ≡ true) c.tokens.ensures.value c.len-count.ensures.ordered in
    omega (arith, c.renew.ensures.looks, one_look c.args.way.now.id c.place.new.self.tokens ordered)
