use Rattle.std.proofs.Common.{◌≡◌, ℕ, ap, sym, subst, ◌∙◌}
use Rattle.std.specs.Prelude.{None, Option, Some}
use Rattle.names.specs.declared.token_id.TokenId.{TokenId}
use Rattle.initiative.specs.Fights.{IsFight, Rounds, begun_with, following, passed_to, token_at}
use Rattle.initiative.proofs.Rounds.{passed_is_fight}
use Rattle.initiative.proofs.fight.Fight.pass_on.Goals as goal

pub invariant_of-self : goal.invariant_of-self
invariant_of-self c =
    let old : Rounds = record { list = c.self.inside.entries.keys; turn = c.self.inside.turn; round = c.self.inside.round } in
    let is : following old.turn old.list ≡ Some c.in-Some.next = ap (λ (r : Rounds). following r.turn r.list) c.self.view_is ∙ sym c.in-Some.ensures in
    subst (λ (o : Option TokenId). IsFight (passed_to o old)) is (passed_is_fight old c.self.invariant)

pub invariant_of-self-in-Some-token_at : goal.invariant_of-self-in-Some-token_at
invariant_of-self-in-Some-token_at c =
    let old : Rounds = record { list = c.self.inside.entries.keys; turn = c.self.inside.turn; round = c.self.inside.round } in
    let none : following old.turn old.list ≡ None = ap (λ (r : Rounds). following r.turn r.list) c.self.view_is ∙ sym c.in_default.ensures in
    let begun : IsFight (begun_with (token_at old.list 0) old) = subst (λ (o : Option TokenId). IsFight (passed_to o old)) none (passed_is_fight old c.self.invariant) in
    subst (λ (n : ℕ). IsFight (record { list = old.list; turn = Some c.in-Some-token_at.first; round = n })) (sym c.min-self-inside.ensures)
    (subst (λ (o : Option TokenId). IsFight (begun_with o old)) (sym c.in-Some-token_at.ensures) begun)
