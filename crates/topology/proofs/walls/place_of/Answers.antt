use Rattle.std.proofs.Common.{◌≡◌, ℕ, ◌∙◌, ap, sym, arith, get_or, length, inl, inr}
use Rattle.std.proofs.lemmas.Bool.{cases_eq}
use Rattle.std.proofs.lemmas.List.{get_or_default}
use Rattle.topology.specs.declared.wall.Wall.{Wall}
use Rattle.topology.specs.Order.{wall_before}
use Rattle.topology.proofs.WallLemmas.{is_place}
use Rattle.topology.proofs.walls.place_of.Goals as goal

pub returns-then-not-is_before-clause-value : goal.returns-then-not-is_before-clause-value
returns-then-not-is_before-clause-value c =
    is_place c.args.wall.now c.args.walls.now c.loop-place.place c.index-walls-place.result (omega arith) c.loop-place.invariant
    (λ _. ap (λ (w : Wall). wall_before w c.args.wall.now) (sym c.index-walls-place.is) ∙ sym c.is_before.ensures ∙ c.if-not-is_before.true)

pub loop-place-preserved : goal.loop-place-preserved
loop-place-preserved c = λ k d h.
    elim (cases_eq k c.loop-place.place) [
      | inl e ↦
          ap (λ (n : ℕ). wall_before (get_or c.args.walls.now n d) c.args.wall.now) e
          ∙ ap (λ (w : Wall). wall_before w c.args.wall.now)
          (get_or_default c.args.walls.now c.loop-place.place d c.index-walls-place.result c.loop-place-test.true ∙ sym c.index-walls-place.is)
          ∙ sym c.is_before.ensures ∙ c.if-not-is_before.false
      | inr ne ↦ c.loop-place.invariant k d (omega arith)
    ]

pub returns-clause-value : goal.returns-clause-value
returns-clause-value c =
    let end : c.loop-place.place ≡ length c.args.walls.now = omega arith in
    sym end
    ∙ is_place c.args.wall.now c.args.walls.now c.loop-place.place c.args.wall.now (omega arith) c.loop-place.invariant
    (λ h. absurd (omega arith))
