use Rattle.std.proofs.Common.{◌≡◌, ◌≤◌, ◌+◌, true, false, None, Some, sym, ◌∙◌, ap, subst, arith, rules}
use Rattle.std.specs.Prelude.{IfSome}
use Rattle.tokens.specs.declared.token.Token.{Token}
use Rattle.tokens.specs.Tokens.{in_order}
use Rattle.player_view.specs.Fields.{needs_field}
use Rattle.command_looks.specs.declared.touching.Touched.TheVariants.{One}
use Rattle.command_looks.specs.Fields.{IsKeptBut}
use Rattle.command_looks.specs.Touched.{looks_for}
use Rattle.command_looks.proofs.Renewed.{bare_due, due_at, kept_anew, one_needed}
use Rattle.command_looks.proofs.Steps.{looked, then_ok}
use Rattle.command_looks.proofs.fields.renew_at.Goals as goal

pub returns-then-not-needs_field-clause-kept : goal.returns-then-not-needs_field-clause-kept
returns-then-not-needs_field-clause-kept g c =
    let t : Token = c.token_at-token.result.now in
    let ordered : in_order c.args.scene.now.tokens ≡ true = ap in_order (sym c.tokens.ensures.value) ∙ c.len-count.ensures.ordered in
    let bare : needs_field t ≡ false = first_of (cc, grind arith, search rules) in
    let kept : IsKeptBut t.id c.args.scene.now c.args.fields.now = subst (λ o. IfSome o (λ (u : Token). IsKeptBut u.id c.args.scene.now c.args.fields.now)) c.token_at-token.ensures.value c.requires.kept in
    kept_anew c.args.scene.now t.id c.args.fields.now c.drop_field.new.self None kept c.drop_field.ensures.told
    (due_at c.args.scene.now c.args.place t None ordered c.token_at-token.ensures.value (bare_due c.args.scene.now t bare))

pub returns-in_err-field-clause-looks : goal.returns-in_err-field-clause-looks
returns-in_err-field-clause-looks g c =
    let t : Token = c.token_at-token.result.now in
    let needed : needs_field t ≡ true = first_of (cc, grind arith, search rules) in
    subst (λ o. IfSome o (λ (u : Token). g.E.Eye.looks_made c.field_on.new.eye ≤ g.E.Eye.looks_made c.args.eye.now + looks_for c.args.scene.now.tokens (One u.id))) (sym c.token_at-token.ensures.value)
    (omega (arith, c.field_on.ensures.looks, one_needed c.args.scene.now.tokens c.args.place t c.token_at-token.ensures.value needed))

pub returns-clause-kept : goal.returns-clause-kept
returns-clause-kept g c =
    let t : Token = c.token_at-token.result.now in
    let ordered : in_order c.args.scene.now.tokens ≡ true = ap in_order (sym c.tokens.ensures.value) ∙ c.len-count.ensures.ordered in
    let needed : needs_field t ≡ true = first_of (cc, grind arith, search rules) in
    let kept : IsKeptBut t.id c.args.scene.now c.args.fields.now = subst (λ o. IfSome o (λ (u : Token). IsKeptBut u.id c.args.scene.now c.args.fields.now)) c.token_at-token.ensures.value c.requires.kept in
    then_ok c.keep_field.result _ _
    (λ told. kept_anew c.args.scene.now t.id c.args.fields.now c.keep_field.new.fields (Some c.in_ok-field.field) kept told
    (due_at c.args.scene.now c.args.place t (Some c.in_ok-field.field) ordered c.token_at-token.ensures.value
    (looked c.args.scene.now t c.map_under-map.result.now c.in_ok-field.field needed c.map_under-map.ensures.value c.in_ok-field.ensures.field)))
    c.keep_field.ensures

pub returns-clause-looks : goal.returns-clause-looks
returns-clause-looks g c =
    let t : Token = c.token_at-token.result.now in
    let needed : needs_field t ≡ true = first_of (cc, grind arith, search rules) in
    subst (λ o. IfSome o (λ (u : Token). g.E.Eye.looks_made c.field_on.new.eye ≤ g.E.Eye.looks_made c.args.eye.now + looks_for c.args.scene.now.tokens (One u.id))) (sym c.token_at-token.ensures.value)
    (omega (arith, c.field_on.ensures.looks, one_needed c.args.scene.now.tokens c.args.place t c.token_at-token.ensures.value needed))
