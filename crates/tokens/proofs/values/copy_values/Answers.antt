use Rattle.std.proofs.Common.{◌≡◌, ℕ, suc, ◌+◌, List, take, ap, ◌∙◌, arith}
use Rattle.tokens.specs.Properties.{with_value}
use Rattle.tokens.proofs.PropertyLemmas.{taken_more}
use Rattle.tokens.proofs.values.copy_values.Goals as goal

pub loop-place-preserved : goal.loop-place-preserved
loop-place-preserved c =
    let next : suc c.loop-place.place ≡ c.loop-place.place + 1 = omega arith in
    c.in_ok-put_value.ensures.entries
    ∙ ap (λ (v : List ℕ). with_value c.value_at-name.result.0 v c.loop-place.copy.entries) c.in_ok-share.ensures
    ∙ ap (with_value c.value_at-name.result.0 c.value_at-name.result.1.now) c.loop-place.invariant
    ∙ taken_more c.args.values.now.entries c.loop-place.place c.value_at-name.result.0 c.value_at-name.result.1.now
    c.len-place-end.ensures.unique c.value_at-name.ensures
    ∙ ap (λ (n : ℕ). take n c.args.values.now.entries) next
