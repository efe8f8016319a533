use Rattle.std.proofs.Common.{◌≡◌, false, arith, rules}
use Rattle.names.specs.TokenId.{id_eq}
use Rattle.command_looks.proofs.Renewed.{none_next}
use Rattle.command_looks.proofs.fields.place_of.Goals as goal

pub loop-place-preserved : goal.loop-place-preserved
loop-place-preserved c =
    let other : id_eq c.token_at.result.now.id c.args.id.now ≡ false = first_of (cc, grind arith, search rules) in
    none_next c.args.id.now c.args.scene.now.tokens c.loop-place.place c.token_at.result.now c.token_at.ensures.value other c.loop-place.invariant
