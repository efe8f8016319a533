use Rattle.std.proofs.Common.{◌∙◌, sym}
use Rattle.std.specs.Map.Iter.{deref_pair}
use Rattle.std.proofs.lemmas.Map.Iter.{rest_more}
use Rattle.json_fields.proofs.Keys.{unknown_found, unknown_passed, least_unknown}
use Rattle.json_fields.proofs.fields.first_unknown.Goals as goal

pub returns-then-not-is_known-clause-first : goal.returns-then-not-is_known-clause-first
returns-then-not-is_known-clause-first c =
    let step = rest_more deref_pair c.loop-key.key-iterator c.next.new.self c.next.result _ c.in-Some.is c.next.ensures.steps in
    unknown_found c.args.known.now c.as_str-name.result.now c.in-Some.key.now c.in-Some.field-0-1.now c.loop-key.key-iterator c.next.new.self step c.as_str-name.ensures.value (sym c.is_known.ensures ∙ c.if-not-is_known.true) ∙ c.loop-key.invariant

pub returns-then-not-is_known-clause-least : goal.returns-then-not-is_known-clause-least
returns-then-not-is_known-clause-least c = least_unknown _ _ _ c.into_iter-key-iterator.ensures.into_iter_gives.5 (returns-then-not-is_known-clause-first c)

pub loop-key-preserved : goal.loop-key-preserved
loop-key-preserved c =
    let step = rest_more deref_pair c.loop-key.key-iterator c.next.new.self c.next.result _ c.in-Some.is c.next.ensures.steps in
    unknown_passed c.args.known.now c.as_str-name.result.now c.in-Some.key.now c.in-Some.field-0-1.now c.loop-key.key-iterator c.next.new.self step c.as_str-name.ensures.value (sym c.is_known.ensures ∙ c.if-not-is_known.false) ∙ c.loop-key.invariant
