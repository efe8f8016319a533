use Rattle.std.specs.Map.Iter.{deref_pair}
use Rattle.std.proofs.lemmas.Map.Iter.{rest_more}
use Rattle.campaign_file.specs.Macros.{unfilled, with_read}
use Rattle.campaign_json.proofs.Each.{member_more}
use Rattle.campaign_file.proofs.macros.each_macro.Goals as goal

pub loop-key-preserved : goal.loop-key-preserved
loop-key-preserved c =
    let step = rest_more deref_pair c.loop-key.key-iterator c.next.new.self c.next.result _ c.in-Some.is c.next.ensures.steps in
    member_more with_read unfilled c.args.members.now.entries c.args.book.now c.loop-key.key-iterator c.next.new.self c.loop-key.book c.read_one.new.book c.in-Some.key.now c.in-Some.value.now c.loop-key.invariant step (rw c.as_str.ensures.value at c.in-Ok.ensures.exact) c.in-Ok.ensures.rest
