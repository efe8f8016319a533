use Rattle.std.specs.Map.Iter.{deref_pair}
use Rattle.std.proofs.lemmas.Map.Iter.{rest_more}
use Rattle.campaign_scene.specs.Kept.{kept}
use Rattle.campaign_scene.specs.Types.{light}
use Rattle.campaign_json.proofs.Each.{member_more}
use Rattle.campaign_scene.proofs.types.each_light.Goals as goal

pub loop-key-preserved : goal.loop-key-preserved
loop-key-preserved c =
    let step = rest_more deref_pair c.loop-key.key-iterator c.next.new.self c.next.result _ c.in-Some.is c.next.ensures.steps in
    member_more (light c.args.format) kept c.args.members.now.entries c.args.scene.now c.loop-key.key-iterator c.next.new.self c.loop-key.scene c.read_light.new.scene c.in-Some.key.now c.in-Some.value.now c.loop-key.invariant step (rw c.as_str.ensures.value at c.in-Ok.ensures.exact) c.in-Ok.ensures.kept
