use Rattle.std.proofs.Common.{ap, ◌∙◌}
use Rattle.world.specs.Rules.{is_player}
use Rattle.std.specs.Map.Iter.{deref_pair}
use Rattle.std.proofs.lemmas.Map.Iter.{rest_more}
use Rattle.campaign_scene.specs.Kept.{kept}
use Rattle.campaign_scene.specs.Fog.{fog_of_map}
use Rattle.campaign_json.proofs.Each.{member_more}
use Rattle.campaign_scene.proofs.fog.each_map.Goals as goal

pub fog_of_map-requires : goal.fog_of_map-requires
fog_of_map-requires c = ap (λ k. is_player k.0 c.args.seat) c.loop-key.invariant.kept ∙ c.requires

pub loop-key-preserved : goal.loop-key-preserved
loop-key-preserved c =
    let step = rest_more deref_pair c.loop-key.key-iterator c.next.new.self c.next.result _ c.in-Some.is c.next.ensures.steps in
    member_more (fog_of_map c.args.seat) kept c.args.members.now.entries c.args.scene.now c.loop-key.key-iterator c.next.new.self c.loop-key.scene c.fog_of_map.new.scene c.in-Some.key.now c.in-Some.value.now c.loop-key.invariant step (rw c.as_str.ensures.value at c.in-Ok.ensures.exact) c.in-Ok.ensures.kept
