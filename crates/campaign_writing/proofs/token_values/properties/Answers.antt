use Rattle.std.proofs.Common.{map, ap, ◌∙◌, arith}
use Rattle.serde_json.specs.View.{view}
use Rattle.serde_json.proofs.Views.{view-Array}
use Rattle.campaign_writing.specs.Trees.{list}
use Rattle.campaign_writing.specs.Kept.{IsProperty}
use Rattle.campaign_writing.specs.Scenes.{property_tree}
use Rattle.campaign_writing.proofs.Parts.{taken_one_more, told_one_more, whole_taken}
use Rattle.campaign_writing.proofs.token_values.properties.Goals as goal

pub loop-place-preserved : goal.loop-place-preserved
loop-place-preserved c = record {
  tree = taken_one_more view property_tree c.loop-place.place c.args.props.now (c.at-tag.result.0, c.at-tag.result.1.now) c.loop-place.list.items c.push.new.self.items c.in_ok-property.field-0 c.in_ok-push.ensures.items c.at-tag.ensures.entry c.loop-place.invariant.tree c.in_ok-property.ensures.tree;
  each = told_one_more IsProperty c.loop-place.place c.args.props.now (c.at-tag.result.0, c.at-tag.result.1.now) c.at-tag.ensures.entry c.loop-place.invariant.each (c.in_ok-property.ensures.tag, c.at-tag.ensures.limit);
}

pub returns-clause-tree : goal.returns-clause-tree
returns-clause-tree c = view-Array c.loop-place.list ∙ ap list (c.loop-place.invariant.tree ∙ ap (map property_tree) (whole_taken c.loop-place.place c.args.props.now (omega arith)))
