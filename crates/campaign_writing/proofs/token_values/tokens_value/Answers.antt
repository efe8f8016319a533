use Rattle.std.proofs.Common.{map, ap, ◌∙◌, arith}
use Rattle.serde_json.specs.View.{view}
use Rattle.serde_json.proofs.Views.{view-Array}
use Rattle.campaign_writing.specs.Trees.{list}
use Rattle.campaign_writing.specs.Kept.{IsKeptToken}
use Rattle.campaign_writing.specs.Scenes.{token_tree}
use Rattle.campaign_writing.proofs.Parts.{taken_one_more, told_one_more, whole_taken}
use Rattle.campaign_writing.proofs.token_values.tokens_value.Goals as goal

pub loop-place-preserved : goal.loop-place-preserved
loop-place-preserved c = record {
  tree = taken_one_more view token_tree c.loop-place.place c.args.tokens.now c.at.result.now c.loop-place.list.items c.push.new.self.items c.in_ok-token_value.field-0 c.in_ok-push.ensures.items c.at.ensures c.loop-place.invariant.tree c.in_ok-token_value.ensures.tree;
  each = told_one_more IsKeptToken c.loop-place.place c.args.tokens.now c.at.result.now c.at.ensures c.loop-place.invariant.each c.in_ok-token_value.ensures.kept;
}

pub returns-clause-tree : goal.returns-clause-tree
returns-clause-tree c = view-Array c.loop-place.list ∙ ap list (c.loop-place.invariant.tree ∙ ap (map token_tree) (whole_taken c.loop-place.place c.args.tokens.now (omega arith)))
