use Rattle.std.proofs.Common.{map, ap, ◌∙◌, arith}
use Rattle.serde_json.specs.Data.{string}
use Rattle.serde_json.specs.View.{view}
use Rattle.serde_json.proofs.Views.{view-Array}
use Rattle.campaign_writing.specs.Trees.{list}
use Rattle.campaign_writing.specs.Kept.{IsTag}
use Rattle.campaign_writing.proofs.Parts.{taken_one_more, told_one_more, whole_taken}
use Rattle.campaign_writing.proofs.seat_values.tags.Goals as goal

pub loop-place-preserved : goal.loop-place-preserved
loop-place-preserved c = record {
  tree = taken_one_more view string c.loop-place.place c.args.book.now.tags c.tag_at.result c.loop-place.list.items c.push.new.self.items c.in_ok-name.field-0 c.in_ok-push.ensures.items c.tag_at.ensures c.loop-place.invariant.tree c.in_ok-name.ensures.tree;
  each = told_one_more IsTag c.loop-place.place c.args.book.now.tags c.tag_at.result c.tag_at.ensures c.loop-place.invariant.each c.in_ok-name.ensures.tag;
}

pub returns-clause-tree : goal.returns-clause-tree
returns-clause-tree c = view-Array c.loop-place.list ∙ ap list (c.loop-place.invariant.tree ∙ ap (map string) (whole_taken c.loop-place.place c.args.book.now.tags (omega arith)))
