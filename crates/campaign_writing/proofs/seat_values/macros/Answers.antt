use Rattle.std.proofs.Common.{ap, ◌∙◌, arith}
use Rattle.serde_json.specs.Data.{object, string}
use Rattle.serde_json.proofs.Views.{view-Object}
use Rattle.campaign_writing.specs.Kept.{IsTag}
use Rattle.campaign_writing.specs.Trees.{named}
use Rattle.campaign_writing.proofs.Members.{named_one_more}
use Rattle.campaign_writing.proofs.Parts.{told_one_more, whole_taken}
use Rattle.campaign_writing.proofs.seat_values.macros.Goals as goal

pub loop-place-preserved : goal.loop-place-preserved
loop-place-preserved c = record {
  tree = named_one_more string c.loop-place.place c.args.book.now.macros (c.macro_at-tag.result.0, c.macro_at-tag.result.1.now) _ _ _ c.macro_count-place-end.ensures.valid.in_order c.macro_at-tag.ensures c.loop-place.invariant.tree c.in_ok-text_value.ensures c.in_ok-put_named.ensures.members;
  names = told_one_more (λ entry. IsTag entry.0) c.loop-place.place c.args.book.now.macros (c.macro_at-tag.result.0, c.macro_at-tag.result.1.now) c.macro_at-tag.ensures c.loop-place.invariant.names c.in_ok-put_named.ensures.tag;
}

pub returns-clause-tree : goal.returns-clause-tree
returns-clause-tree c = view-Object c.loop-place.members ∙ ap object (c.loop-place.invariant.tree ∙ ap (named string) (whole_taken c.loop-place.place c.args.book.now.macros (omega arith)))
