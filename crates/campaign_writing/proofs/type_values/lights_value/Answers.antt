use Rattle.std.proofs.Common.{rules, SFits, ap, ◌∙◌, arith}
use mir.Syntax.{w8}
use Rattle.std.proofs.lemmas.Int.{to_z-of_z}
use Rattle.serde_json.specs.Data.{object}
use Rattle.serde_json.proofs.Views.{view-Object}
use Rattle.campaign_writing.specs.Kept.{IsTag}
use Rattle.campaign_writing.specs.Trees.{named, integer}
use Rattle.campaign_writing.proofs.Members.{named_one_more}
use Rattle.campaign_writing.proofs.Parts.{told_one_more, whole_taken}
use Rattle.campaign_writing.proofs.type_values.lights_value.Goals as goal

pub loop-place-preserved : goal.loop-place-preserved
loop-place-preserved c =
    let radius = c.at-name.result.1 in
    let fits : SFits w8 radius = search rules in
    record {
      tree = named_one_more integer c.loop-place.place c.args.lights.now c.at-name.result _ _ _ c.len-place-end.ensures.valid.table.in_order c.at-name.ensures c.loop-place.invariant.tree (c.from.ensures ∙ ap integer (to_z-of_z w8 radius fits)) c.in_ok-put_named.ensures.members;
      names = told_one_more (λ entry. IsTag entry.0) c.loop-place.place c.args.lights.now c.at-name.result c.at-name.ensures c.loop-place.invariant.names c.in_ok-put_named.ensures.tag;
    }

pub returns-clause-tree : goal.returns-clause-tree
returns-clause-tree c = view-Object c.loop-place.members ∙ ap object (c.loop-place.invariant.tree ∙ ap (named integer) (whole_taken c.loop-place.place c.args.lights.now (omega arith)))
