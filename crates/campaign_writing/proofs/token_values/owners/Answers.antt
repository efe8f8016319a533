use Rattle.std.proofs.Common.{◌≡◌, map, ap, sym, ◌∙◌, arith}
use Rattle.std.specs.List.{filter, range_with_len}
use Rattle.serde_json.specs.View.{view}
use Rattle.tokens.specs.Owners.{has_owner}
use Rattle.serde_json.proofs.Views.{view-Array}
use Rattle.campaign_writing.specs.Scenes.{owners_tree}
use Rattle.campaign_writing.specs.Trees.{list, whole}
use Rattle.campaign_writing.proofs.OwnerLists.{none_more, taken_more}
use Rattle.campaign_writing.proofs.token_values.owners.Goals as goal
use Rattle.campaign_writing.proofs.token_values.owners.Goals.{then-has+in_ok-push, else-has}

pub loop-number-preserved : goal.loop-number-preserved
loop-number-preserved c =
    let owns = c.has.ensures.value ∙ ap (has_owner c.args.owners) c.in-Some.ensures.value in
    record {
      tree = elim c.if-has.branch [
        | then-has+in_ok-push w ↦ ap (λ l. map view l.items) w.list-is ∙ taken_more view whole (has_owner c.args.owners) c.loop-number.number c.loop-number.list.items c.loop-number.invariant.tree (sym owns ∙ w.if-has.true) w.from.result w.push.new.self.items w.in_ok-push.ensures.items w.from.ensures
        | else-has w ↦ ap (λ l. map view l.items) w.list-is ∙ none_more view whole (has_owner c.args.owners) c.loop-number.number c.loop-number.list.items c.loop-number.invariant.tree (sym owns ∙ w.if-has.false)
      ];
      seats = λ _. c.has.ensures.seats;
    }

pub returns-clause-tree : goal.returns-clause-tree
unfolding owners_tree
returns-clause-tree c =
    let end : c.loop-number.number ≡ 33 = omega arith in
    view-Array c.loop-number.list ∙ ap list (c.loop-number.invariant.tree ∙ ap (λ n. map whole (filter (has_owner c.args.owners) (range_with_len 0 n))) end)
