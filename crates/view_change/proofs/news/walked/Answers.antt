use Rattle.std.proofs.Common.{rules, ◌≡◌, ◌∙◌, sym, ap, arith, ◌++◌, ◌∷◌, [], true, false, length, get_or, ◌<◌, ℕ, ◌+◌, ◌≤◌}
use Rattle.views.specs.Order.{in_order}
use Rattle.view_change.specs.Keyed.{is_in, is_first, puts_from}
use Rattle.view_change.proofs.NewsLemmas.{from, left_from, rises, from-in_order, first_there, later_there, one_new, none_new}
use Rattle.view_change.proofs.news.walked.Goals.{then-not-is_first+in_ok-again+in_ok-push, else-not-is_first}
use Rattle.view_change.proofs.news.walked.Goals as goal

pub loop-item-preserved : goal.loop-item-preserved
loop-item-preserved g c =
    let R = g.T.Keyed.order in let key = g.T.Keyed.key in let o = g.met.T.Keyed.total in let same = g.T.Keyed.same in
    let before = c.args.before.now in let after = c.args.after.now in let i = c.loop-item.item-index in let x = c.item-item.result in let left = c.loop-item.left.now in
    let within : i < length after = c.loop-item-test.true in
    let now : c.from_place-left.result.now ≡ from R key x left = c.from_place-left.ensures ∙ left_from R key x left in
    let known : c.is_first.result ≡ is_in same before x =
    c.is_first.ensures ∙ ap (λ l. is_first same l x) now ∙ first_there R key o same g.met.T.Keyed.one_key x left c.loop-item.invariant.1
    ∙ ap (is_in same left) c.item-item.is ∙ c.loop-item.invariant.2 i x (omega arith) within ∙ ap (is_in same before) (sym c.item-item.is) in (
      elim c.if-not-is_first.branch [
        | then-not-is_first+in_ok-again+in_ok-push w ↦
            (let pushed : c.if-not-is_first.list.items ≡ c.loop-item.list.items ++ x ∷ [] = search rules in
            pushed ∙ ap (λ l. l ++ x ∷ []) c.loop-item.invariant.0 ∙ one_new same before after i x c.is_first.result within c.item-item.is known (search rules))
        | else-not-is_first w ↦
            (let kept : c.if-not-is_first.list.items ≡ c.loop-item.list.items = search rules in
            kept ∙ c.loop-item.invariant.0 ∙ none_new same before after i x c.is_first.result within c.item-item.is known (search rules))
      ],
      ap (in_order R key) now ∙ from-in_order R key o x left c.loop-item.invariant.1,
      λ k d l h. ap (λ z. is_in same z (get_or after k d)) now
          ∙ later_there R key o same g.met.T.Keyed.one_key x (get_or after k d) left (ap (λ z. R (key z) (key (get_or after k d))) c.item-item.is ∙ rises R key o after i k x d c.requires.after (omega arith) h)
          ∙ c.loop-item.invariant.2 k d (omega arith) h,
    )
