use Rattle.std.proofs.Common.{◌≡◌, ◌∷◌, [], ◌++◌, ◌∙◌, true, false, sym, ap, rules, ◌⊎◌, inl, inr}
use Rattle.player_view.specs.View.{view_of}
use Rattle.campaign_law.specs.Law.{world_of}
use Rattle.campaign_law.specs.Player.{view}
use Rattle.player_machine.specs.Items.{items_in}
use Rattle.views.specs.declared.view.View.{View}
use Rattle.transcript_check.proofs.NewViews.{nothing_new, something_new}
use Rattle.transcript_check.proofs.entering.add_view.Goals.{then-full-via-then-full, then-full-via-else-full+then-not-same_view}
use Rattle.transcript_check.proofs.entering.add_view.Goals as goal

pub returns-then-is_as_shown-clause-items : goal.returns-then-is_as_shown-clause-items
returns-then-is_as_shown-clause-items g c =
    let quiet : c.args.full ≡ false = search rules in
    let same : c.is_as_shown.result ≡ true = search rules in
    nothing_new (items_in c.args.items.now.items) c.args.full c.args.last.now _ quiet (c.is_as_shown.ensures same)

pub returns-in_ok-push-clause-items : goal.returns-in_ok-push-clause-items
returns-in_ok-push-clause-items g c =
    let now : View = view_of (world_of c.args.campaign.now).scene c.args.seat in
    let shown : c.in_ok-copy.field-0 ≡ now = c.in_ok-copy.ensures ∙ c.in_ok-now.ensures in
    let why : (c.args.full ≡ true) ⊎ (c.args.last.now ≡ now → ⊥) = elim c.then-full.branch [
      | then-full-via-then-full w ↦ inl (search (rules, w.if-full.true))
      | then-full-via-else-full+then-not-same_view w ↦ inr (λ e. let same : w.same_view.result ≡ true = w.same_view.ensures.tells.1 (e ∙ sym c.in_ok-now.ensures) in absurd (search (rules, w.if-not-same_view.true, same)))
    ] in
    c.in_ok-push.ensures
    ∙ ap (λ (v : View). items_in c.args.items.now.items ++ view v ∷ []) shown
    ∙ ap (λ xs. items_in c.args.items.now.items ++ xs) (sym (something_new c.args.full c.args.last.now now why))

pub returns-else-not-same_view-clause-items : goal.returns-else-not-same_view-clause-items
returns-else-not-same_view-clause-items g c =
    let quiet : c.args.full ≡ false = search rules in
    let same : c.same_view.result ≡ true = search rules in
    nothing_new (items_in c.args.items.now.items) c.args.full c.args.last.now _ quiet (c.same_view.ensures.tells.0 same ∙ c.in_ok-now.ensures)
