-- Whether what a seat is shown is a new item.
use Rattle.std.proofs.Common.{◌≡◌, Bool, true, false, cond, ◌||◌, List, [], ◌∷◌, ◌++◌, Some, None, refl, sym, ◌∙◌, ap, ◌⊎◌, inl, inr}
use Rattle.std.specs.Prelude.{Option, is_some, ℕ}
use Rattle.std.proofs.lemmas.List.{append-nil}
use Rattle.views.specs.declared.view.View.{View}
use Rattle.campaign_law.specs.Views.{change_line}
use Rattle.campaign_law.specs.Player.{Item, view, view_items}
use Rattle.campaign_law.proofs.Views.{no_change, same_no_change}

-- the full line isn't due, and it is what was last shown
pub nothing_new : (items : List Item) (full : Bool) (last v : View) → full ≡ false → last ≡ v → items ≡ items ++ view_items full last v
nothing_new items full last v due same =
    sym (append-nil items)
    ∙ sym (ap (λ xs. items ++ xs) ((λ i. view_items (due i) (same i) v) ∙ ap (λ (c : Option (List ℕ)). cond (false || is_some c) (view v ∷ []) []) (same_no_change v)))

by_change : (last v : View) (c : Option (List ℕ)) → change_line last v ≡ c → (last ≡ v → ⊥) → cond (false || is_some c) (view v ∷ []) [] ≡ view v ∷ []
by_change last v None none differ = absurd (differ (no_change last v none))
by_change last v (Some line) some differ = refl

-- the full line is due, or it differs
pub something_new : (full : Bool) (last v : View) → ((full ≡ true) ⊎ (last ≡ v → ⊥)) → view_items full last v ≡ view v ∷ []
something_new true last v why = refl
something_new false last v (inl due) = absurd cc
something_new false last v (inr differ) = by_change last v (change_line last v) refl differ
