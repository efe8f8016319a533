-- Lists of items that are compared place by place.
use Rattle.std.proofs.Common.{◌≡◌, ℕ, ◌+◌, ◌<◌, ◌≤◌, List, length, min, get_or, Some, refl, sym, ◌∙◌, ap, arith, inl, inr}
use Rattle.std.specs.Prelude.{option_map, slice_get}
use Rattle.std.proofs.lemmas.Bool.Decides.{leb_tells}
use Rattle.std.proofs.lemmas.List.{length-map}
use Rattle.std.proofs.lemmas.Option.{slice_get_read, slice_get-map}
use borrow.Author.Count.{below_more}
use Rattle.player_machine.specs.declared.item.TraceItem.{TraceItem}
use Rattle.player_machine.specs.Items.{item_of, items_in}
use Rattle.transcript_check.specs.Checks.{DifferAt}
use Rattle.transcript_check.proofs.Differences.{AreSameTo, differ_here, differ_end, same_all}

item_at : (xs : List TraceItem) (place : ℕ) (x : TraceItem) → place < length xs → x ≡ get_or xs place x → slice_get (items_in xs) place ≡ Some (item_of x)
item_at xs place x within is = slice_get-map item_of xs place ∙ ap (option_map item_of) (slice_get_read xs (length xs) place x refl within is)

many : (xs : List TraceItem) → length (items_in xs) ≡ length xs
many xs = length-map xs item_of

-- a further place
pub items_more : (xs ys : List TraceItem) (place : ℕ) (x y : TraceItem) → AreSameTo (items_in xs) (items_in ys) place → place < length xs → place < length ys → x ≡ get_or xs place x → y ≡ get_or ys place y → item_of x ≡ item_of y → AreSameTo (items_in xs) (items_in ys) (place + 1)
items_more xs ys place x y before within within2 is is2 same =
    below_more (λ k. slice_get (items_in xs) k ≡ slice_get (items_in ys) k) place before (item_at xs place x within is ∙ ap Some same ∙ sym (item_at ys place y within2 is2))

pub items_differ : (xs ys : List TraceItem) (place : ℕ) (x y : TraceItem) → AreSameTo (items_in xs) (items_in ys) place → place < length xs → place < length ys → x ≡ get_or xs place x → y ≡ get_or ys place y → (item_of x ≡ item_of y → ⊥) → DifferAt (items_in xs) (items_in ys) place
items_differ xs ys place x y before within within2 is is2 differ = differ_here (items_in xs) (items_in ys) place (item_of x) (item_of y) before (item_at xs place x within is) (item_at ys place y within2 is2) differ

-- at the end of the shorter one
pub items_same : (xs ys : List TraceItem) (common : ℕ) → common ≡ min (length xs) (length ys) → length xs ≡ length ys → AreSameTo (items_in xs) (items_in ys) common → items_in xs ≡ items_in ys
items_same xs ys common is same before =
    same_all (items_in xs) (items_in ys) (omega (arith, many xs, many ys, same)) (λ k within. before k (omega (arith, within, is, same, many xs)))

pub items_end : (xs ys : List TraceItem) (common : ℕ) → common ≡ min (length xs) (length ys) → (length xs ≡ length ys → ⊥) → AreSameTo (items_in xs) (items_in ys) common → DifferAt (items_in xs) (items_in ys) common
items_end xs ys common is differ before =
    differ_end (items_in xs) (items_in ys) common before (elim (leb_tells (length xs) (length ys)) [
      | inl first ↦ inl (omega (arith, first.1, is, many xs), shorter first.1)
      | inr second ↦ inr (omega (arith, second.1, is, many ys), omega (arith, second.1, is, many xs))
    ])
  where
    shorter : length xs ≤ length ys → common < length (items_in ys)
    shorter h = omega (arith, h, is, differ, many ys)
