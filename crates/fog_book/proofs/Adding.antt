-- What a map more leaves.
use Rattle.std.proofs.Common.{◌≡◌, ◌≢◌, ℕ, zero, suc, ◌<◌, ◌≤◌, Bool, true, false, cond, List, [], ◌∷◌, ◌++◌, Some, None, refl, sym, ap, subst, inl, inr, ◌∙◌, arith}
use Rattle.std.specs.Prelude.{Option, option_map, find}
use Rattle.std.specs.Ordering.{is_lt}
use Rattle.names.specs.Tag.{tag_cmp}
use Rattle.std.proofs.lemmas.Bool.{cases_eq, false_from_ne_true}
use Rattle.cells.specs.Cells.{Extent, Cells, cells_where}
use Rattle.fog_book.specs.declared.exposure.Exposure.{Exposure}
use Rattle.fog_book.specs.Exposures.{Fog, is_of, cells_at, blank_sets, with_map, with_sets, AddsMap}
use Rattle.fog_book.proofs.Changes.{is_of_tells}

abbrev or_else : Option Cells → Option Cells → Option Cells
or_else None other = other
or_else (Some cells) other = Some cells

or_else-None : (o : Option Cells) → or_else o None ≡ o
or_else-None None = refl
or_else-None (Some cells) = refl

abbrev cells_in : Option Exposure → Option Cells
cells_in o = option_map (λ (s : Exposure). s.cells) o

cells_at-append : (sets more : List Exposure) (seat : ℕ) (name : List ℕ) → cells_at (sets ++ more) seat name ≡ or_else (cells_at sets seat name) (cells_at more seat name)
cells_at-append [] more seat name = refl
cells_at-append (x ∷ sets) more seat name = here (is_of seat name x) (cells_at-append sets more seat name)
  where
    here : (b : Bool) → cells_at (sets ++ more) seat name ≡ or_else (cells_at sets seat name) (cells_at more seat name)
        → cells_in (cond b (Some x) (find (is_of seat name) (sets ++ more))) ≡ or_else (cells_in (cond b (Some x) (find (is_of seat name) sets))) (cells_at more seat name)
    here true i = refl
    here false i = i

-- what is found among the sets with those of a new map, where the others have nothing, or the new ones
found_fresh : (name : List ℕ) (fresh sets : List Exposure) (seat : ℕ) (place : List ℕ) → cells_at sets seat place ≡ None → cells_at (with_sets name fresh sets) seat place ≡ cells_at fresh seat place
found_fresh name fresh [] seat place none = refl
found_fresh name fresh (set ∷ sets) seat place none = here (is_lt (tag_cmp set.map name)) (is_of seat place set) refl none (found_fresh name fresh sets seat place)
  where
    here : (less b : Bool) → is_of seat place set ≡ b → cells_in (cond b (Some set) (find (is_of seat place) sets)) ≡ None
        → (cells_at sets seat place ≡ None → cells_at (with_sets name fresh sets) seat place ≡ cells_at fresh seat place)
        → cells_at (cond less (set ∷ with_sets name fresh sets) (fresh ++ set ∷ sets)) seat place ≡ cells_at fresh seat place
    here less true is some i = cc
    here true false is none i = ap (λ b. cells_in (cond b (Some set) (find (is_of seat place) (with_sets name fresh sets)))) is ∙ i none
    here false false is none i =
        cells_at-append fresh (set ∷ sets) seat place
        ∙ ap (λ b. or_else (cells_at fresh seat place) (cells_in (cond b (Some set) (find (is_of seat place) sets)))) is
        ∙ ap (or_else (cells_at fresh seat place)) none ∙ or_else-None (cells_at fresh seat place)

found_still : (name : List ℕ) (fresh sets : List Exposure) (seat : ℕ) (place : List ℕ) → cells_at fresh seat place ≡ None → cells_at (with_sets name fresh sets) seat place ≡ cells_at sets seat place
found_still name fresh [] seat place none = none
found_still name fresh (set ∷ sets) seat place none = here (is_lt (tag_cmp set.map name)) (found_still name fresh sets seat place none)
  where
    first : (b : Bool) → cells_at (with_sets name fresh sets) seat place ≡ cells_at sets seat place
        → cells_in (cond b (Some set) (find (is_of seat place) (with_sets name fresh sets))) ≡ cells_in (cond b (Some set) (find (is_of seat place) sets))
    first true i = refl
    first false i = i

    here : (less : Bool) → cells_at (with_sets name fresh sets) seat place ≡ cells_at sets seat place
        → cells_at (cond less (set ∷ with_sets name fresh sets) (fresh ++ set ∷ sets)) seat place ≡ cells_at (set ∷ sets) seat place
    here true i = first (is_of seat place set) i
    here false i = cells_at-append fresh (set ∷ sets) seat place ∙ ap (λ o. or_else o (cells_at (set ∷ sets) seat place)) none

module _ (name : List ℕ) (size : Extent) where
  abbrev blank : ℕ → Exposure
  blank seat = record { seat = seat; map = name; cells = cells_where size (λ x y. false) }

  -- one blank set, which isn't the one that is looked for
  none_of : (seat n : ℕ) (place : List ℕ) → ((n ≡ seat) × (name ≡ place) → ⊥) → cells_at (blank n ∷ []) seat place ≡ None
  none_of seat n place apart =
      ap (λ b. cells_in (cond b (Some (blank n)) None)) (false_from_ne_true (is_of seat place (blank n)) (λ t. apart ((is_of_tells seat place (blank n)).0 t)))

  step : (seat n : ℕ) (place : List ℕ) → cells_at (blank_sets n name size) seat place ≡ None → cells_at (blank_sets (suc n) name size) seat place ≡ cells_at (blank (suc n) ∷ []) seat place
  step seat n place none =
      cells_at-append (blank_sets n name size) (blank (suc n) ∷ []) seat place ∙ ap (λ o. or_else o (cells_at (blank (suc n) ∷ []) seat place)) none

  on_others : (seat : ℕ) (place : List ℕ) → place ≢ name → (n : ℕ) → cells_at (blank_sets n name size) seat place ≡ None
  on_others seat place differ zero = refl
  on_others seat place differ (suc n) =
      step seat n place (on_others seat place differ n) ∙ none_of seat (suc n) place (λ same. differ (sym same.1))

  past_the_last : (seat : ℕ) (place : List ℕ) (n : ℕ) → n < seat → cells_at (blank_sets n name size) seat place ≡ None
  past_the_last seat place zero h = refl
  past_the_last seat place (suc n) h =
      step seat n place (past_the_last seat place n (omega arith)) ∙ none_of seat (suc n) place (λ same. let e : suc n ≡ seat = same.0 in omega arith)

  of_players : (seat n : ℕ) → 1 ≤ seat → seat ≤ n → cells_at (blank_sets n name size) seat name ≡ Some (cells_where size (λ x y. false))
  of_players seat zero low high = absurd (omega arith)
  of_players seat (suc n) low high = elim (cases_eq (suc n) seat) [
    | inl e ↦ step seat n name (past_the_last seat name n (omega arith))
        ∙ ap (λ b. cells_in (cond b (Some (blank (suc n))) None)) ((is_of_tells seat name (blank (suc n))).1 (e, refl))
    | inr ne ↦ cells_at-append (blank_sets n name size) (blank (suc n) ∷ []) seat name
        ∙ ap (λ o. or_else o (cells_at (blank (suc n) ∷ []) seat name)) (of_players seat n low (omega arith))
  ]

  adds_map : (fog : Fog) → AddsMap fog (with_map fog name size) name size
  adds_map fog = record {
    blank = λ seat low high none. found_fresh name (blank_sets fog.players name size) fog.sets seat name none ∙ of_players seat fog.players low high;
    others = λ seat place differ. found_still name (blank_sets fog.players name size) fog.sets seat place (on_others seat place differ fog.players);
  }

  pub adds_after : (fog : Fog) (players : ℕ) (before after : List Exposure) → record { players = players; sets = before } ≡ fog → after ≡ with_sets name (blank_sets players name size) before
      → AddsMap fog (record { players = players; sets = after }) name size
  adds_after fog players before after is to =
      subst (λ (f : Fog). AddsMap f (record { players = players; sets = after }) name size) is
      (subst (λ (sets : List Exposure). AddsMap (record { players = players; sets = before }) (record { players = players; sets = sets }) name size) (sym to)
      (adds_map (record { players = players; sets = before })))
