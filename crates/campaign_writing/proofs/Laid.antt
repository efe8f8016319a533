-- The sets of what is exposed in the order of maps, and on each map in the order of seats: the order in which the
-- campaign text has them.
use Rattle.std.proofs.Common.{◌≡◌, ℕ, zero, suc, ◌+◌, ◌≤◌, ◌<◌, List, [], ◌∷◌, ◌++◌, map, refl, ap, ◌∙◌, arith}
use Rattle.std.specs.List.{flat_map, range_with_len}
use Rattle.cells.specs.Cells.{Cells}
use Rattle.fog_book.specs.declared.exposure.Exposure.{Exposure}
use Rattle.maps.specs.Maps.{Grid}

-- the set of a seat on a map
abbrev pub set_on : (ℕ → Grid → Cells) → Grid → ℕ → Exposure
set_on cells m seat = record { seat = seat; map = m.name; cells = cells seat m }

-- the sets of the players, whose seats are numbered from 1 on
abbrev pub sets_on : ℕ → (ℕ → Grid → Cells) → Grid → List Exposure
sets_on players cells m = map (set_on cells m) (range_with_len 1 players)

abbrev pub laid : ℕ → (ℕ → Grid → Cells) → List Grid → List Exposure
laid players cells maps = flat_map (sets_on players cells) maps

-- ---- sets of equal cells

pub row_alike : (f g : ℕ → Grid → Cells) (m : Grid) (k n : ℕ) → ((seat : ℕ) → k ≤ seat → seat < k + n → f seat m ≡ g seat m) → map (set_on f m) (range_with_len k n) ≡ map (set_on g m) (range_with_len k n)
row_alike f g m k zero h = refl
row_alike f g m k (suc n) h = λ i. record { seat = k; map = m.name; cells = h k (omega arith) (omega arith) i } ∷ row_alike f g m (k + 1) n (λ seat low high. h seat (omega (arith, low)) (omega (arith, high))) i

append_one : {A : Type 0} (done : List A) (x : A) (left : List A) → (done ++ x ∷ []) ++ left ≡ done ++ x ∷ left
append_one [] x left = refl
append_one (y ∷ done) x left = ap (λ l. y ∷ l) (append_one done x left)

-- equal on each of the maps
module _ (players : ℕ) (f g : ℕ → Grid → Cells) (maps : List Grid) (h : (done : List Grid) (m : Grid) (left : List Grid) → done ++ m ∷ left ≡ maps → (seat : ℕ) → 1 ≤ seat → seat ≤ players → f seat m ≡ g seat m) where
  alike_from : (done left : List Grid) → done ++ left ≡ maps → laid players f left ≡ laid players g left
  alike_from done [] e = refl
  alike_from done (m ∷ left) e = λ i. row_alike f g m 1 players (λ seat low high. h done m left e seat low (omega (arith, high))) i ++ alike_from (done ++ m ∷ []) left (append_one done m left ∙ e) i

  pub laid_alike : laid players f maps ≡ laid players g maps
  laid_alike = alike_from [] maps refl
