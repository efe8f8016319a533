-- What a change of one set leaves.
use Rattle.std.proofs.Common.{◌≡◌, ◌≢◌, ℕ, suc, ◌+◌, ◌<◌, Bool, true, false, cond, not, List, [], ◌∷◌, length, get_or, set, Some, None, refl, sym, ap, subst, inl, inr, ◌∙◌, arith}
use Rattle.std.specs.Prelude.{Option, option_map, find, ◌⊎◌, nat_lt, IsSome}
use Rattle.std.specs.Bool.{Decides}
use Rattle.std.specs.List.{position, position_or_len}
use Rattle.std.proofs.lemmas.Bool.{false_from_ne_true}
use Rattle.std.proofs.lemmas.Bool.Decides.{Decides-and, Decides-eqb, nat_tests}
use Rattle.std.proofs.lemmas.Slice.Eq.{bytes_eq-Decides}
use Rattle.cells.specs.Cells.{Cells}
use Rattle.fog_book.specs.declared.exposure.Exposure.{Exposure}
use Rattle.fog_book.specs.Exposures.{Fog, is_of, cells_at, changed_at, with_change, ChangesOnly}

abbrev pub with_cells : Exposure → Cells → Exposure
with_cells e cells = record { seat = e.seat; map = e.map; cells = cells }

pub is_of_tells : (seat : ℕ) (name : List ℕ) (e : Exposure) → Decides (is_of seat name e) ((e.seat ≡ seat) × (e.map ≡ name))
is_of_tells seat name e = Decides-and _ _ (Decides-eqb e.seat seat) (bytes_eq-Decides e.map name)

-- the set of another seat, or on another map, is another
is_of_other : (seat other : ℕ) (name place : List ℕ) (e : Exposure) → (other ≢ seat) ⊎ (place ≢ name) → is_of seat name e ≡ true → is_of other place e ≡ false
is_of_other seat other name place e differ is = false_from_ne_true _ (λ also.
    let here = (is_of_tells seat name e).0 is in
    let there = (is_of_tells other place e).0 also in
    elim differ [ inl seats ↦ seats (sym there.0 ∙ here.0) | inr maps ↦ maps (sym there.1 ∙ here.1) ])

module _ (seat : ℕ) (name : List ℕ) (change : Cells → Cells) where
  pub cells_at-changed_at : (sets : List Exposure) → cells_at (changed_at (is_of seat name) change sets) seat name ≡ option_map change (cells_at sets seat name)
  cells_at-changed_at [] = refl
  cells_at-changed_at (e ∷ sets) = here (is_of seat name e) refl (cells_at-changed_at sets)
    where
      here : (b : Bool) → is_of seat name e ≡ b → cells_at (changed_at (is_of seat name) change sets) seat name ≡ option_map change (cells_at sets seat name)
          → cells_at (cond b (with_cells e (change e.cells) ∷ sets) (e ∷ changed_at (is_of seat name) change sets)) seat name
          ≡ option_map change (option_map (λ (s : Exposure). s.cells) (cond b (Some e) (find (is_of seat name) sets)))
      here true t i = ap (λ c. option_map (λ (s : Exposure). s.cells) (cond c (Some (with_cells e (change e.cells))) (find (is_of seat name) sets))) t
      here false t i = ap (λ c. option_map (λ (s : Exposure). s.cells) (cond c (Some e) (find (is_of seat name) (changed_at (is_of seat name) change sets)))) t ∙ i

  cells_at-changed_at_other : (other : ℕ) (place : List ℕ) → (other ≢ seat) ⊎ (place ≢ name) → (sets : List Exposure) → cells_at (changed_at (is_of seat name) change sets) other place ≡ cells_at sets other place
  cells_at-changed_at_other other place differ [] = refl
  cells_at-changed_at_other other place differ (e ∷ sets) = here (is_of seat name e) (is_of_other seat other name place e differ) (cells_at-changed_at_other other place differ sets)
    where
      shown : Option Exposure → Option Cells
      shown o = option_map (λ (s : Exposure). s.cells) o

      step : (b : Bool) → cells_at (changed_at (is_of seat name) change sets) other place ≡ cells_at sets other place
          → option_map (λ (s : Exposure). s.cells) (cond b (Some e) (find (is_of other place) (changed_at (is_of seat name) change sets))) ≡ option_map (λ (s : Exposure). s.cells) (cond b (Some e) (find (is_of other place) sets))
      step true i = refl
      step false i = i

      here : (b : Bool) → (b ≡ true → is_of other place e ≡ false) → cells_at (changed_at (is_of seat name) change sets) other place ≡ cells_at sets other place
          → cells_at (cond b (with_cells e (change e.cells) ∷ sets) (e ∷ changed_at (is_of seat name) change sets)) other place
          ≡ cells_at (e ∷ sets) other place
      here true h i =
          ap (λ c. option_map (λ (s : Exposure). s.cells) (cond c (Some (with_cells e (change e.cells))) (find (is_of other place) sets))) (h refl)
          ∙ sym (ap (λ c. option_map (λ (s : Exposure). s.cells) (cond c (Some e) (find (is_of other place) sets))) (h refl))
      here false h i = step (is_of other place e) i

  pub changes_only : (fog : Fog) → ChangesOnly fog (with_change fog seat name change) seat name change
  changes_only fog = record {
    changed = cells_at-changed_at fog.sets;
    others = λ other place differ. cells_at-changed_at_other other place differ fog.sets;
  }

-- ---- by places

-- the set at the place is the one that passes the test
find-place : (test : Exposure → Bool) (sets : List Exposure) (e : Exposure) → position_or_len test sets < length sets → e ≡ get_or sets (position_or_len test sets) e → find test sets ≡ Some e
find-place test [] e h is = absurd (omega arith)
find-place test (x ∷ sets) e h is = here (test x) (find-place test sets e) h is
  where
    here : (b : Bool) → (position_or_len test sets < length sets → e ≡ get_or sets (position_or_len test sets) e → find test sets ≡ Some e)
        → cond (not b) (1 + position_or_len test sets) 0 < suc (length sets) → e ≡ get_or (x ∷ sets) (cond (not b) (1 + position_or_len test sets) 0) e
        → cond b (Some x) (find test sets) ≡ Some e
    here true i h is = ap Some (sym is)
    here false i h is =
        let next : 1 + position_or_len test sets ≡ suc (position_or_len test sets) = omega arith in
        i (omega arith) (is ∙ ap (λ k. get_or (x ∷ sets) k e) next)

changed_at-place : (test : Exposure → Bool) (change : Cells → Cells) (sets : List Exposure) (e : Exposure) → position_or_len test sets < length sets → e ≡ get_or sets (position_or_len test sets) e
    → set sets (position_or_len test sets) (with_cells e (change e.cells)) ≡ changed_at test change sets
changed_at-place test change [] e h is = absurd (omega arith)
changed_at-place test change (x ∷ sets) e h is = here (test x) (changed_at-place test change sets e) h is
  where
    here : (b : Bool) → (position_or_len test sets < length sets → e ≡ get_or sets (position_or_len test sets) e → set sets (position_or_len test sets) (with_cells e (change e.cells)) ≡ changed_at test change sets)
        → cond (not b) (1 + position_or_len test sets) 0 < suc (length sets) → e ≡ get_or (x ∷ sets) (cond (not b) (1 + position_or_len test sets) 0) e
        → set (x ∷ sets) (cond (not b) (1 + position_or_len test sets) 0) (with_cells e (change e.cells)) ≡ cond b (with_cells x (change x.cells) ∷ sets) (x ∷ changed_at test change sets)
    here true i h is = ap (λ y. with_cells y (change y.cells) ∷ sets) is
    here false i h is =
        let next : 1 + position_or_len test sets ≡ suc (position_or_len test sets) = omega arith in
        ap (λ k. set (x ∷ sets) k (with_cells e (change e.cells))) next
        ∙ ap (λ rest. x ∷ rest) (i (omega arith) (is ∙ ap (λ k. get_or (x ∷ sets) k e) next))

pub cells_at-at : (seat : ℕ) (name : List ℕ) (sets : List Exposure) (k : ℕ) (e : Exposure) → k ≡ position_or_len (is_of seat name) sets → k < length sets → e ≡ get_or sets k e → cells_at sets seat name ≡ Some e.cells
cells_at-at seat name sets k e place below is =
    ap (option_map (λ (s : Exposure). s.cells)) (find-place (is_of seat name) sets e (subst (λ j. j < length sets) place below) (subst (λ j. e ≡ get_or sets j e) place is))

pub changed_at-at : (test : Exposure → Bool) (change : Cells → Cells) (sets : List Exposure) (k : ℕ) (e : Exposure) (cells : Cells) → k ≡ position_or_len test sets → k < length sets → e ≡ get_or sets k e → cells ≡ change e.cells
    → set sets k (with_cells e cells) ≡ changed_at test change sets
changed_at-at test change sets k e cells place below is to =
    ap (λ (c : Cells). set sets k (with_cells e c)) to
    ∙ ap (λ j. set sets j (with_cells e (change e.cells))) place
    ∙ changed_at-place test change sets e (subst (λ j. j < length sets) place below) (subst (λ j. e ≡ get_or sets j e) place is)

-- a book whose sets are changed
pub changes_after : (seat : ℕ) (name : List ℕ) (change : Cells → Cells) (fog : Fog) (players : ℕ) (before after : List Exposure)
    → record { players = players; sets = before } ≡ fog → after ≡ changed_at (is_of seat name) change before
    → ChangesOnly fog (record { players = players; sets = after }) seat name change
changes_after seat name change fog players before after is to =
    subst (λ (f : Fog). ChangesOnly f (record { players = players; sets = after }) seat name change) is
    (subst (λ (sets : List Exposure). ChangesOnly (record { players = players; sets = before }) (record { players = players; sets = sets }) seat name change) (sym to)
    (changes_only seat name change (record { players = players; sets = before })))

-- ---- the place of a set that is there

below : (n m : ℕ) → nat_lt n m ≡ true → n < m
below n m h = grind (arith, nat_tests)

above : (n m : ℕ) → n < m → nat_lt n m ≡ true
above n m h = grind (arith, nat_tests)

pub place_found : (test : Exposure → Bool) (sets : List Exposure) (k : ℕ) → Some k ≡ position test sets → k ≡ position_or_len test sets
place_found test sets k is = here (nat_lt (position_or_len test sets) (length sets)) is
  where
    here : (b : Bool) → Some k ≡ cond b (Some (position_or_len test sets)) None → k ≡ position_or_len test sets
    here true e = cc
    here false e = cc

pub place_below : (test : Exposure → Bool) (sets : List Exposure) (k : ℕ) → Some k ≡ position test sets → k < length sets
place_below test sets k is = here (nat_lt (position_or_len test sets) (length sets)) (below _ _) is
  where
    here : (b : Bool) → (b ≡ true → position_or_len test sets < length sets) → Some k ≡ cond b (Some (position_or_len test sets)) None → k < length sets
    here true h e = let same : k ≡ position_or_len test sets = cc in subst (λ j. j < length sets) (sym same) (h refl)
    here false h e = absurd (let never : ⊥ = cc in never)

some_below : (test : Exposure → Bool) (sets : List Exposure) → IsSome (find test sets) → position_or_len test sets < length sets
some_below test [] h = absurd (let never : ⊥ = cc in never)
some_below test (x ∷ sets) h = here (test x) (some_below test sets) h
  where
    here : (b : Bool) → (IsSome (find test sets) → position_or_len test sets < length sets) → IsSome (cond b (Some x) (find test sets)) → cond (not b) (1 + position_or_len test sets) 0 < suc (length sets)
    here true i h = omega arith
    here false i h = let rest : position_or_len test sets < length sets = i h in omega arith

pub none_is_there : (seat : ℕ) (name : List ℕ) (sets : List Exposure) → IsSome (cells_at sets seat name) → None ≡ position (is_of seat name) sets → ⊥
none_is_there seat name sets there is =
    here (nat_lt (position_or_len (is_of seat name) sets) (length sets)) (above _ _ (some_below (is_of seat name) sets (found (find (is_of seat name) sets) there))) is
  where
    found : (o : Option Exposure) → IsSome (option_map (λ (s : Exposure). s.cells) o) → IsSome o
    found None h = h
    found (Some x) h = refl

    here : (b : Bool) → b ≡ true → None ≡ cond b (Some (position_or_len (is_of seat name) sets)) None → ⊥
    here true t e = let never : ⊥ = cc in never
    here false t e = let never : ⊥ = cc in never
