use Rattle.std.proofs.Common.{◌≡◌, ℕ, ◌+◌, ◌-◌, ◌<◌, ◌≤◌, Bool, true, false, cond, not, ◌&&◌, ◌||◌, nat_eq, nat_lt, nat_le, List, Some, None, ◌∷◌, length, get_or, take, drop, refl, ap, arith, ◌∙◌, sym, inl, inr, ◌⊎◌}
use Rattle.std.specs.List.{All, AllPairs, insert}
use Rattle.std.proofs.lemmas.Bool.{cases_lt, cases_eq}
use Rattle.std.proofs.lemmas.Bool.Decides.{nat_tests}
use Rattle.std.proofs.lemmas.List.Edits.{length-insert, get_or-insert_below, get_or-insert_at, get_or-insert_above}
use Rattle.std.proofs.lemmas.List.Elements.{All-append, All-cons, All-take, All-drop, All-filter}
use Rattle.std.proofs.lemmas.List.Folds.{list_any_at}
use Rattle.std.proofs.lemmas.List.Kept.{AllPairs-filter}
use Rattle.std.proofs.lemmas.List.Sums.{prefix_len-le-length, fails_before_first, passes_at_first, position_or_len_is, length-filter, count_by-le-length}
use Rattle.lattice.specs.Coordinates.{Coordinates}
use Rattle.cells.specs.Cells.{Extent}
use Rattle.topology.specs.declared.wall.Wall.{Wall}
use Rattle.topology.specs.Order.{point_eq, point_before, wall_eq, wall_before, wall_between}
use Rattle.names.specs.declared.kinds.WallKind.{WallKind}
use Rattle.topology.specs.WallLists.{WallLists, walls_of, AreWalls, IsOnMap, on_map_test, place_of, with_wall, without_wall, has_wall}
use Rattle.topology.specs.WallFaults.{wall_fault}
use Rattle.topology.specs.declared.walls.WallFault.TheVariants.{OffMap, DegenerateWall, WallThere, WallLimit}
use Rattle.topology.proofs.OrderLemmas.{on_map_test_tells}

-- ---- the order of points and of walls

point_trans : (a b c : Coordinates) → point_before a b ≡ true → point_before b c ≡ true → point_before a c ≡ true
point_trans a b c h k = numbers a.x a.y b.x b.y c.x c.y h k
  where
    numbers : (m n p q r s : ℕ) → (nat_lt m p || (nat_eq m p && nat_lt n q)) ≡ true → (nat_lt p r || (nat_eq p r && nat_lt q s)) ≡ true
        → (nat_lt m r || (nat_eq m r && nat_lt n s)) ≡ true
    numbers m n p q r s h k = grind (arith, nat_tests)

-- a point that is the same as one before or behind another is so too
point_same_left : (a b c : Coordinates) → point_eq a b ≡ true → point_before b c ≡ true → point_before a c ≡ true
point_same_left a b c h k = numbers a.x a.y b.x b.y c.x c.y h k
  where
    numbers : (m n p q r s : ℕ) → (nat_eq m p && nat_eq n q) ≡ true → (nat_lt p r || (nat_eq p r && nat_lt q s)) ≡ true
        → (nat_lt m r || (nat_eq m r && nat_lt n s)) ≡ true
    numbers m n p q r s h k = grind (arith, nat_tests)

point_same_right : (a b c : Coordinates) → point_before a b ≡ true → point_eq b c ≡ true → point_before a c ≡ true
point_same_right a b c h k = numbers a.x a.y b.x b.y c.x c.y h k
  where
    numbers : (m n p q r s : ℕ) → (nat_lt m p || (nat_eq m p && nat_lt n q)) ≡ true → (nat_eq p r && nat_eq q s) ≡ true
        → (nat_lt m r || (nat_eq m r && nat_lt n s)) ≡ true
    numbers m n p q r s h k = grind (arith, nat_tests)

point_eq_trans : (a b c : Coordinates) → point_eq a b ≡ true → point_eq b c ≡ true → point_eq a c ≡ true
point_eq_trans a b c h k = numbers a.x a.y b.x b.y c.x c.y h k
  where
    numbers : (m n p q r s : ℕ) → (nat_eq m p && nat_eq n q) ≡ true → (nat_eq p r && nat_eq q s) ≡ true → (nat_eq m r && nat_eq n s) ≡ true
    numbers m n p q r s h k = grind (arith, nat_tests)

point_eq_sym : (a b : Coordinates) → point_eq a b ≡ point_eq b a
point_eq_sym a b = numbers a.x a.y b.x b.y
  where
    numbers : (m n p q : ℕ) → (nat_eq m p && nat_eq n q) ≡ (nat_eq p m && nat_eq q n)
    numbers m n p q = grind (arith, nat_tests)

point_total : (a b : Coordinates) → point_before a b ≡ false → point_eq b a ≡ false → point_before b a ≡ true
point_total a b h k = numbers a.x a.y b.x b.y h k
  where
    numbers : (m n p q : ℕ) → (nat_lt m p || (nat_eq m p && nat_lt n q)) ≡ false → (nat_eq p m && nat_eq q n) ≡ false
        → (nat_lt p m || (nat_eq p m && nat_lt q n)) ≡ true
    numbers m n p q h k = grind (arith, nat_tests)

point_eq_before : (a b : Coordinates) → point_eq b a ≡ true → point_before a b ≡ false
point_eq_before a b h = numbers a.x a.y b.x b.y h
  where
    numbers : (m n p q : ℕ) → (nat_eq p m && nat_eq q n) ≡ true → (nat_lt m p || (nat_eq m p && nat_lt n q)) ≡ false
    numbers m n p q h = grind (arith, nat_tests)

-- what the order of two walls says of their ends
parts : (p q r : Bool) → (p || (q && r)) ≡ true → (p ≡ true) ⊎ ((q ≡ true) × (r ≡ true))
parts true q r h = inl refl
parts false true true h = inr (refl, refl)
parts false true false h = cc
parts false false r h = cc

wall_parts : (v w : Wall) → wall_before v w ≡ true
    → (point_before v.first w.first ≡ true) ⊎ ((point_eq v.first w.first ≡ true) × (point_before v.second w.second ≡ true))
wall_parts v w h = parts (point_before v.first w.first) (point_eq v.first w.first) (point_before v.second w.second) h

wall_by_first : (v w : Wall) → point_before v.first w.first ≡ true → wall_before v w ≡ true
wall_by_first v w h = first_part (point_before v.first w.first) (point_eq v.first w.first) (point_before v.second w.second) h
  where
    first_part : (p q r : Bool) → p ≡ true → (p || (q && r)) ≡ true
    first_part true q r h = refl
    first_part false q r h = cc

wall_by_second : (v w : Wall) → point_eq v.first w.first ≡ true → point_before v.second w.second ≡ true → wall_before v w ≡ true
wall_by_second v w h k = second_part (point_before v.first w.first) (point_eq v.first w.first) (point_before v.second w.second) h k
  where
    second_part : (p q r : Bool) → q ≡ true → r ≡ true → (p || (q && r)) ≡ true
    second_part true q r h k = refl
    second_part false true true h k = refl
    second_part false true false h k = cc
    second_part false false r h k = cc

wall_trans : (u v w : Wall) → wall_before u v ≡ true → wall_before v w ≡ true → wall_before u w ≡ true
wall_trans u v w h k = chained (wall_parts u v h) (wall_parts v w k)
  where
    chained : (point_before u.first v.first ≡ true) ⊎ ((point_eq u.first v.first ≡ true) × (point_before u.second v.second ≡ true))
        → (point_before v.first w.first ≡ true) ⊎ ((point_eq v.first w.first ≡ true) × (point_before v.second w.second ≡ true))
        → wall_before u w ≡ true
    chained (inl one) (inl two) = wall_by_first u w (point_trans u.first v.first w.first one two)
    chained (inl one) (inr two) = wall_by_first u w (point_same_right u.first v.first w.first one two.0)
    chained (inr one) (inl two) = wall_by_first u w (point_same_left u.first v.first w.first one.0 two)
    chained (inr one) (inr two) =
        wall_by_second u w (point_eq_trans u.first v.first w.first one.0 two.0)
        (point_trans u.second v.second w.second one.1 two.1)

wall_total : (v w : Wall) → wall_before v w ≡ false → wall_eq w v ≡ false → wall_before w v ≡ true
wall_total v w h k =
    total (point_eq w.first v.first) refl
    (first_false (point_before v.first w.first) (point_eq v.first w.first) (point_before v.second w.second) h)
  where
    first_false : (p q r : Bool) → (p || (q && r)) ≡ false → p ≡ false
    first_false true q r h = cc
    first_false false q r h = refl

    last_false : (p q r : Bool) → q ≡ true → (p || (q && r)) ≡ false → r ≡ false
    last_false true q r e h = cc
    last_false false true r e h = h
    last_false false false r e h = cc

    second_false : (p q : Bool) → p ≡ true → (p && q) ≡ false → q ≡ false
    second_false true q e h = h
    second_false false q e h = cc

    total : (b : Bool) → point_eq w.first v.first ≡ b → point_before v.first w.first ≡ false → wall_before w v ≡ true
    total true same _ =
        wall_by_second w v same
        (point_total v.second w.second
        (last_false (point_before v.first w.first) (point_eq v.first w.first) (point_before v.second w.second)
        (point_eq_sym v.first w.first ∙ same) h)
        (second_false (point_eq w.first v.first) (point_eq w.second v.second) same k))
    total false differ behind = wall_by_first w v (point_total v.first w.first behind differ)

-- the wall between two different points goes from the lesser to the other
between_directed : (a b : Coordinates) → point_eq a b ≡ false
    → point_before (wall_between a b).first (wall_between a b).second ≡ true
between_directed a b differ = directed (point_before b a) refl
  where
    directed : (t : Bool) → point_before b a ≡ t
        → (let wall : Wall = cond t (record { first = b; second = a }) (record { first = a; second = b }) in point_before wall.first wall.second ≡ true)
    directed true e = e
    directed false e = point_total b a e differ

between_on_map : (map : Extent) (a b : Coordinates) → IsOnMap map a → IsOnMap map b
    → IsOnMap map (wall_between a b).first × IsOnMap map (wall_between a b).second
between_on_map map a b on_a on_b = both (point_before b a)
  where
    both : (t : Bool)
        → (let wall : Wall = cond t (record { first = b; second = a }) (record { first = a; second = b }) in IsOnMap map wall.first × IsOnMap map wall.second)
    both true = (on_b, on_a)
    both false = (on_a, on_b)

-- ---- one more wall

along : (v v' w w' : Wall) → v ≡ v' → w ≡ w' → wall_before v' w' ≡ true → wall_before v w ≡ true
along v v' w w' e f h = ap (λ (x : Wall). wall_before x w) e ∙ ap (λ (x : Wall). wall_before v' x) f ∙ h

insert-ordered : (walls : List Wall) (place : ℕ) (wall : Wall) → place ≤ length walls
    → AllPairs (λ v w. wall_before v w ≡ true) walls
    → ((k : ℕ) (d : Wall) → k < place → wall_before (get_or walls k d) wall ≡ true)
    → ((k : ℕ) (d : Wall) → place ≤ k → k < length walls → wall_before wall (get_or walls k d) ≡ true)
    → AllPairs (λ v w. wall_before v w ≡ true) (insert walls place wall)
insert-ordered walls place wall inside ordered before behind i j d lt high =
    let long : length (insert walls place wall) ≡ length walls + 1 = length-insert walls place wall inside in
    elim (cases_lt i place) [
      | inl low ↦ elim (cases_lt j place) [
        | inl low' ↦ along _ _ _ _ (below i low) (below j low') (ordered i j d lt (omega arith))
        | inr up ↦ elim (cases_eq j place) [
          | inl e ↦ along _ _ _ _ (below i low) (at j e) (before i d low)
          | inr ne ↦ along _ _ _ _ (below i low) (above j (omega arith)) (ordered i (j - 1) d (omega arith) (omega arith))
        ]
      ]
      | inr up ↦ elim (cases_eq i place) [
        | inl e ↦ along _ _ _ _ (at i e) (above j (omega arith)) (behind (j - 1) d (omega arith) (omega arith))
        | inr ne ↦ along _ _ _ _ (above i (omega arith)) (above j (omega arith)) (ordered (i - 1) (j - 1) d (omega arith) (omega arith))
      ]
    ]
  where
    below : (k : ℕ) → k < place → get_or (insert walls place wall) k d ≡ get_or walls k d
    below k h = get_or-insert_below walls place wall d k h inside

    at : (k : ℕ) → k ≡ place → get_or (insert walls place wall) k d ≡ wall
    at k e = ap (λ (n : ℕ). get_or (insert walls place wall) n d) e ∙ get_or-insert_at walls place wall d inside

    above : (k : ℕ) → place < k → get_or (insert walls place wall) k d ≡ get_or walls (k - 1) d
    above k h =
        let e : k ≡ k - 1 + 1 = omega arith in
        ap (λ (n : ℕ). get_or (insert walls place wall) n d) e ∙ get_or-insert_above walls place wall d (k - 1) (omega arith) inside

not_false : (b : Bool) → not b ≡ false → b ≡ true
not_false true h = refl
not_false false h = cc

not_true : (b : Bool) → not b ≡ true → b ≡ false
not_true true h = cc
not_true false h = refl

is_false : (b : Bool) → (b ≡ true → ⊥) → b ≡ false
is_false true h = absurd (h refl)
is_false false h = refl

-- the place of a wall that isn't there is between those before it and those behind it
place_inside : (wall : Wall) (walls : List Wall) → place_of wall walls ≤ length walls
place_inside wall walls = prefix_len-le-length (λ other. not (not (wall_before other wall))) walls

place_before : (wall : Wall) (walls : List Wall) (k : ℕ) (d : Wall) → k < place_of wall walls → wall_before (get_or walls k d) wall ≡ true
place_before wall walls k d h =
    not_false (wall_before (get_or walls k d) wall) (fails_before_first (λ other. not (wall_before other wall)) walls k d h)

place_here : (wall : Wall) (walls : List Wall) (d : Wall) → has_wall wall walls ≡ false → place_of wall walls < length walls
    → wall_before wall (get_or walls (place_of wall walls) d) ≡ true
place_here wall walls d absent h =
    wall_total (get_or walls (place_of wall walls) d) wall
    (not_true (wall_before (get_or walls (place_of wall walls) d) wall)
    (passes_at_first (λ other. not (wall_before other wall)) walls d h))
    (is_false (wall_eq wall (get_or walls (place_of wall walls) d))
    (λ same. (let there = list_any_at (λ other. wall_eq wall other) walls (place_of wall walls) d h same in cc)))

place_behind : (wall : Wall) (walls : List Wall) → AllPairs (λ v w. wall_before v w ≡ true) walls → has_wall wall walls ≡ false
    → (k : ℕ) (d : Wall) → place_of wall walls ≤ k → k < length walls → wall_before wall (get_or walls k d) ≡ true
place_behind wall walls ordered absent k d low high =
    elim (cases_eq k (place_of wall walls)) [
      | inl e ↦ ap (λ (n : ℕ). wall_before wall (get_or walls n d)) e ∙ place_here wall walls d absent (omega arith)
      | inr ne ↦
          wall_trans wall (get_or walls (place_of wall walls) d) (get_or walls k d) (place_here wall walls d absent (omega arith))
          (ordered (place_of wall walls) k d (omega arith) high)
    ]

-- the walls stay in order with one more in its place
pub AreWalls-with_wall : (map : Extent) (walls : List Wall) (a b : Coordinates) → AreWalls map walls
    → on_map_test map a ≡ true → on_map_test map b ≡ true → point_eq a b ≡ false
    → has_wall (wall_between a b) walls ≡ false → length walls < 2048
    → AreWalls map (with_wall (wall_between a b) walls)
AreWalls-with_wall map walls a b are on_a on_b differ absent short =
    added (wall_between a b) (between_on_map map a b ((on_map_test_tells map a).0 on_a) ((on_map_test_tells map b).0 on_b))
    (between_directed a b differ) absent
  where
    all_with : (P : Wall → Type 0) (wall : Wall) → P wall → All P walls → All P (with_wall wall walls)
    all_with P wall here all =
        All-append P (take (place_of wall walls) walls) (wall ∷ drop (place_of wall walls) walls)
        (All-take P (place_of wall walls) walls all)
        (All-cons P wall (drop (place_of wall walls) walls) here (All-drop P (place_of wall walls) walls all))

    added : (wall : Wall) → IsOnMap map wall.first × IsOnMap map wall.second → point_before wall.first wall.second ≡ true
        → has_wall wall walls ≡ false → AreWalls map (with_wall wall walls)
    added wall on_map directed absent = record {
      few = omega (arith, length-insert walls (place_of wall walls) wall (place_inside wall walls));
      on_map = all_with (λ w. IsOnMap map w.first × IsOnMap map w.second) wall on_map are.on_map;
      directed = all_with (λ w. point_before w.first w.second ≡ true) wall directed are.directed;
      ordered =
          insert-ordered walls (place_of wall walls) wall (place_inside wall walls) are.ordered
          (place_before wall walls) (place_behind wall walls are.ordered absent);
    }

-- where the walls before a place are before the wall, and the one at it isn't, it is the wall's place
pub is_place : (wall : Wall) (walls : List Wall) (place : ℕ) (d : Wall) → place ≤ length walls
    → ((k : ℕ) (d : Wall) → k < place → wall_before (get_or walls k d) wall ≡ true)
    → (place < length walls → wall_before (get_or walls place d) wall ≡ false)
    → place ≡ place_of wall walls
is_place wall walls place d inside before here =
    sym
    (position_or_len_is (λ other. not (wall_before other wall)) walls place d inside
    (λ k h. ap not (before k d h)) (λ h. ap not (here h)))

-- ---- the checks of a new wall

-- no check is broken
record PassesChecks (walls : WallLists) (kind : WallKind) (a b : Coordinates) : Type 0 where
  pub on_a : on_map_test walls.extent a ≡ true
  pub on_b : on_map_test walls.extent b ≡ true
  pub differ : point_eq a b ≡ false
  pub absent : has_wall (wall_between a b) (walls_of walls kind) ≡ false
  pub short : nat_le 2048 (length (walls_of walls kind)) ≡ false

passes_checks : (walls : WallLists) (kind : WallKind) (a b : Coordinates) → wall_fault walls kind a b ≡ None → PassesChecks walls kind a b
passes_checks walls kind a b h =
    passed (on_map_test walls.extent a) (on_map_test walls.extent b) (point_eq a b)
    (has_wall (wall_between a b) (walls_of walls kind)) (nat_le 2048 (length (walls_of walls kind)))
    refl refl refl refl refl h
  where
    passed : (p q r s t : Bool) → on_map_test walls.extent a ≡ p → on_map_test walls.extent b ≡ q → point_eq a b ≡ r
        → has_wall (wall_between a b) (walls_of walls kind) ≡ s → nat_le 2048 (length (walls_of walls kind)) ≡ t
        → cond (not (p && q)) (Some OffMap) (cond r (Some DegenerateWall) (cond s (Some WallThere) (cond t (Some WallLimit) None))) ≡ None
        → PassesChecks walls kind a b
    passed true true false false false ep eq er es et e = record { on_a = ep; on_b = eq; differ = er; absent = es; short = et }
    passed true true false false true ep eq er es et e = cc
    passed true true false true t ep eq er es et e = cc
    passed true true true s t ep eq er es et e = cc
    passed true false r s t ep eq er es et e = cc
    passed false q r s t ep eq er es et e = cc

-- the walls of a kind stay walls of the map, whether the checked wall was added or not
pub AreWalls-added : (walls : WallLists) (kind : WallKind) (a b : Coordinates) (b' : Bool) (list : List Wall)
    → wall_fault walls kind a b ≡ None → AreWalls walls.extent (walls_of walls kind)
    → list ≡ cond b' (with_wall (wall_between a b) (walls_of walls kind)) (walls_of walls kind)
    → AreWalls walls.extent list
AreWalls-added walls kind a b b' list free are e = rw e (either b')
  where
    passed : PassesChecks walls kind a b
    passed = passes_checks walls kind a b free

    below : (n : ℕ) → nat_le 2048 n ≡ false → n < 2048
    below n h = grind (arith, nat_tests)

    either : (t : Bool) → AreWalls walls.extent (cond t (with_wall (wall_between a b) (walls_of walls kind)) (walls_of walls kind))
    either true =
        AreWalls-with_wall walls.extent (walls_of walls kind) a b are passed.on_a passed.on_b passed.differ passed.absent
        (below _ passed.short)
    either false = are

pub wall_fault-along : (walls now : WallLists) (kind given : WallKind) (a b : Coordinates) → walls ≡ now → given ≡ kind
    → None ≡ wall_fault now given a b → wall_fault walls kind a b ≡ None
wall_fault-along walls now kind given a b e f h =
    ap (λ (w : WallLists). wall_fault w kind a b) e ∙ ap (λ (k : WallKind). wall_fault now k a b) (sym f) ∙ sym h

-- the walls stay in order without one
pub AreWalls-without_wall : (map : Extent) (walls : List Wall) (wall : Wall) → AreWalls map walls → AreWalls map (without_wall wall walls)
AreWalls-without_wall map walls wall are = record {
  few = omega (arith, length-filter (λ other. not (wall_eq wall other)) walls, count_by-le-length (λ other. not (wall_eq wall other)) walls, are.few);
  on_map = All-filter (λ other. not (wall_eq wall other)) (λ w. IsOnMap map w.first × IsOnMap map w.second) walls are.on_map;
  directed = All-filter (λ other. not (wall_eq wall other)) (λ w. point_before w.first w.second ≡ true) walls are.directed;
  ordered = AllPairs-filter (λ v w. wall_before v w ≡ true) (λ other. not (wall_eq wall other)) walls are.ordered;
}
