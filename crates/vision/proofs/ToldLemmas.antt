-- What fields tell of what is seen.
use Rattle.std.proofs.Common.{◌≡◌, ℕ, ◌+◌, ◌*◌, ◌<◌, ◌≤◌, Bool, true, false, not, ◌&&◌, ◌||◌, List, [], ◌∷◌, length, get_or, take, refl, sym, ap, subst, arith, ◌∙◌, Some}
use Rattle.std.specs.Prelude.{nat_le, Option, unwrap_or, All}
use Rattle.std.proofs.lemmas.Bool.Decides.{nat_tests}
use Rattle.std.proofs.lemmas.List.Elements.{All-head, All-tail}
use Rattle.std.proofs.lemmas.List.Folds.{list_any_more}
use Rattle.std.proofs.Math.Nat.{mul-le-mul}
use Rattle.names.specs.declared.kinds.Mode.{Mode}
use Rattle.names.specs.declared.kinds.Mode.TheVariants.{Off, Day, Night}
use Rattle.names.specs.declared.token_id.TokenId.{TokenId}
use Rattle.lattice.specs.Coordinates.{Coordinates, centre_of, squared_distance, within_test}
use Rattle.cells.specs.Cells.{Cells, has, IsToldByCells}
use Rattle.cells.proofs.SetLaws.{has-cells_where, IsToldByCells-cells_where}
use Rattle.topology.specs.WallLists.{WallLists}
use Rattle.topology.specs.Sight.{clear_test, reach_test, field_test, field_of}
use Rattle.sight_types.specs.declared.Sight.{Sight}
use Rattle.vision.specs.declared.disc.Disc.{Disc}
use Rattle.vision.specs.declared.lamp.Lamp.{Lamp}
use Rattle.vision.specs.Common.{common_test, common_by, bright_test, field_in_disc, in_disc_by, is_in_rows, lights, lit_common, puts_out, dark_common, disc_of, told_test}
use Rattle.vision.specs.Fields.{field_at}
use Rattle.vision.specs.Seen.{lit_up_test, put_out_test, sees_test, with_cells}
use Rattle.vision.proofs.AddingLemmas.{near_down}

-- ---- the loops

third : (a b c d : Bool) → (a && b && c && d) ≡ true → c ≡ true
third true true true d h = refl
third true true false d h = h
third true false c d h = cc
third false b c d h = cc

fourth : (a b c d : Bool) → (a && b && c && d) ≡ true → d ≡ true
fourth true true true d h = h
fourth true true false d h = cc
fourth true false c d h = cc
fourth false b c d h = cc

second : (a b : Bool) → (a && b) ≡ true → b ≡ true
second true b h = h
second false b h = cc

-- a cell of both fields in both discs is near the middle of each disc
pub common_down : (own field : Cells) (range light : Disc) (x y : ℕ) → common_test own range field light x y ≡ true
    → (light.middle.y ≤ 2 * y + 1 + light.halves) × (2 * y + 1 ≤ light.middle.y + light.halves)
common_down own field range light x y h = near_down light.middle x y light.halves (third (has own x y) (has field x y) _ _ h)

pub range_down : (own field : Cells) (range light : Disc) (x y : ℕ) → common_test own range field light x y ≡ true
    → (range.middle.y ≤ 2 * y + 1 + range.halves) × (2 * y + 1 ≤ range.middle.y + range.halves)
range_down own field range light x y h = near_down range.middle x y range.halves (fourth (has own x y) (has field x y) _ _ h)

pub field_down : (field : Cells) (disc : Disc) (x y : ℕ) → field_in_disc field disc x y ≡ true
    → (disc.middle.y ≤ 2 * y + 1 + disc.halves) × (2 * y + 1 ≤ disc.middle.y + disc.halves)
field_down field disc x y h = near_down disc.middle x y disc.halves (second (has field x y) _ h)

bright_down : (a b : Bool) → (a && not b) ≡ true → a ≡ true
bright_down true b h = refl
bright_down false b h = h

-- so is one that isn't put out
pub bright_both : (own field : Cells) (range light : Disc) (rows : List ℕ) (x y : ℕ) → bright_test own range field light rows x y ≡ true → common_test own range field light x y ≡ true
bright_both own field range light rows x y h = bright_down (common_test own range field light x y) (is_in_rows rows x y) h

-- one more lamp
pub lit_more : (own : Cells) (range : Disc) (mult : ℕ) (fields : List (TokenId × Cells)) (lamps : List Lamp) (i : ℕ) (lamp : Lamp) (rows : List ℕ)
    → i < length lamps → lamp ≡ get_or lamps i lamp → (x y : ℕ)
    → ((lit_common own range mult fields (take i lamps) x y && not (is_in_rows rows x y)) || (lights own range mult fields x y lamp && not (is_in_rows rows x y)))
    ≡ (lit_common own range mult fields (take (i + 1) lamps) x y && not (is_in_rows rows x y))
lit_more own range mult fields lamps i lamp rows h is x y =
    either (lit_common own range mult fields (take i lamps) x y) (lights own range mult fields x y lamp) (not (is_in_rows rows x y))
    ∙ sym (ap (λ b. b && not (is_in_rows rows x y)) (list_any_more (lights own range mult fields x y) lamps i lamp h
    ∙ ap (λ (l : Lamp). lit_common own range mult fields (take i lamps) x y || lights own range mult fields x y l) (sym is)))
  where
    either : (a b n : Bool) → ((a && n) || (b && n)) ≡ ((a || b) && n)
    either true b true = refl
    either true true false = refl
    either true false false = refl
    either false b n = refl

-- one more darkness
pub dark_more : (fields : List (TokenId × Cells)) (lamps : List Lamp) (i : ℕ) (lamp : Lamp) → i < length lamps → lamp ≡ get_or lamps i lamp → (before : Bool) (x y : ℕ)
    → ((before || dark_common fields (take i lamps) x y) || puts_out fields x y lamp) ≡ (before || dark_common fields (take (i + 1) lamps) x y)
dark_more fields lamps i lamp h is before x y =
    regrouped before (dark_common fields (take i lamps) x y) (puts_out fields x y lamp)
    ∙ sym (ap (λ b. before || b) (list_any_more (puts_out fields x y) lamps i lamp h
    ∙ ap (λ (l : Lamp). dark_common fields (take i lamps) x y || puts_out fields x y l) (sym is)))
  where
    regrouped : (a b c : Bool) → ((a || b) || c) ≡ (a || (b || c))
    regrouped true b c = refl
    regrouped false b c = refl

-- the lamp lights as it is told by its field, and a darkness doesn't
pub lights_told : (own : Cells) (range : Disc) (mult : ℕ) (fields : List (TokenId × Cells)) (lamp : Lamp) (field : Cells) (x y : ℕ)
    → lamp.dark ≡ false → field_at lamp.id fields ≡ Some field
    → common_test own range field (record { middle = lamp.eye; halves = mult * lamp.radius }) x y ≡ lights own range mult fields x y lamp
lights_told own range mult fields lamp field x y light kept =
    sym ((λ i. not (light i) && common_by own range (kept i) (record { middle = lamp.eye; halves = mult * lamp.radius }) x y))

pub lights_none : (own : Cells) (range : Disc) (mult : ℕ) (fields : List (TokenId × Cells)) (lamp : Lamp) (x y : ℕ)
    → lamp.dark ≡ true → lights own range mult fields x y lamp ≡ false
lights_none own range mult fields lamp x y dark = λ i. not (dark i) && common_by own range (field_at lamp.id fields) (record { middle = lamp.eye; halves = mult * lamp.radius }) x y

pub puts_out_told : (fields : List (TokenId × Cells)) (lamp : Lamp) (field : Cells) (x y : ℕ)
    → lamp.dark ≡ true → field_at lamp.id fields ≡ Some field → field_in_disc field (disc_of lamp.eye lamp.radius) x y ≡ puts_out fields x y lamp
puts_out_told fields lamp field x y dark kept = sym (λ i. dark i && in_disc_by (kept i) (disc_of lamp.eye lamp.radius) x y)

pub puts_out_none : (fields : List (TokenId × Cells)) (lamp : Lamp) (x y : ℕ) → lamp.dark ≡ false → puts_out fields x y lamp ≡ false
puts_out_none fields lamp x y light = λ i. light i && in_disc_by (field_at lamp.id fields) (disc_of lamp.eye lamp.radius) x y

pub IsToldByCells-with_cells : (t s : Cells) (f : ℕ → ℕ → Bool) → t ≡ with_cells s f → IsToldByCells t
IsToldByCells-with_cells t s f e = subst IsToldByCells (sym e) (IsToldByCells-cells_where s.extent (λ x y. has s x y || f x y))

-- ---- fields in place of walls

wider : (d m n : ℕ) → m ≤ n → nat_le d m ≡ true → nat_le d n ≡ true
wider d m n h e = grind (arith, nat_tests)

-- a disc is in a larger one round the same point
in_larger : (middle other : Coordinates) (halves more x y : ℕ) → middle ≡ other → halves ≤ more
    → within_test middle (centre_of x y) halves ≡ true → within_test other (centre_of x y) more ≡ true
in_larger middle other halves more x y e h near =
    wider (squared_distance other (centre_of x y)) (halves * halves) (more * more) (mul-le-mul h h)
    (subst (λ (m : Coordinates). within_test m (centre_of x y) halves ≡ true) e near)

-- of two discs round one point the smaller tells
pub smaller_night : (own : Cells) (range night : Disc) (x y : ℕ) → night.middle ≡ range.middle → night.halves ≤ range.halves
    → field_in_disc own night x y ≡ common_test own range own night x y
smaller_night own range night x y e h =
    here (has own x y) (within_test night.middle (centre_of x y) night.halves) (within_test range.middle (centre_of x y) range.halves)
    (in_larger night.middle range.middle night.halves range.halves x y e h)
  where
    here : (cell small large : Bool) → (small ≡ true → large ≡ true) → (cell && small) ≡ (cell && cell && small && large)
    here true true large h = sym (h refl)
    here true false large h = refl
    here false small large h = refl

pub smaller_range : (own : Cells) (range night : Disc) (x y : ℕ) → night.middle ≡ range.middle → range.halves ≤ night.halves
    → field_in_disc own range x y ≡ common_test own range own night x y
smaller_range own range night x y e h =
    here (has own x y) (within_test range.middle (centre_of x y) range.halves) (within_test night.middle (centre_of x y) night.halves)
    (in_larger range.middle night.middle range.halves night.halves x y (sym e) h)
  where
    here : (cell small large : Bool) → (small ≡ true → large ≡ true) → (cell && small) ≡ (cell && cell && large && small)
    here true true large h = sym (ap (λ b. b && true) (h refl))
    here true false true h = refl
    here true false false h = refl
    here false small large h = refl

-- within at most 80 half cells of an eye, its field tells which cells are clear
served : (walls : WallLists) (eye : Coordinates) (halves x y : ℕ) → halves ≤ 80 → x < walls.extent.w → y < walls.extent.h
    → (has (field_of walls eye) x y && within_test eye (centre_of x y) halves) ≡ (clear_test walls eye x y && within_test eye (centre_of x y) halves)
served walls eye halves x y h hx hy =
    ap (λ b. b && within_test eye (centre_of x y) halves) (has-cells_where walls.extent (field_test walls eye) x y hx hy)
    ∙ here (reach_test eye x y 40) (clear_test walls eye x y) (within_test eye (centre_of x y) halves)
    (wider (squared_distance eye (centre_of x y)) (halves * halves) (80 * 80) (mul-le-mul h h))
  where
    here : (far clear near : Bool) → (near ≡ true → far ≡ true) → ((far && clear) && near) ≡ (clear && near)
    here true clear near h = refl
    here false true true h = h refl
    here false true false h = refl
    here false false near h = refl

-- the same of two fields
common_served : (walls : WallLists) (eye other : Coordinates) (range halves x y : ℕ) → range ≤ 80 → halves ≤ 80
    → x < walls.extent.w → y < walls.extent.h
    → common_test (field_of walls eye) (record { middle = eye; halves = range }) (field_of walls other) (record { middle = other; halves = halves }) x y
    ≡ ((clear_test walls eye x y && within_test eye (centre_of x y) range) && (clear_test walls other x y && within_test other (centre_of x y) halves))
common_served walls eye other range halves x y h k hx hy =
    swapped (has (field_of walls eye) x y) (has (field_of walls other) x y) (within_test other (centre_of x y) halves) (within_test eye (centre_of x y) range)
    ∙ ap (λ b. b && (has (field_of walls other) x y && within_test other (centre_of x y) halves)) (served walls eye range x y h hx hy)
    ∙ ap (λ b. (clear_test walls eye x y && within_test eye (centre_of x y) range) && b) (served walls other halves x y k hx hy)
  where
    swapped : (a b c d : Bool) → (a && b && c && d) ≡ ((a && d) && (b && c))
    swapped true true true d = unit d
      where
        unit : (d : Bool) → d ≡ (d && true)
        unit true = refl
        unit false = refl
    swapped true true false d = none d
      where
        none : (d : Bool) → false ≡ (d && false)
        none true = refl
        none false = refl
    swapped true false c d = none d
      where
        none : (d : Bool) → false ≡ (d && false)
        none true = refl
        none false = refl
    swapped false b c d = refl

-- the lamps light by their fields what they light by the walls
lit_served : (walls : WallLists) (eye : Coordinates) (range mult : ℕ) (fields : List (TokenId × Cells)) (lamps : List Lamp) (x y : ℕ)
    → range ≤ 80 → mult ≤ 4 → All (λ lamp. lamp.radius ≤ 20) lamps
    → All (λ lamp. field_at lamp.id fields ≡ Some (field_of walls lamp.eye)) lamps → x < walls.extent.w → y < walls.extent.h
    → lit_common (field_of walls eye) (record { middle = eye; halves = range }) mult fields lamps x y
    ≡ ((clear_test walls eye x y && within_test eye (centre_of x y) range) && lit_up_test walls lamps mult x y)
lit_served walls eye range mult fields [] x y h m radii kept hx hy = none (clear_test walls eye x y && within_test eye (centre_of x y) range)
  where
    none : (b : Bool) → false ≡ (b && false)
    none true = refl
    none false = refl
lit_served walls eye range mult fields (lamp ∷ lamps) x y h m radii kept hx hy =
    let light : Disc = record { middle = lamp.eye; halves = mult * lamp.radius } in
    let own : Disc = record { middle = eye; halves = range } in
    let radius : lamp.radius ≤ 20 = All-head (λ (lamp : Lamp). lamp.radius ≤ 20) lamp lamps radii in
    let reach : mult * lamp.radius ≤ 80 = mul-le-mul m radius in
    ap (λ o. (not lamp.dark && common_by (field_of walls eye) own o light x y) || lit_common (field_of walls eye) own mult fields lamps x y)
    (All-head (λ (lamp : Lamp). field_at lamp.id fields ≡ Some (field_of walls lamp.eye)) lamp lamps kept)
    ∙ ap (λ b. (not lamp.dark && b) || lit_common (field_of walls eye) own mult fields lamps x y) (common_served walls eye lamp.eye range (mult * lamp.radius) x y h reach hx hy)
    ∙ ap (λ b. (not lamp.dark && ((clear_test walls eye x y && within_test eye (centre_of x y) range) && (clear_test walls lamp.eye x y && within_test lamp.eye (centre_of x y) (mult * lamp.radius)))) || b)
    (lit_served walls eye range mult fields lamps x y h m (All-tail (λ (lamp : Lamp). lamp.radius ≤ 20) lamp lamps radii)
    (All-tail (λ (lamp : Lamp). field_at lamp.id fields ≡ Some (field_of walls lamp.eye)) lamp lamps kept) hx hy)
    ∙ together (not lamp.dark) (clear_test walls eye x y && within_test eye (centre_of x y) range) (clear_test walls lamp.eye x y && within_test lamp.eye (centre_of x y) (mult * lamp.radius)) (lit_up_test walls lamps mult x y)
  where
    together : (d a b c : Bool) → ((d && (a && b)) || (a && c)) ≡ (a && ((d && b) || c))
    together d true b c = refl
    together true false b c = refl
    together false false b c = refl

-- the darknesses put out by their fields what they put out by the walls
dark_served : (walls : WallLists) (fields : List (TokenId × Cells)) (lamps : List Lamp) (x y : ℕ) → All (λ lamp. lamp.radius ≤ 20) lamps
    → All (λ lamp. field_at lamp.id fields ≡ Some (field_of walls lamp.eye)) lamps → x < walls.extent.w → y < walls.extent.h
    → dark_common fields lamps x y ≡ put_out_test walls lamps x y
dark_served walls fields [] x y radii kept hx hy = refl
dark_served walls fields (lamp ∷ lamps) x y radii kept hx hy =
    let radius : lamp.radius ≤ 20 = All-head (λ (lamp : Lamp). lamp.radius ≤ 20) lamp lamps radii in
    let reach : 2 * lamp.radius ≤ 80 = omega arith in
    ap (λ o. (lamp.dark && in_disc_by o (disc_of lamp.eye lamp.radius) x y) || dark_common fields lamps x y)
    (All-head (λ (lamp : Lamp). field_at lamp.id fields ≡ Some (field_of walls lamp.eye)) lamp lamps kept)
    ∙ ap (λ b. (lamp.dark && b) || dark_common fields lamps x y) (served walls lamp.eye (2 * lamp.radius) x y reach hx hy)
    ∙ ap (λ b. (lamp.dark && (clear_test walls lamp.eye x y && within_test lamp.eye (centre_of x y) (2 * lamp.radius))) || b)
    (dark_served walls fields lamps x y (All-tail (λ (lamp : Lamp). lamp.radius ≤ 20) lamp lamps radii)
    (All-tail (λ (lamp : Lamp). field_at lamp.id fields ≡ Some (field_of walls lamp.eye)) lamp lamps kept) hx hy)

-- what the fields tell is what is seen
pub told_served : (mode : Mode) (walls : WallLists) (sight : Sight) (eye : Coordinates) (own : Cells) (lamps : List Lamp) (fields : List (TokenId × Cells)) (x y : ℕ)
    → sight.range ≤ 40 → sight.night ≤ 40 → sight.mult ≤ 4 → All (λ lamp. lamp.radius ≤ 20) lamps → own ≡ field_of walls eye
    → All (λ lamp. field_at lamp.id fields ≡ Some (field_of walls lamp.eye)) lamps → x < walls.extent.w → y < walls.extent.h
    → told_test mode sight eye own lamps fields x y ≡ sees_test mode walls lamps sight eye x y
told_served Off walls sight eye own lamps fields x y h n m radii is kept hx hy = refl
told_served Day walls sight eye own lamps fields x y h n m radii is kept hx hy =
    let reach : 2 * sight.range ≤ 80 = omega arith in
    ap (λ (set : Cells). common_test set (disc_of eye sight.range) set (disc_of eye sight.range) x y) is
    ∙ common_served walls eye eye (2 * sight.range) (2 * sight.range) x y reach reach hx hy
    ∙ twice (clear_test walls eye x y && reach_test eye x y sight.range)
  where
    twice : (b : Bool) → (b && b) ≡ b
    twice true = refl
    twice false = refl
told_served Night walls sight eye own lamps fields x y h n m radii is kept hx hy =
    let reach : 2 * sight.range ≤ 80 = omega arith in
    let near : 2 * sight.night ≤ 80 = omega arith in
    ap (λ (set : Cells). common_test set (disc_of eye sight.range) set (disc_of eye sight.night) x y
    || (lit_common set (disc_of eye sight.range) sight.mult fields lamps x y && not (dark_common fields lamps x y))) is
    ∙ ap (λ b. b || (lit_common (field_of walls eye) (disc_of eye sight.range) sight.mult fields lamps x y && not (dark_common fields lamps x y)))
    (common_served walls eye eye (2 * sight.range) (2 * sight.night) x y reach near hx hy)
    ∙ ap (λ b. ((clear_test walls eye x y && reach_test eye x y sight.range) && (clear_test walls eye x y && reach_test eye x y sight.night)) || (b && not (dark_common fields lamps x y)))
    (lit_served walls eye (2 * sight.range) sight.mult fields lamps x y reach m radii kept hx hy)
    ∙ ap (λ b. ((clear_test walls eye x y && reach_test eye x y sight.range) && (clear_test walls eye x y && reach_test eye x y sight.night))
    || (((clear_test walls eye x y && reach_test eye x y sight.range) && lit_up_test walls lamps sight.mult x y) && not b))
    (dark_served walls fields lamps x y radii kept hx hy)
    ∙ together (clear_test walls eye x y) (reach_test eye x y sight.range) (reach_test eye x y sight.night) (lit_up_test walls lamps sight.mult x y) (not (put_out_test walls lamps x y))
  where
    together : (clear range night up bright : Bool) → (((clear && range) && (clear && night)) || (((clear && range) && up) && bright)) ≡ (clear && (range && (night || (up && bright))))
    together true true night up bright = refl
    together true false night up bright = refl
    together false range night up bright = refl

pub same_field : (kept : Option Cells) (own field : Cells) → kept ≡ Some own → kept ≡ Some field → own ≡ field
same_field kept own field e f = ap (λ o. unwrap_or o own) (sym e ∙ f)
