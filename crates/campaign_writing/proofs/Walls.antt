-- Walls that were written are read.
use Rattle.std.proofs.Common.{◌≡◌, ℕ, ◌*◌, ◌≤◌, ◌<◌, List, [], ◌∷◌, ◌++◌, length, map, Some, None, Ok, refl, sym, ap, ◌∙◌, arith, true, false, Bool, ◌&&◌, ◌||◌, cond, nat_le, subst}
use Rattle.std.specs.Prelude.{option_map, pos, nat_lt, nat_eq, insert}
use Rattle.std.specs.List.{AllByRecursion}
use Rattle.std.proofs.lemmas.Bool.Decides.{nat_tests}
use Rattle.std.proofs.lemmas.List.Edits.{insert_end}
use Rattle.names.specs.Words.{wall_word}
use Rattle.names.specs.declared.kinds.WallKind.{WallKind}
use Rattle.names.specs.declared.kinds.WallKind.TheVariants.{Vbl, Mbl}
use Rattle.lattice.specs.Coordinates.{Coordinates}
use Rattle.cells.specs.Cells.{Extent, IsSize}
use Rattle.topology.specs.Order.{point_before, wall_before, wall_between}
use Rattle.topology.specs.WallFaults.{wall_fault}
use Rattle.topology.specs.WallLists.{WallLists, walls_of, with_walls, with_wall, place_of, has_wall, on_map_test}
use Rattle.topology.specs.declared.wall.Wall.{Wall}
use Rattle.maps.specs.Maps.{Grid, with_wall_of, map_of, changed, has_name}
use Rattle.maps.proofs.Laws.{map_of-changed}
use Rattle.std.specs.Str.{bytes_eq}
use Rattle.maps.proofs.NameLemmas.{and_first, and_second}
use Rattle.serde_json.specs.Data.{Data}
use Rattle.serde_json.specs.Find.{get}
use Rattle.serde_json.specs.View.{items_of}
use Rattle.json_fields.specs.Kinds.{within}
use Rattle.world.specs.Scene.{Scene, with_grid}
use Rattle.campaign_json.specs.Reading.{under}
use Rattle.campaign_json.specs.Kinds as kinds
use Rattle.campaign_writing.proofs.Writable.{IsWallOn, AreInOrder}
use Rattle.campaign_writing.specs.Trees.{whole, list}
use Rattle.campaign_writing.specs.Scenes.{wall_tree, walls_tree}
use Rattle.campaign_scene.specs.Maps.{wall, wall_ends, walls, walled_at, point_on}
use Rattle.campaign_writing.proofs.Parts.{field_reads, item_reads, each_reads, list_reads, integer_reads}
use Rattle.campaign_writing.proofs.Orders.{between, fewer, room_left}

small_coordinate : (n : ℕ) → n ≤ 192 → kinds.integer (whole n) ≡ Ok (pos n)
small_coordinate n le = integer_reads n (omega (arith, le))

on_lattice : (size : Extent) (p : Coordinates) → IsSize size → on_map_test size p ≡ true → (p.x ≤ 192) × (p.y ≤ 192)
on_lattice size p is h =
    let w = is.w_high in
    let v = is.h_high in
    let left : nat_le p.x (2 * size.w) ≡ true = and_first (nat_le p.x (2 * size.w)) (nat_le p.y (2 * size.h)) h in
    let up : nat_le p.y (2 * size.h) ≡ true = and_second (nat_le p.x (2 * size.w)) (nat_le p.y (2 * size.h)) h in
    (low_enough p.x size.w w left, low_enough p.y size.h v up)
  where
    low_enough : (n w : ℕ) → w ≤ 96 → nat_le n (2 * w) ≡ true → n ≤ 192
    low_enough n w h e = grind (arith, nat_tests)

before_mid : (w : Wall) (done : List Wall) (x : Wall) (left : List Wall) → AllByRecursion (λ other. wall_before w other ≡ true) (done ++ x ∷ left) → wall_before w x ≡ true
before_mid w [] x left h = h.0
before_mid w (y ∷ done) x left h = before_mid w done x left h.1

all_before : (done : List Wall) (x : Wall) (left : List Wall) → AreInOrder (done ++ x ∷ left) → AllByRecursion (λ y. wall_before y x ≡ true) done
all_before [] x left h = tt
all_before (y ∷ done) x left h = (before_mid y done x left h.0, all_before done x left h.1)

-- a wall behind all others goes last
place_last : (x : Wall) (done : List Wall) → AllByRecursion (λ y. wall_before y x ≡ true) done → place_of x done ≡ length done
place_last x [] h = refl
place_last x (y ∷ done) h = rw h.0 (let e = place_last x done h.1 in omega (arith, e))

with_last : (x : Wall) (done : List Wall) → AllByRecursion (λ y. wall_before y x ≡ true) done → with_wall x done ≡ done ++ x ∷ []
with_last x done h = ap (λ n. insert done n x) (place_last x done h) ∙ insert_end done x

-- no wall stands before itself
apart : (a b c d e f g h : ℕ) → ((nat_lt a e || (nat_eq a e && nat_lt b f)) || ((nat_eq a e && nat_eq b f) && (nat_lt c g || (nat_eq c g && nat_lt d h)))) ≡ true
    → ((nat_eq e a && nat_eq f b) && (nat_eq g c && nat_eq h d)) ≡ false
apart a b c d e f g h less = grind (arith, nat_tests)

new_wall : (x : Wall) (done : List Wall) → AllByRecursion (λ y. wall_before y x ≡ true) done → has_wall x done ≡ false
new_wall x [] h = refl
new_wall x (y ∷ done) h = rw (apart y.first.x y.first.y y.second.x y.second.y x.first.x x.first.y x.second.x x.second.y h.0) (new_wall x done h.1)

ends_differ : (a b c d : ℕ) → (nat_lt a c || (nat_eq a c && nat_lt b d)) ≡ true → ((nat_lt c a || (nat_eq c a && nat_lt d b)) ≡ false) × ((nat_eq a c && nat_eq b d) ≡ false)
ends_differ a b c d less = (grind (arith, nat_tests), grind (arith, nat_tests))

within_reads : (most n : ℕ) → nat_le n most ≡ true → within 0 most (pos n) ≡ Some n
within_reads most n h = let low : nat_le 0 n ≡ true = grind (arith, nat_tests) in rw (low, h)

point_reads : (size : Extent) (p : Coordinates) → on_map_test size p ≡ true → point_on size (pos p.x) (pos p.y) ≡ Some p
point_reads size p h = rw (within_reads (2 * size.w) p.x (and_first (nat_le p.x (2 * size.w)) (nat_le p.y (2 * size.h)) h), within_reads (2 * size.h) p.y (and_second (nat_le p.x (2 * size.w)) (nat_le p.y (2 * size.h)) h)) refl

fits : (ls : WallLists) (kind : WallKind) (x : Wall) → IsWallOn ls.extent x → AllByRecursion (λ y. wall_before y x ≡ true) (walls_of ls kind) → length (walls_of ls kind) < 2048 → wall_fault ls kind x.first x.second ≡ None
fits ls kind x is before few =
    let differ = ends_differ x.first.x x.first.y x.second.x x.second.y is.directed in
    rw (is.first, is.second, differ.1, differ.0, new_wall x (walls_of ls kind) before, room_left (length (walls_of ls kind)) 2048 few) refl

-- a map with these walls of the kind
abbrev pub with_list : WallKind → List Wall → Grid → Grid
with_list kind list m = record m { walls = with_walls m.walls kind list }

listed : (kind : WallKind) (x : Wall) (done : List Wall) (m : Grid) → AllByRecursion (λ y. wall_before y x ≡ true) done → with_wall_of kind x.first x.second (with_list kind done m) ≡ with_list kind (with_wall (wall_between x.first x.second) done) m
listed Vbl x done m before = refl
listed Mbl x done m before = refl

listed_extent : (kind : WallKind) (done : List Wall) (m : Grid) → (with_list kind done m).walls.extent ≡ m.walls.extent
listed_extent Vbl done m = refl
listed_extent Mbl done m = refl

listed_walls : (kind : WallKind) (done : List Wall) (m : Grid) → walls_of (with_list kind done m).walls kind ≡ done
listed_walls Vbl done m = refl
listed_walls Mbl done m = refl

between_is : (x : Wall) → point_before x.first x.second ≡ true → wall_between x.first x.second ≡ x
between_is x h = rw ((ends_differ x.first.x x.first.y x.second.x x.second.y h).0) refl

-- a change of a map after a change of it
pub changed_twice : (name : List ℕ) (f g : Grid → Grid) → ((m : Grid) → (g m).name ≡ m.name) → (maps : List Grid) → changed name f (changed name g maps) ≡ changed name (λ m. f (g m)) maps
changed_twice name f g keeps [] = refl
changed_twice name f g keeps (m ∷ maps) = λ i. here (has_name name m) refl i ∷ changed_twice name f g keeps maps i
  where
    here : (b : Bool) → has_name name m ≡ b → (let n : Grid = cond b (g m) m in cond (has_name name n) (f n) n) ≡ cond b (f (g m)) m
    here true e = ap (λ t. cond t (f (g m)) (g m)) (ap (λ n. bytes_eq n name) (keeps m) ∙ e)
    here false e = ap (λ t. cond t (f m) m) e

pub changed_alike : (name : List ℕ) (f g : Grid → Grid) → ((m : Grid) → f m ≡ g m) → (maps : List Grid) → changed name f maps ≡ changed name g maps
changed_alike name f g same [] = refl
changed_alike name f g same (m ∷ maps) = λ i. cond (has_name name m) (same m i) m ∷ changed_alike name f g same maps i

-- the walls of one kind of the map of that name
module _ (name : List ℕ) (kind : WallKind) (s : Scene) (grid : Grid) (there : map_of name s.maps ≡ Some grid) (sized : IsSize grid.walls.extent) (all : List Wall) (are : AllByRecursion (IsWallOn grid.walls.extent) all) (few : length all ≤ 2048) (ordered : AreInOrder all) where
  abbrev pub after : List Wall → Scene
  after done = with_grid name (with_list kind done) s

  wall_reads : (done : List Wall) (x : Wall) (left : List Wall) → done ++ x ∷ left ≡ all → wall name kind (after done) (wall_tree x) ≡ Ok (after (done ++ x ∷ []))
  unfolding wall wall_ends walled_at
  wall_reads done x left e =
      let is = between (IsWallOn grid.walls.extent) done x left all e are in
      let before = all_before done x left (subst AreInOrder (sym e) ordered) in
      let found : map_of name (changed name (with_list kind done) s.maps) ≡ Some (with_list kind done grid) = map_of-changed (with_list kind done) (λ m. refl) name s.maps ∙ ap (option_map (with_list kind done)) there in
      let extent = listed_extent kind done grid in
      let fitting : wall_fault (with_list kind done grid).walls kind x.first x.second ≡ None =
      fits (with_list kind done grid).walls kind x (subst (λ (size : Extent). IsWallOn size x) (sym extent) is) (subst (λ (ws : List Wall). AllByRecursion (λ y. wall_before y x ≡ true) ws) (sym (listed_walls kind done grid)) before)
      (subst (λ (ws : List Wall). length ws < 2048) (sym (listed_walls kind done grid)) (fewer done x left all 2048 e few)) in
      let from : point_on (with_list kind done grid).walls.extent (pos x.first.x) (pos x.first.y) ≡ Some x.first = ap (λ (size : Extent). point_on size (pos x.first.x) (pos x.first.y)) extent ∙ point_reads grid.walls.extent x.first is.first in
      let to : point_on (with_list kind done grid).walls.extent (pos x.second.x) (pos x.second.y) ≡ Some x.second = ap (λ (size : Extent). point_on size (pos x.second.x) (pos x.second.y)) extent ∙ point_reads grid.walls.extent x.second is.second in
      rw (
        item_reads 0 kinds.integer (wall_tree x) (whole x.first.x) (pos x.first.x) refl (small_coordinate x.first.x (on_lattice grid.walls.extent x.first sized is.first).0),
        item_reads 1 kinds.integer (wall_tree x) (whole x.first.y) (pos x.first.y) refl (small_coordinate x.first.y (on_lattice grid.walls.extent x.first sized is.first).1),
        item_reads 2 kinds.integer (wall_tree x) (whole x.second.x) (pos x.second.x) refl (small_coordinate x.second.x (on_lattice grid.walls.extent x.second sized is.second).0),
        item_reads 3 kinds.integer (wall_tree x) (whole x.second.y) (pos x.second.y) refl (small_coordinate x.second.y (on_lattice grid.walls.extent x.second sized is.second).1),
        found,
        from,
        to,
        fitting,
      )
      (ap (λ maps. Ok (record s { maps = maps })) (changed_twice name (with_wall_of kind x.first x.second) (with_list kind done) (λ m. refl) s.maps
      ∙ changed_alike name (λ m. with_wall_of kind x.first x.second (with_list kind done m)) (with_list kind (done ++ x ∷ []))
      (λ m. listed kind x done m before ∙ ap (λ w. with_list kind (with_wall w done) m) (between_is x is.directed) ∙ ap (λ ws. with_list kind ws m) (with_last x done before)) s.maps))

  pub walls_read : (d : Data) → get (wall_word kind) d ≡ Some (walls_tree all) → walls name kind (after []) d ≡ Ok (after all)
  unfolding walls
  walls_read d at =
      rw (field_reads (wall_word kind) (kinds.list 0 2048) d (walls_tree all) (items_of (map wall_tree all)) at (list_reads 0 2048 wall_tree all (omega arith) few))
      (ap (under (wall_word kind)) (each_reads after all (λ place. wall name kind) wall_tree wall_reads))
