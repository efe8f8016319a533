-- Maps while they are read.
use Rattle.std.proofs.Common.{◌≡◌, ℕ, ◌+◌, ◌<◌, ◌≤◌, suc, zero, Bool, true, false, cond, nat_le, if◌then◌else◌, List, [], ◌∷◌, length, drop, get_or, ℤ, Option, Some, None, Result, Ok, is_some, option_map, refl, sym, ap, ◌∙◌, arith, subst}
use Rattle.std.specs.Prelude.{IfSome}
use Rattle.std.specs.List.{list_all}
use Rattle.std.proofs.lemmas.List.{drop_all, drop_more}
use Rattle.names.specs.declared.kinds.Mode.{Mode}
use Rattle.names.specs.declared.kinds.WallKind.{WallKind}
use Rattle.lattice.specs.Coordinates.{Coordinates}
use Rattle.topology.specs.WallFaults.{wall_fault, IsFaultOf as IsWallFaultOf}
use Rattle.topology.specs.declared.walls.WallFault.{WallFault}
use Rattle.topology.specs.declared.walls.WallFault.TheVariants.{OffMap, DegenerateWall, WallThere, WallLimit, Memory}
use Rattle.json_fields.specs.Objects.{◌>>=◌}
use Rattle.cells.specs.Cells.{Extent}
use Rattle.maps.specs.Letters.{IsOn}
use Rattle.maps.specs.MapFaults.{map_fault}
use Rattle.maps.specs.Maps.{Grid, has_map, map_of, new_map, shown_if, trail_if, with_letters, with_mode, with_wall_of}
use Rattle.maps.specs.declared.map_table.MapFault.TheVariants.{MapExists, MapLimit}
use Rattle.maps.proofs.NameLemmas.{and_first, and_second, same_name}
use Rattle.world.specs.Rules.{size_of}
use Rattle.world.specs.Scene.{Scene, with_grid, with_new_map}
use Rattle.world.proofs.FogRules.{size_of-changed, size_of-with_map}
use Rattle.campaign_json.specs.declared.faults.BadCampaign.{BadCampaign}
use Rattle.campaign_json.specs.declared.faults.FileFault.{FileFault}
use Rattle.campaign_json.specs.declared.faults.Rule.TheVariants.{Range, Twice, Cross}
use Rattle.campaign_json.specs.Reading.{Fails, broken}
use Rattle.campaign_scene.specs.declared.map.Heading.{Heading}
use Rattle.campaign_scene.specs.Kept.{kept}
use Rattle.campaign_scene.specs.Maps.{frame, cell_rect, lettered, with_blank, point_on, unbroken, walled_at, IsWallBreach}
use Rattle.campaign_json.proofs.Each.{is_breach}

-- ---- a map that is there

sized_there : (found : Option Grid) (size : Extent) → option_map (λ (m : Grid). m.walls.extent) found ≡ Some size → is_some found ≡ true
sized_there None size e = absurd cc
sized_there (Some m) size e = refl

-- a map of a size is there
pub there : (name : List ℕ) (s : Scene) (size : Extent) → size_of name s.maps ≡ Some size → has_map name s.maps ≡ true
there name s size e = sized_there (map_of name s.maps) size e

sized_on : (found : Option Grid) (size : Extent) (x y : ℕ) → option_map (λ (m : Grid). m.walls.extent) found ≡ Some size → x < size.w → y < size.h → IfSome found (λ (m : Grid). IsOn m.walls.extent (cell_rect y x))
sized_on None size x y e left above = absurd cc
sized_on (Some m) size x y e left above =
    let same : size ≡ m.walls.extent = cc in
    let w : x < m.walls.extent.w = subst (λ (k : Extent). x < k.w) same left in
    let h : y < m.walls.extent.h = subst (λ (k : Extent). y < k.h) same above in
    (omega (arith, w), omega (arith, h))

-- a cell of a map of a size is on the map
pub on_map : (name : List ℕ) (s : Scene) (size : Extent) (x y : ℕ) → size_of name s.maps ≡ Some size → x < size.w → y < size.h → IfSome (map_of name s.maps) (λ (m : Grid). IsOn m.walls.extent (cell_rect y x))
on_map name s size x y e left above = sized_on (map_of name s.maps) size x y e left above

-- ---- a new map

no_size : (found : Option Grid) → is_some found ≡ false → option_map (λ (m : Grid). m.walls.extent) found ≡ None
no_size None e = refl
no_size (Some m) e = absurd cc

fault_tells : (has full : Bool) → (if has then Some MapExists else if full then Some MapLimit else None) ≡ None → has ≡ false
fault_tells true full e = absurd cc
fault_tells false full e = refl

pub new_size : (name : List ℕ) (size : Extent) (s : Scene) → map_fault s.maps name ≡ None → size_of name (with_new_map name size s).maps ≡ Some size
new_size name size s none =
    let absent : size_of name s.maps ≡ None = no_size (map_of name s.maps) (fault_tells (has_map name s.maps) (nat_le 8 (length s.maps)) none) in
    size_of-with_map (new_map name size) name s.maps absent ∙ ap (λ b. cond b (Some size) (size_of name s.maps)) (same_name name)

pub moded_size : (name : List ℕ) (mode : Mode) (s : Scene) → size_of name (with_grid name (with_mode mode) s).maps ≡ size_of name s.maps
moded_size name mode s = size_of-changed (with_mode mode) (λ m. refl) (λ m. refl) name name s.maps

pub shown_size : (name : List ℕ) (shown : Bool) (s : Scene) → size_of name (with_grid name (shown_if shown) s).maps ≡ size_of name s.maps
shown_size name shown s = size_of-changed (shown_if shown) (λ m. refl) (λ m. refl) name name s.maps

pub blank_size : (new : Heading) (s : Scene) → map_fault s.maps new.name ≡ None → size_of new.name (with_blank new s).maps ≡ Some new.size
blank_size new s none =
    let added : Scene = with_new_map new.name new.size s in
    let moded : Scene = with_grid new.name (with_mode new.mode) added in
    let shown : Scene = with_grid new.name (shown_if new.shown) moded in
    size_of-changed (trail_if new.trail) (λ m. refl) (λ m. refl) new.name new.name shown.maps
    ∙ shown_size new.name new.shown moded ∙ moded_size new.name new.mode added ∙ new_size new.name new.size s none

-- ---- walls

wall_fails : (o : Option WallFault) (fault : WallFault) (found : FileFault) (next : Result Scene BadCampaign) → IsWallFaultOf o fault → IsWallBreach fault found → Fails found (unbroken o >>= λ fits. next)
wall_fails None fault found next is breach =
    subst (λ (f : FileFault). Fails f next) (sym (subst (λ (w : WallFault). IsWallBreach w found) is breach)) tt
wall_fails (Some OffMap) fault found next is breach = is_breach _ found (broken Cross) refl (subst (λ (w : WallFault). IsWallBreach w found) is breach)
wall_fails (Some DegenerateWall) fault found next is breach = is_breach _ found (broken Cross) refl (subst (λ (w : WallFault). IsWallBreach w found) is breach)
wall_fails (Some WallThere) fault found next is breach = is_breach _ found (broken Twice) refl (subst (λ (w : WallFault). IsWallBreach w found) is breach)
wall_fails (Some WallLimit) fault found next is breach = is_breach _ found (broken Range) refl (subst (λ (w : WallFault). IsWallBreach w found) is breach)
wall_fails (Some Memory) fault found next is breach =
    subst (λ (f : FileFault). Fails f (unbroken (Some Memory) >>= λ fits. next)) (sym (subst (λ (w : WallFault). IsWallBreach w found) is breach)) tt

-- a wall that the map refuses
pub walled_fails : (name : List ℕ) (kind : WallKind) (first second : ℤ × ℤ) (s : Scene) (grid : Grid) (a b : Coordinates) (fault : WallFault) (found : FileFault) → map_of name s.maps ≡ Some grid
    → point_on grid.walls.extent first.0 first.1 ≡ Some a → point_on grid.walls.extent second.0 second.1 ≡ Some b → IfSome (map_of name s.maps) (λ m. IsWallFaultOf (wall_fault m.walls kind a b) fault)
    → IsWallBreach fault found → Fails found (walled_at name kind first second s)
unfolding walled_at
walled_fails name kind first second s grid a b fault found is from to refused breach =
    let refusal : IsWallFaultOf (wall_fault grid.walls kind a b) fault = subst (λ (o : Option Grid). IfSome o (λ m. IsWallFaultOf (wall_fault m.walls kind a b) fault)) is refused in
    rw (is, from, to) (wall_fails (wall_fault grid.walls kind a b) fault found (Ok (with_grid name (with_wall_of kind a b) s)) refusal breach)

-- ---- letters

-- what the loop over the letters of a row keeps at a column
pub record IsLaidTo (name : List ℕ) (y : ℕ) (letters : List ℕ) (start : Scene) (x : ℕ) (now : Scene) : Type 0 where
  pub so_far : lettered name y x now (drop x letters) ≡ lettered name y 0 start letters
  pub kept : frame name now ≡ frame name start

pub laid_more : (name : List ℕ) (y : ℕ) (letters : List ℕ) (start : Scene) (x : ℕ) (now next : Scene) (letter : ℕ) → IsLaidTo name y letters start x now → x < length letters → letter ≡ get_or letters x 0
    → next ≡ with_grid name (with_letters (cell_rect y x) letter) now → IsLaidTo name y letters start (x + 1) next
laid_more name y letters start x now next letter before lt is made = record {
  so_far =
      ap (λ s. lettered name y (x + 1) s (drop (x + 1) letters)) made
      ∙ sym (ap (lettered name y x now) (drop_more letters x 0 lt ∙ ap (λ l. l ∷ drop (x + 1) letters) (sym is)))
      ∙ before.so_far;
  kept =
      ap (frame name) made
      ∙ ap (λ size. (kept now, size)) (size_of-changed (with_letters (cell_rect y x) letter) (λ m. refl) (λ m. refl) name name now.maps)
      ∙ before.kept;
}

pub laid_all : (name : List ℕ) (y : ℕ) (letters : List ℕ) (start : Scene) (x : ℕ) (now : Scene) → IsLaidTo name y letters start x now → length letters ≤ x → now ≡ lettered name y 0 start letters
laid_all name y letters start x now before end = sym (ap (lettered name y x now) (drop_all x letters end)) ∙ before.so_far

pub good_at : (p : ℕ → Bool) (xs : List ℕ) (i d : ℕ) → list_all p xs ≡ true → i < length xs → p (get_or xs i d) ≡ true
good_at p [] i d h lt = absurd (omega arith)
good_at p (x ∷ xs) zero d h lt = and_first (p x) (list_all p xs) h
good_at p (x ∷ xs) (suc i) d h lt = good_at p xs i d (and_second (p x) (list_all p xs) h) (omega arith)
