-- Maps that were written are read.
use Rattle.std.proofs.Common.{◌≡◌, ℕ, zero, suc, ◌*◌, ◌≤◌, ◌<◌, List, [], ◌∷◌, ◌++◌, length, map, Some, Ok, refl, sym, ap, ◌∙◌, arith, true, false, Bool, ◌&&◌, nat_le}
use Rattle.std.specs.Prelude.{codes, replicate}
use Rattle.std.specs.List.{AllByRecursion, flat_map}
use Rattle.std.specs.Str.{bytes_eq}
use Rattle.std.specs.Ordering.{is_lt}
use Rattle.std.specs.FinMap.Entries.{is_sorted}
use Rattle.std.proofs.lemmas.Bool.Decides.{nat_tests}
use Rattle.names.specs.Tag.{tag_cmp}
use Rattle.names.specs.Words.{mode_word, wall_word}
use Rattle.names.specs.declared.kinds.Mode.{Mode}
use Rattle.names.specs.declared.kinds.WallKind.TheVariants.{Vbl, Mbl}
use Rattle.fog_book.specs.Exposures.{blank_sets, with_sets, with_map as with_fog_of_map}
use Rattle.cells.specs.Cells.{Extent}
use Rattle.fog_book.specs.declared.exposure.Exposure.{Exposure}
use Rattle.names.specs.Letters.{blank}
use Rattle.maps.specs.Maps.{Grid, has_map, new_map, with_map, with_mode, shown_if, trail_if}
use Rattle.maps.proofs.NameLemmas.{same_name, apart}
use Rattle.serde_json.specs.Data.{Data, boolean, string}
use Rattle.serde_json.specs.Find.{get}
use Rattle.serde_json.specs.View.{items_of}
use Rattle.world.specs.Scene.{Scene, with_grid}
use Rattle.campaign_json.specs.declared.formats.Format.{Format}
use Rattle.campaign_json.specs.declared.formats.Format.TheVariants.{First, Second}
use Rattle.campaign_json.specs.Reading.{under}
use Rattle.campaign_json.specs.Kinds as kinds
use Rattle.campaign_writing.proofs.Writable.{IsMapWith, IsTrailOf}
use Rattle.campaign_writing.specs.Trees.{whole, list}
use Rattle.campaign_writing.specs.Scenes.{map_tree, walls_tree}
use Rattle.campaign_scene.specs.Maps as read
use Rattle.campaign_writing.proofs.Parts.{field_reads, each_reads, list_reads, whole_reads}
use Rattle.campaign_writing.proofs.Orders.{between, fewer, room_left, lesser_keys}
use Rattle.campaign_writing.proofs.Types.{tag_is}
use Rattle.campaign_writing.proofs.Tokens.{mode_back}
use Rattle.campaign_writing.proofs.Letters.{IsNew, last_changed, last_found, rows_read}
use Rattle.campaign_writing.proofs.Walls.{with_list, walls_read}

pub less_differs : (a b : List ℕ) → is_lt (tag_cmp a b) ≡ true → bytes_eq a b ≡ false
less_differs a b less = by (bytes_eq a b) refl
  where
    by : (t : Bool) → bytes_eq a b ≡ t → t ≡ false
    by false e = refl
    by true e = let no : bytes_eq b b ≡ false = apart a b b less e in let yes : bytes_eq b b ≡ true = same_name b in absurd cc

pub all_differ : (name : List ℕ) (done : List Grid) → AllByRecursion (λ y. is_lt (tag_cmp y.name name) ≡ true) done → IsNew name done
all_differ name [] h = tt
all_differ name (y ∷ done) h = (less_differs y.name name h.0, all_differ name done h.1)

none_there : (name : List ℕ) (done : List Grid) → IsNew name done → has_map name done ≡ false
none_there name [] h = refl
none_there name (y ∷ done) h = rw h.0 (none_there name done h.1)

map_last : (m : Grid) (done : List Grid) → AllByRecursion (λ y. is_lt (tag_cmp y.name m.name) ≡ true) done → with_map m done ≡ done ++ m ∷ []
map_last m [] h = refl
map_last m (y ∷ done) h = rw h.0 (ap (λ rest. y ∷ rest) (map_last m done h.1))

bool_reads : (mode : Mode) → kinds.mode (string (mode_word mode)) ≡ Ok mode
bool_reads mode = rw (mode_back mode) refl

side : (n : ℕ) → 1 ≤ n → n ≤ 96 → (nat_le 1 n && nat_le n 96) ≡ true
side n low high = grind (arith, nat_tests)

-- ---- members behind that of the trail

width_there : (format : Format) (m : Grid) → get (codes "w") (map_tree format m) ≡ Some (whole m.walls.extent.w)
unfolding map_tree
width_there First m = refl
width_there Second m = refl

vbl_there : (format : Format) (m : Grid) → get (codes "vbl") (map_tree format m) ≡ Some (walls_tree m.walls.vbl)
unfolding map_tree
vbl_there First m = refl
vbl_there Second m = refl

trail_reads : (format : Format) (m : Grid) → IsTrailOf format m.trail → read.trail format (map_tree format m) ≡ Ok m.trail
unfolding map_tree
trail_reads First m is = ap Ok (sym is)
trail_reads Second m is = field_reads (codes "trail") kinds.boolean (map_tree Second m) (boolean m.trail) m.trail refl refl

keys_known : (format : Format) (m : Grid) → kinds.only (read.map_keys format) (map_tree format m) ≡ Ok tt
unfolding map_tree
keys_known First m = refl
keys_known Second m = refl

-- ---- one map

module _ (format : Format) (s : Scene) (m : Grid) (is : IsMapWith format m) (done : List Grid) (lesser : AllByRecursion (λ y. is_lt (tag_cmp y.name m.name) ≡ true) done) (few : length done < 8) where
  new : IsNew m.name done
  new = all_differ m.name done lesser

  same : bytes_eq m.name m.name ≡ true
  same = same_name m.name

  -- the scene before the map, with other maps and what is exposed of them
  abbrev before : Scene
  before = record s { maps = done }

  abbrev after_fog : Scene
  after_fog = record s { fog = with_fog_of_map s.fog m.name m.walls.extent }

  abbrev with_maps : Grid → Scene
  with_maps g = record after_fog { maps = done ++ g ∷ [] }

  grid_last : (f : Grid → Grid) (g : Grid) → bytes_eq g.name m.name ≡ true → with_grid m.name f (with_maps g) ≡ with_maps (f g)
  grid_last f g is_named = ap (λ maps. record after_fog { maps = maps }) (last_changed m.name f done g new is_named)

  -- the map without letters and walls
  abbrev bare : Grid
  bare = record m { letters = replicate (m.walls.extent.h * m.walls.extent.w) blank; walls = record { extent = m.walls.extent; vbl = []; mbl = [] } }

  blank_is : read.with_blank (record { name = m.name; size = m.walls.extent; mode = m.mode; shown = m.shown; trail = m.trail }) before ≡ with_maps bare
  blank_is =
      ap (λ maps. with_grid m.name (trail_if m.trail) (with_grid m.name (shown_if m.shown) (with_grid m.name (with_mode m.mode) (record after_fog { maps = maps })))) (map_last (new_map m.name m.walls.extent) done lesser)
      ∙ ap (λ s. with_grid m.name (trail_if m.trail) (with_grid m.name (shown_if m.shown) s)) (grid_last (with_mode m.mode) (new_map m.name m.walls.extent) same)
      ∙ ap (with_grid m.name (trail_if m.trail)) (grid_last (shown_if m.shown) (with_mode m.mode (new_map m.name m.walls.extent)) same)
      ∙ grid_last (trail_if m.trail) (shown_if m.shown (with_mode m.mode (new_map m.name m.walls.extent))) same

  name_reads : read.new_name before (string m.name) ≡ Ok m.name
  unfolding read.new_name
  name_reads = rw (tag_is m.name is.name, none_there m.name done new, room_left (length done) 8 few) refl

  heading_reads : read.heading format before (map_tree format m) ≡ Ok (record { name = m.name; size = m.walls.extent; mode = m.mode; shown = m.shown; trail = m.trail })
  unfolding read.heading map_tree
  heading_reads =
      rw (
        field_reads (codes "name") (read.new_name before) (map_tree format m) (string m.name) m.name refl name_reads,
        field_reads (codes "w") (kinds.whole 1 96) (map_tree format m) (whole m.walls.extent.w) m.walls.extent.w (width_there format m) (whole_reads 1 96 m.walls.extent.w (omega arith) (side m.walls.extent.w is.map.size.w_low is.map.size.w_high)),
        field_reads (codes "h") (kinds.whole 1 96) (map_tree format m) (whole m.walls.extent.h) m.walls.extent.h refl (whole_reads 1 96 m.walls.extent.h (omega arith) (side m.walls.extent.h is.map.size.h_low is.map.size.h_high)),
        field_reads (codes "mode") kinds.mode (map_tree format m) (string (mode_word m.mode)) m.mode refl (bool_reads m.mode),
        trail_reads format m is.trail,
      )
      refl

  -- with its letters, and then with its walls
  abbrev lettered : Grid
  lettered = record m { walls = record { extent = m.walls.extent; vbl = []; mbl = [] } }

  abbrev veiled : Grid
  veiled = record m { walls = record { extent = m.walls.extent; vbl = m.walls.vbl; mbl = [] } }

  letters_read : read.rows m.name m.walls.extent (read.with_blank (record { name = m.name; size = m.walls.extent; mode = m.mode; shown = m.shown; trail = m.trail }) before) (map_tree format m) ≡ Ok (with_maps lettered)
  unfolding map_tree
  letters_read =
      ap (λ scene. read.rows m.name m.walls.extent scene (map_tree format m)) blank_is
      ∙ rows_read m.name lettered (record { size = is.map.size; count = is.map.count; letters = is.map.letters }) same done new after_fog (map_tree format m) refl

  vbl_reads : read.walls m.name Vbl (with_maps lettered) (map_tree format m) ≡ Ok (with_maps veiled)
  unfolding map_tree wall_word
  vbl_reads =
      ap (λ scene. read.walls m.name Vbl scene (map_tree format m)) (sym (grid_last (with_list Vbl []) lettered same))
      ∙ walls_read m.name Vbl (with_maps lettered) lettered (last_found m.name done lettered new same) is.map.size m.walls.vbl is.vbl.each is.vbl.few is.vbl.ordered (map_tree format m) (vbl_there format m)
      ∙ ap Ok (grid_last (with_list Vbl m.walls.vbl) lettered same)

  mbl_reads : read.walls m.name Mbl (with_maps veiled) (map_tree format m) ≡ Ok (with_maps m)
  unfolding map_tree wall_word
  mbl_reads =
      ap (λ scene. read.walls m.name Mbl scene (map_tree format m)) (sym (grid_last (with_list Mbl []) veiled same))
      ∙ walls_read m.name Mbl (with_maps veiled) veiled (last_found m.name done veiled new same) is.map.size m.walls.mbl is.mbl.each is.mbl.few is.mbl.ordered (map_tree format m) refl
      ∙ ap Ok (grid_last (with_list Mbl m.walls.mbl) veiled same)

  pub map_reads : read.map format before (map_tree format m) ≡ Ok (with_maps m)
  unfolding read.map
  map_reads = rw (heading_reads, letters_read, vbl_reads, mbl_reads, keys_known format m) refl

-- ---- all maps

-- what is exposed of these maps at first: nothing to any player
abbrev pub blank_fog : ℕ → List Grid → List Exposure
blank_fog players maps = flat_map (λ m. blank_sets players m.name m.walls.extent) maps

fog_last : (players : ℕ) (done : List Grid) (m : Grid) → blank_fog players (done ++ m ∷ []) ≡ blank_fog players done ++ blank_sets players m.name m.walls.extent
fog_last players [] m = append_nil (blank_sets players m.name m.walls.extent)
  where
    append_nil : (xs : List Exposure) → xs ++ [] ≡ xs
    append_nil [] = refl
    append_nil (x ∷ xs) = ap (λ l. x ∷ l) (append_nil xs)
fog_last players (y ∷ done) m = ap (λ l. blank_sets players y.name y.walls.extent ++ l) (fog_last players done m) ∙ assoc (blank_sets players y.name y.walls.extent) (blank_fog players done) (blank_sets players m.name m.walls.extent)
  where
    assoc : (a b c : List Exposure) → a ++ (b ++ c) ≡ (a ++ b) ++ c
    assoc [] b c = refl
    assoc (x ∷ a) b c = ap (λ l. x ∷ l) (assoc a b c)

-- ---- where the sets of a new map stand

behind_lesser : (name : List ℕ) (fresh sets : List Exposure) → AllByRecursion (λ set. is_lt (tag_cmp set.map name) ≡ true) sets → with_sets name fresh sets ≡ sets ++ fresh
behind_lesser name fresh [] h = refl
behind_lesser name fresh (set ∷ sets) h = rw h.0 (ap (λ rest. set ∷ rest) (behind_lesser name fresh sets h.1))

both_lesser : (name : List ℕ) (a b : List Exposure) → AllByRecursion (λ set. is_lt (tag_cmp set.map name) ≡ true) a → AllByRecursion (λ set. is_lt (tag_cmp set.map name) ≡ true) b
    → AllByRecursion (λ set. is_lt (tag_cmp set.map name) ≡ true) (a ++ b)
both_lesser name [] b h k = k
both_lesser name (x ∷ a) b h k = (h.0, both_lesser name a b h.1 k)

blank_lesser : (n : ℕ) (other name : List ℕ) (size : Extent) → is_lt (tag_cmp other name) ≡ true → AllByRecursion (λ set. is_lt (tag_cmp set.map name) ≡ true) (blank_sets n other size)
blank_lesser zero other name size less = tt
blank_lesser (suc n) other name size less = both_lesser name (blank_sets n other size) _ (blank_lesser n other name size less) (less, tt)

all_lesser : (players : ℕ) (name : List ℕ) (done : List Grid) → AllByRecursion (λ y. is_lt (tag_cmp y.name name) ≡ true) done → AllByRecursion (λ set. is_lt (tag_cmp set.map name) ≡ true) (blank_fog players done)
all_lesser players name [] h = tt
all_lesser players name (y ∷ done) h = both_lesser name (blank_sets players y.name y.walls.extent) (blank_fog players done) (blank_lesser players y.name name y.walls.extent h.0) (all_lesser players name done h.1)

module _ (format : Format) (s : Scene) (players : ℕ) (all : List Grid) (are : AllByRecursion (IsMapWith format) all) (few : length all ≤ 8) (ordered : is_sorted tag_cmp (map (λ m. (m.name, m)) all) ≡ true) where
  abbrev pub with_first : List Grid → Scene
  with_first done = record s { maps = done; fog = record { players = players; sets = blank_fog players done } }

  one_map : (done : List Grid) (x : Grid) (left : List Grid) → done ++ x ∷ left ≡ all → read.map format (with_first done) (map_tree format x) ≡ Ok (with_first (done ++ x ∷ []))
  one_map done x left e =
      let lesser = lesser_keys tag_cmp (λ m. m.name) done x left all e ordered in
      map_reads format (record s { fog = record { players = players; sets = blank_fog players done } }) x (between (IsMapWith format) done x left all e are) done lesser (fewer done x left all 8 e few)
      ∙ ap (λ sets. Ok (record s { maps = done ++ x ∷ []; fog = record { players = players; sets = sets } }))
      (behind_lesser x.name (blank_sets players x.name x.walls.extent) (blank_fog players done) (all_lesser players x.name done lesser) ∙ sym (fog_last players done x))

  pub maps_read : (d : Data) → get (codes "maps") d ≡ Some (list (map (map_tree format) all)) → read.maps format (with_first []) d ≡ Ok (with_first all)
  unfolding read.maps
  maps_read d at =
      rw (field_reads (codes "maps") (kinds.list 0 8) d (list (map (map_tree format) all)) (items_of (map (map_tree format) all)) at (list_reads 0 8 (map_tree format) all (omega arith) few))
      (ap (under (codes "maps")) (each_reads with_first all (λ place. read.map format) (map_tree format) one_map))
