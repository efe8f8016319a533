-- A world that its types keep, with keys, names and sizes that the campaign text takes, is one that it takes.
use Rattle.std.proofs.Common.{◌≡◌, ℕ, suc, ◌+◌, ◌*◌, ◌≤◌, List, [], ◌∷◌, ◌++◌, length, map, Option, Some, None, refl, sym, ap, ◌∙◌, arith, true, false, Bool, ◌&&◌, nat_le, subst}
use Rattle.std.specs.Prelude.{ℤ, not, IsTrue, AllPairs, unwrap_or, option_map, if◌then◌else◌}
use Rattle.std.specs.List.{AllByRecursion, list_all}
use Rattle.std.specs.Map.{values_of}
use Rattle.std.specs.Ordering.{is_lt}
use Rattle.std.specs.Str.{bytes_eq}
use Rattle.std.specs.FinMap.Entries.{is_sorted, below_all}
use Rattle.std.proofs.lemmas.List.Elements.{recursion_from_All}
use Rattle.std.proofs.lemmas.Bool.Decides.{nat_tests}
use Rattle.names.specs.Tag.{tag_cmp}
use Rattle.lattice.specs.Coordinates.{Coordinates}
use Rattle.cells.specs.Cells.{Extent, Cells, IsSize, has, cells_where}
use Rattle.cells.specs.declared.cell.Cell.{Cell}
use Rattle.cells.proofs.SetLaws.{IsToldByCells-cells_where}
use Rattle.fog_book.specs.Exposures.{cells_at}
use Rattle.lights.specs.Radii.{is_dark, is_radius}
use Rattle.sight_types.specs.Ranges.{are_ranges}
use Rattle.sight_types.specs.declared.Sight.{Sight}
use Rattle.topology.specs.Order.{point_before, wall_before}
use Rattle.topology.specs.WallLists.{AreWalls, IsOnMap, on_map_test}
use Rattle.topology.specs.declared.wall.Wall.{Wall}
use Rattle.maps.specs.Maps.{Grid, has_name, map_of}
use Rattle.maps.proofs.NameLemmas.{and_first, and_second, both}
use Rattle.seats.specs.Book.{Book}
use Rattle.tokens.specs.declared.token.Token.{Token}
use Rattle.world.specs.Rules.{belongs, fits_on, is_player, size_of, IsSetOf}
use Rattle.world.specs.Scene.{Scene}
use Rattle.world.specs.World.{World, is_used}
use Rattle.campaign_json.specs.declared.formats.Format.{Format}
use Rattle.campaign_json.specs.declared.formats.Format.TheVariants.{First, Second}
use Rattle.campaign_writing.specs.Written.{IsOfFormat, IsWritten, are_written_keys, are_written_macros, are_written_texts, are_written_tokens, is_written_key, is_written_text, is_written_token}
use Rattle.campaign_writing.specs.Kept.{AreNamed, IsKept, IsKeptBook, IsKeptMap, IsKeptToken}
use Rattle.campaign_writing.proofs.Writable.{AreInOrder, AreWallsOn, IsBookOf, IsLight, IsMacro, IsMapWith, IsSight, IsTokenOf, IsTrailOf, IsWallOn, IsWritable}
use Rattle.campaign_writing.proofs.Laid.{laid, laid_alike}
use Rattle.campaign_writing.proofs.Orders.{lesser_keys}
use Rattle.campaign_writing.proofs.Maps.{all_differ, less_differs}
use Rattle.campaign_writing.proofs.Fog.{map_there}
use Rattle.campaign_writing.proofs.Keys as keys

-- ---- types

light_each : (types : List (List ℕ × ℤ)) → AreNamed types → AllByRecursion (λ r. IsTrue (is_radius r)) (values_of types) → AllByRecursion (IsLight Second) types
light_each [] names radii = tt
light_each (type ∷ types) names radii = ((names.0, radii.0), light_each types names.1 radii.1)

bright_each : (types : List (List ℕ × ℤ)) → AllByRecursion (IsLight Second) types → list_all (λ light. not (is_dark light.1)) types ≡ true → AllByRecursion (IsLight First) types
bright_each [] are bright = tt
bright_each (type ∷ types) are bright =
    ((are.0.0, both (is_radius type.1) (not (is_dark type.1)) are.0.1 (and_first _ _ bright)), bright_each types are.1 (and_second (not (is_dark type.1)) _ bright))

lights_of : (format : Format) (w : World) → IsOfFormat format w → AllByRecursion (IsLight Second) w.scene.lights → AllByRecursion (IsLight format) w.scene.lights
lights_of First w of are = bright_each w.scene.lights are of.darknesses
lights_of Second w of are = are

sight_each : (types : List (List ℕ × Sight)) → AreNamed types → AllByRecursion (λ s. IsTrue (are_ranges s.range s.night s.mult)) (values_of types) → AllByRecursion IsSight types
sight_each [] names ranges = tt
sight_each (type ∷ types) names ranges = ((names.0, ranges.0), sight_each types names.1 ranges.1)

-- ---- maps

on_map : (size : Extent) (p : Coordinates) → IsOnMap size p → on_map_test size p ≡ true
on_map size p is = both _ _ (low p.x (2 * size.w) is.0) (low p.y (2 * size.h) is.1)
  where
    low : (a b : ℕ) → a ≤ b → nat_le a b ≡ true
    low a b h = grind (arith, nat_tests)

walls_each : (size : Extent) (walls : List Wall) → AllByRecursion (λ w. IsOnMap size w.first × IsOnMap size w.second) walls → AllByRecursion (λ w. IsTrue (point_before w.first w.second)) walls
    → AllByRecursion (IsWallOn size) walls
walls_each size [] on directed = tt
walls_each size (w ∷ walls) on directed = (record { first = on_map size w.first on.0.0; second = on_map size w.second on.0.1; directed = directed.0 }, walls_each size walls on.1 directed.1)

in_order : (walls : List Wall) → AllPairs (λ w other. IsTrue (wall_before w other)) walls → AreInOrder walls
in_order [] h = tt
in_order (w ∷ walls) h = (
  recursion_from_All (λ other. wall_before w other ≡ true) walls (λ k d lt. h 0 (suc k) d (omega arith) (omega (arith, lt))),
  in_order walls (λ i j d before lt. h (suc i) (suc j) d (omega (arith, before)) (omega (arith, lt))),
)

walls_on : (size : Extent) (walls : List Wall) → AreWalls size walls → AreWallsOn size walls
walls_on size walls are = record {
  each = walls_each size walls (recursion_from_All _ walls are.on_map) (recursion_from_All _ walls are.directed);
  few = are.few;
  ordered = in_order walls are.ordered;
}

no_trails : (maps : List Grid) → list_all (λ m. not m.trail) maps ≡ true → AllByRecursion (λ m. IsTrailOf First m.trail) maps
no_trails [] h = tt
no_trails (m ∷ maps) h = (off m.trail (and_first _ _ h), no_trails maps (and_second (not m.trail) _ h))
  where
    off : (on : Bool) → not on ≡ true → on ≡ false
    off true h = absurd cc
    off false h = refl

some_trails : (maps : List Grid) → AllByRecursion (λ m. IsTrailOf Second m.trail) maps
some_trails [] = tt
some_trails (m ∷ maps) = (tt, some_trails maps)

trails_of : (format : Format) (w : World) → IsOfFormat format w → AllByRecursion (λ m. IsTrailOf format m.trail) w.scene.maps
trails_of First w of = no_trails w.scene.maps of.trails
trails_of Second w of = some_trails w.scene.maps

maps_each : (format : Format) (maps : List Grid) → AllByRecursion (λ m. IsTrailOf format m.trail) maps → AllByRecursion IsKeptMap maps → AllByRecursion (IsMapWith format) maps
maps_each format [] trails h = tt
maps_each format (m ∷ maps) trails h = (
  record { name = h.0.name; map = h.0.map; trail = trails.0; vbl = walls_on m.walls.extent m.walls.vbl h.0.vbl; mbl = walls_on m.walls.extent m.walls.mbl h.0.mbl },
  maps_each format maps trails.1 h.1,
)

-- ---- tokens

-- a map that is found has a map's size
found_size : (name : List ℕ) (maps : List Grid) (size : Extent) → AllByRecursion IsKeptMap maps → size_of name maps ≡ Some size → IsSize size
found_size name [] size are there = absurd cc
found_size name (m ∷ maps) size are there = by (has_name name m) there (found_size name maps size are.1)
  where
    this : (a : Extent) → IsSize a → Some a ≡ Some size → IsSize size
    this a is e = let same : a ≡ size = cc in subst IsSize same is

    by : (b : Bool) → option_map (λ (m : Grid). m.walls.extent) (if b then Some m else map_of name maps) ≡ Some size → (size_of name maps ≡ Some size → IsSize size) → IsSize size
    by true e later = this m.walls.extent are.0.map.size e
    by false e later = later e

-- a square that is on a map begins at one of its 96 columns and rows at most
low_cell : (o : Option Extent) (cell : Cell) (side : ℕ) → ((size : Extent) → o ≡ Some size → IsSize size) → fits_on o cell side ≡ true → 1 ≤ side → (nat_le cell.x 95 && nat_le cell.y 95) ≡ true
low_cell None cell side sized on low = absurd cc
low_cell (Some size) cell side sized on low =
    let is = sized size refl in
    both _ _ (part cell.x side size.w low (and_first _ _ on) is.w_high) (part cell.y side size.h low (and_second (nat_le (cell.x + side) size.w) _ on) is.h_high)
  where
    part : (x side most : ℕ) → 1 ≤ side → nat_le (x + side) most ≡ true → most ≤ 96 → nat_le x 95 ≡ true
    part x side most some h high = grind (arith, nat_tests)

at_least : (n : ℕ) → nat_le 1 n ≡ true → 1 ≤ n
at_least n h = grind (arith, nat_tests)

token_of : (books : List Book) (s : Scene) (t : Token) → AllByRecursion IsKeptMap s.maps → IsKeptToken t → belongs s t ≡ true → is_used books t.id ≡ true → is_written_token t.name t.size ≡ true → IsTokenOf books s t
token_of books s t maps is stands used written =
    let high = and_second (nat_le 1 (length t.name)) (nat_le (length t.name) 40 && (nat_le 1 t.size && nat_le t.size 4)) written in
    let side = and_second (nat_le (length t.name) 40) (nat_le 1 t.size && nat_le t.size 4) high in
    record {
      id = is.id;
      used = used;
      name = both (nat_le 1 (length t.name)) (nat_le (length t.name) 40) (and_first (nat_le 1 (length t.name)) (nat_le (length t.name) 40 && (nat_le 1 t.size && nat_le t.size 4)) written) (and_first (nat_le (length t.name) 40) (nat_le 1 t.size && nat_le t.size 4) high);
      map = is.map;
      side = side;
      place = low_cell (size_of t.map s.maps) t.cell t.size (λ size e. found_size t.map s.maps size maps e) (and_first _ _ stands) (at_least t.size (and_first _ _ side));
      belongs = stands;
      owners = is.owners;
      sight = is.sight;
      light = is.light;
      public = is.public;
      own = is.own;
      secret = is.secret;
    }

tokens_each : (books : List Book) (s : Scene) (tokens : List Token) → AllByRecursion IsKeptMap s.maps → AllByRecursion IsKeptToken tokens → list_all (belongs s) tokens ≡ true → list_all (λ t. is_used books t.id) tokens ≡ true
    → are_written_tokens tokens ≡ true → AllByRecursion (IsTokenOf books s) tokens
tokens_each books s [] maps kept stand used written = tt
tokens_each books s (t ∷ tokens) maps kept stand used written = (
  token_of books s t maps kept.0 (and_first _ _ stand) (and_first _ _ used) (and_first _ _ written),
  tokens_each books s tokens maps kept.1 (and_second (belongs s t) _ stand) (and_second (is_used books t.id) _ used) (and_second (is_written_token t.name t.size) _ written),
)

-- ---- seats

macros_each : (macros : List (List ℕ × List ℕ)) → AreNamed macros → are_written_texts macros ≡ true → AllByRecursion IsMacro macros
macros_each [] names written = tt
macros_each (m ∷ macros) names written = ((names.0, and_first _ _ written), macros_each macros names.1 (and_second (is_written_text m.1) _ written))

books_each : (books : List Book) → AllByRecursion IsKeptBook books → are_written_keys books ≡ true → are_written_macros books ≡ true → AllByRecursion IsBookOf books
books_each [] kept keys macros = tt
books_each (b ∷ books) kept keys macros = (
  record {
    key = and_first _ _ keys;
    seed = kept.0.seed;
    bytes = kept.0.bytes;
    drawn = kept.0.drawn;
    tags = kept.0.tags.each;
    few = kept.0.tags.few;
    distinct = kept.0.tags.distinct;
    macros = macros_each b.macros kept.0.macros.names (and_first _ _ macros);
    few_macros = kept.0.macros.table.few;
    macros_ordered = kept.0.macros.table.in_order;
  },
  books_each books kept.1 (and_second (is_written_key b.key) _ keys) (and_second (are_written_texts b.macros) _ macros),
)

-- ---- what is exposed

names_differ : (maps : List Grid) → is_sorted tag_cmp (map (λ m. (m.name, m)) maps) ≡ true → keys.NamesDiffer maps
names_differ [] h = tt
names_differ (m ∷ maps) h = (
  later maps (and_first (below_all tag_cmp m.name (map (λ m. (m.name, m)) maps)) _ h),
  names_differ maps (and_second (below_all tag_cmp m.name (map (λ m. (m.name, m)) maps)) _ h),
)
  where
    later : (others : List Grid) → below_all tag_cmp m.name (map (λ m. (m.name, m)) others) ≡ true → AllByRecursion (λ other. bytes_eq m.name other.name ≡ false) others
    later [] h = tt
    later (other ∷ others) h = (
      less_differs m.name other.name (and_first (is_lt (tag_cmp m.name other.name)) _ h),
      later others (and_second (is_lt (tag_cmp m.name other.name)) _ h),
    )

-- the cells that are found under a key, told anew on the map of that name
module _ (format : Format) (w : World) (is : IsKept w) where
  abbrev s : Scene
  s = w.scene

  abbrev found : ℕ → Grid → Cells
  found = keys.looked w.scene.fog.sets

  abbrev cells : ℕ → Grid → Cells
  cells seat m = cells_where m.walls.extent (has (found seat m))

  told_anew : (m : Grid) (o : Option Cells) → IsSetOf m.walls.extent o
      → unwrap_or o (cells_where m.walls.extent (λ x y. false)) ≡ cells_where m.walls.extent (has (unwrap_or o (cells_where m.walls.extent (λ x y. false))))
  told_anew m None set = absurd set
  told_anew m (Some c) set = set.1 ∙ ap (λ (e : Extent). cells_where e (has c)) set.0

  maps_ordered : is_sorted tag_cmp (map (λ m. (m.name, m)) s.maps) ≡ true
  maps_ordered = is.maps.table.ordered

  one_alike : (done : List Grid) (m : Grid) (left : List Grid) → done ++ m ∷ left ≡ s.maps → (seat : ℕ) → 1 ≤ seat → seat ≤ s.fog.players → found seat m ≡ cells seat m
  one_alike done m left e seat low high =
      let new = all_differ m.name done (lesser_keys tag_cmp (λ m. m.name) done m left s.maps e maps_ordered) in
      let there : size_of m.name s.maps ≡ Some m.walls.extent = ap (λ maps. size_of m.name maps) (sym e) ∙ ap (option_map (λ (m : Grid). m.walls.extent)) (map_there done left m new) in
      told_anew m (cells_at s.fog.sets seat m.name) (is.scene.fog.sets m.name m.walls.extent seat there (player seat s.fog.players low high))
    where
      player : (seat players : ℕ) → 1 ≤ seat → seat ≤ players → IsTrue (is_player players seat)
      player seat players low high = grind (arith, nat_tests)

  lie : s.fog.sets ≡ laid s.fog.players cells s.maps
  lie =
      keys.laid_out s.fog.sets s.fog.players s.maps is.scene.fog.in_order (names_differ s.maps maps_ordered)
      ∙ laid_alike s.fog.players found cells s.maps one_alike

  pub writable : IsWritten w → IsOfFormat format w → IsWritable format w
  writable written of = record {
    world = is.world;
    lights = lights_of format w of (light_each s.lights is.lights.names (recursion_from_All _ (values_of s.lights) is.lights.table.radii));
    few_lights = is.lights.table.table.few;
    lights_ordered = is.lights.table.table.in_order;
    sights = sight_each s.sights is.sights.names (recursion_from_All _ (values_of s.sights) is.sights.table.sights);
    few_sights = is.sights.table.table.few;
    sights_ordered = is.sights.table.table.in_order;
    maps = maps_each format s.maps (trails_of format w of) is.maps.each;
    few_maps = is.maps.table.few;
    maps_ordered = maps_ordered;
    books = books_each w.books is.books written.keys written.macros;
    tokens = tokens_each w.books s s.tokens is.maps.each is.tokens.each is.scene.tokens is.world.tags written.tokens;
    tokens_ordered = is.tokens.ordered;
    cells = cells;
    laid_out = lie;
    sized = λ seat m. refl;
    told = λ seat m. IsToldByCells-cells_where m.walls.extent (has (found seat m));
  }
