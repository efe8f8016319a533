-- A campaign that was written is read.
use Rattle.std.proofs.Common.{◌≡◌, ℕ, zero, suc, ◌+◌, ◌≤◌, List, [], ◌∷◌, ◌++◌, length, map, Some, None, Ok, refl, sym, ap, ◌∙◌, arith, true, false, Bool, ◌&&◌, cond, nat_le, subst}
use Rattle.std.specs.Prelude.{codes, nat_lt}
use Rattle.std.specs.List.{AllByRecursion, filter}
use Rattle.std.proofs.lemmas.Bool.Decides.{nat_tests}
use Rattle.names.specs.Tag.{is_tag, tag_cmp}
use Rattle.cells.specs.Cells.{Cells, IsSize, cells_where}
use Rattle.cells.specs.Runs.{runs_of}
use Rattle.cells.specs.declared.cell.Run.{Run}
use Rattle.fog_book.specs.Exposures.{cells_at, exposed_of}
use Rattle.initiative.specs.Fights.{no_fight}
use Rattle.maps.specs.Maps.{Grid}
use Rattle.seats.specs.Book.{Book}
use Rattle.serde_json.specs.Data.{Data, object, no_members}
use Rattle.serde_json.specs.Find.{get}
use Rattle.serde_json.specs.View.{items_of}
use Rattle.world.specs.Rules.{is_player}
use Rattle.world.specs.Scene.{Scene, bare}
use Rattle.world.specs.World.{World, AreNumberedFrom}
use Rattle.campaign_json.specs.declared.formats.Format.{Format}
use Rattle.campaign_json.specs.declared.formats.Format.TheVariants.{First, Second}
use Rattle.campaign_json.specs.Kinds.{format_number}
use Rattle.campaign_json.specs.Reading.{under}
use Rattle.campaign_json.specs.Kinds as kinds
use Rattle.campaign_writing.proofs.Writable.{IsMapWith, IsTokenOf, IsBookOf, IsWritable}
use Rattle.campaign_writing.specs.Trees.{whole, list, named}
use Rattle.campaign_writing.proofs.Laid.{laid, row_alike, laid_alike}
use Rattle.campaign_writing.specs.Scenes.{fog_tree, runs_tree, runs_in, runs_at, some_runs}
use Rattle.campaign_writing.specs.Canonical.{campaign_tree_in, seat_tree, reopened, reopened_book}
use Rattle.campaign_scene.specs.Fog.{fog, fog_of_player, no_fog}
use Rattle.campaign_file.specs.Seats as read_seats
use Rattle.campaign_scene.specs.Maps as read_maps
use Rattle.serde_json.specs.Events.{items_len}
use Rattle.std.specs.Prelude.{slice_get}
use Rattle.world.specs.World.{used_by}
use Rattle.tokens.specs.declared.token.Token.{Token}
use Rattle.campaign_file.specs.Campaign.{campaign, players_in, players_among}
use Rattle.campaign_writing.proofs.Parts.{field_reads, each_reads, list_reads, items_len-of, length-map, in_range}
use Rattle.campaign_writing.proofs.Orders.{between, lesser_keys}
use Rattle.campaign_writing.proofs.Types.{lights_read, sights_read}
use Rattle.campaign_writing.proofs.Maps.{blank_fog, maps_read, all_differ}
use Rattle.campaign_writing.proofs.Tokens.{tokens_read}
use Rattle.campaign_writing.proofs.Letters.{IsNew}
use Rattle.campaign_writing.proofs.Fog as exposure
use Rattle.campaign_writing.proofs.Seats.{seat_reads}

number_mid : (k : ℕ) (done : List Book) (x : Book) (left : List Book) → AreNumberedFrom k (done ++ x ∷ left) → x.seat ≡ k + length done
number_mid k [] x left h = h.0 ∙ omega arith
number_mid k (y ∷ done) x left h = let e = number_mid (k + 1) done x left h.1 in omega (arith, e)

count_split : (done : List Book) (x : Book) (left : List Book) → length (done ++ x ∷ left) ≡ length done + suc (length left)
count_split [] x left = omega arith
count_split (y ∷ done) x left = let e = count_split done x left in omega (arith, e)

count_one : (done : List Book) (x : Book) → length (done ++ x ∷ []) ≡ length done + 1
count_one done x = count_split done x [] ∙ omega arith

map_one : (f : Book → Book) (done : List Book) (x : Book) → map f (done ++ x ∷ []) ≡ map f done ++ f x ∷ []
map_one f [] x = refl
map_one f (y ∷ done) x = ap (λ l. f y ∷ l) (map_one f done x)

format_reads : (format : Format) → kinds.format (whole (format_number format)) ≡ Ok format
format_reads First = refl
format_reads Second = refl

module _ (format : Format) (w : World) (is : IsWritable format w) where
  abbrev s : Scene
  s = w.scene

  abbrev players : ℕ
  players = w.scene.fog.players

  -- the cells of the seats below a number, none of the others
  abbrev shown : ℕ → ℕ → Grid → Cells
  shown n seat m = cond (nat_lt seat n) (is.cells seat m) (cells_where m.walls.extent (λ x y. false))

  -- the scene without tokens and fight, with what is exposed to the seats below a number
  abbrev seated_to : ℕ → Scene
  seated_to n = record s { tokens = []; fog = record { players = players; sets = laid players (shown n) s.maps }; fight = no_fight }

  distinct : (done : List Grid) (x : Grid) (left : List Grid) → done ++ x ∷ left ≡ s.maps → IsNew x.name done
  distinct done x left e = all_differ x.name done (lesser_keys tag_cmp (λ m. m.name) done x left s.maps e is.maps_ordered)

  tags_of : (maps : List Grid) → AllByRecursion (IsMapWith format) maps → AllByRecursion (λ m. (is_tag m.name ≡ true) × IsSize m.walls.extent) maps
  tags_of [] h = tt
  tags_of (m ∷ maps) h = ((h.0.name, h.0.map.size), tags_of maps h.1)

  -- ---- which maps stand in a seat's object

  abbrev written_runs : ℕ → Grid → List ℕ × List Run
  written_runs seat m = (m.name, runs_at s seat m.name)

  abbrev cell_runs : ℕ → Grid → List ℕ × List Run
  cell_runs seat m = (m.name, runs_of (is.cells seat m))

  player_runs : (seat : ℕ) → 1 ≤ seat → seat ≤ players → (done left : List Grid) → done ++ left ≡ s.maps → map (written_runs seat) left ≡ map (cell_runs seat) left
  player_runs seat low high done [] e = refl
  player_runs seat low high done (x ∷ left) e =
      let found : exposed_of s.fog seat x.name ≡ Some (is.cells seat x) =
      ap (λ sets. cells_at sets seat x.name) is.laid_out ∙ ap (λ maps. cells_at (laid players is.cells maps) seat x.name) (sym e) ∙ exposure.laid_found players is.cells seat done x left low high (distinct done x left e) in
      λ i. (x.name, runs_in (found i)) ∷ player_runs seat low high (done ++ x ∷ []) left (exposure.append_one done x left ∙ e) i

  first_runs : (maps : List Grid) → filter some_runs (map (λ m. (m.name, runs_at s 0 m.name)) maps) ≡ []
  first_runs [] = refl
  first_runs (m ∷ maps) =
      let none : exposed_of s.fog 0 m.name ≡ None = ap (λ sets. cells_at sets 0 m.name) is.laid_out ∙ exposure.laid_none players is.cells m.name s.maps in
      ap (λ o. cond (some_runs (m.name, runs_in o)) ((m.name, runs_in o) ∷ filter some_runs (map (λ m. (m.name, runs_at s 0 m.name)) maps)) (filter some_runs (map (λ m. (m.name, runs_at s 0 m.name)) maps))) none ∙ first_runs maps

  -- ---- sets from seat 1 on

  first_shown : laid players (shown 0) s.maps ≡ laid players (shown 1) s.maps
  first_shown = laid_alike players (shown 0) (shown 1) s.maps (λ done m left e seat low high. ap (λ b. cond b (is.cells seat m) (cells_where m.walls.extent (λ x y. false))) (not_one seat low))
    where
      not_one : (seat : ℕ) → 1 ≤ seat → nat_lt seat 0 ≡ nat_lt seat 1
      not_one seat low = grind (arith, nat_tests)

  all_shown : laid players (shown (players + 1)) s.maps ≡ s.fog.sets
  all_shown = laid_alike players (shown (players + 1)) is.cells s.maps (λ done m left e seat low high. ap (λ b. cond b (is.cells seat m) (cells_where m.walls.extent (λ x y. false))) (under_it seat players high)) ∙ sym is.laid_out
    where
      under_it : (seat players : ℕ) → seat ≤ players → nat_lt seat (players + 1) ≡ true
      under_it seat players high = grind (arith, nat_tests)

  none_shown : blank_fog players s.maps ≡ laid players (shown 0) s.maps
  none_shown = here s.maps
    where
      nobody : (seat : ℕ) → nat_lt seat 0 ≡ false
      nobody seat = grind (arith, nat_tests)

      here : (maps : List Grid) → blank_fog players maps ≡ laid players (shown 0) maps
      here [] = refl
      here (m ∷ maps) = λ i. (exposure.blank_laid players m ∙ row_alike (λ seat x. cells_where x.walls.extent (λ u v. false)) (shown 0) m 1 players (λ seat low high. sym (ap (λ b. cond b (is.cells seat m) (cells_where m.walls.extent (λ x y. false))) (nobody seat)))) i ++ here maps i

  -- ---- seat after seat

  fog_at : (seat : ℕ) → seat ≤ players → (x : Book) → x.seat ≡ seat → fog seat (seated_to seat) (seat_tree s x) ≡ Ok (seated_to (seat + 1))
  unfolding fog seat_tree no_fog
  fog_at seat high x same = by (is_player players seat) refl
    where
      no_player : (seat players : ℕ) → seat ≤ players → is_player players seat ≡ false → seat ≡ 0
      no_player seat players high e = grind (arith, nat_tests)

      a_player : (seat players : ℕ) → is_player players seat ≡ true → (1 ≤ seat) × (seat ≤ players)
      a_player seat players e = (grind (arith, nat_tests), grind (arith, nat_tests))

      tree : get (codes "fog") (seat_tree s x) ≡ Some (fog_tree s seat)
      tree = ap (λ k. Some (fog_tree s k)) same

      by : (b : Bool) → is_player players seat ≡ b → cond b (fog_of_player seat (seated_to seat) (seat_tree s x)) (no_fog (seated_to seat) (seat_tree s x)) ≡ Ok (seated_to (seat + 1))
      by true e =
          let low = a_player seat players e in
          exposure.player_reads (record s { tokens = []; fight = no_fight }) players seat low.0 high is.cells is.sized is.told distinct (tags_of s.maps is.maps) (seat_tree s x)
          (tree ∙ ap (λ l. Some (object (named runs_tree (filter some_runs l)))) (player_runs seat low.0 high [] s.maps refl))
      by false e =
          let zero_is = no_player seat players high e in
          let none : get (codes "fog") (seat_tree s x) ≡ Some (object no_members) = tree ∙ ap (λ k. Some (fog_tree s k)) zero_is ∙ ap (λ l. Some (object (named runs_tree l))) (first_runs s.maps) in
          rw (field_reads (codes "fog") (kinds.members 0) (seat_tree s x) (object no_members) no_members none refl)
          (ap (λ k. Ok (seated_to k)) zero_is
          ∙ ap (λ sets. Ok (record s { tokens = []; fog = record { players = players; sets = sets }; fight = no_fight })) first_shown
          ∙ ap (λ k. Ok (seated_to (k + 1))) (sym zero_is))

  abbrev so_far : List Book → World
  so_far done = record { scene = seated_to (length done); books = map reopened_book done }

  one_seat : (done : List Book) (x : Book) (left : List Book) → done ++ x ∷ left ≡ w.books → read_seats.seated (length done) (so_far done) (seat_tree s x) ≡ Ok (so_far (done ++ x ∷ []))
  unfolding read_seats.seated
  one_seat done x left e =
      let number : x.seat ≡ length done = number_mid 0 done x left (subst (AreNumberedFrom 0) (sym e) is.world.numbered) ∙ omega arith in
      let count : length w.books ≡ length done + suc (length left) = ap length (sym e) ∙ count_split done x left in
      let all : players + 1 ≡ length w.books = is.world.players in
      let high : x.seat ≤ players = omega (arith, number, count, all) in
      let reads : read_seats.seat x.seat (seated_to x.seat) (seat_tree s x) ≡ Ok (reopened_book x, seated_to (x.seat + 1)) =
      seat_reads s (seated_to x.seat) (seated_to (x.seat + 1)) x (between IsBookOf done x left w.books e is.books) (fog_at x.seat high x refl) in
      rw (subst (λ n. read_seats.seat n (seated_to n) (seat_tree s x) ≡ Ok (reopened_book x, seated_to (n + 1))) number reads)
      (λ i. Ok (record { scene = seated_to (sym (count_one done x) i); books = sym (map_one reopened_book done x) i }))

  seats_read : (d : Data) → get (codes "seats") d ≡ Some (list (map (seat_tree s) w.books)) → read_seats.seats (seated_to 0) d ≡ Ok (so_far w.books)
  unfolding read_seats.seats
  seats_read d at =
      rw (field_reads (codes "seats") (kinds.list 1 33) d (list (map (seat_tree s) w.books)) (items_of (map (seat_tree s) w.books)) at (list_reads 1 33 (seat_tree s) w.books is.world.least is.world.most))
      (ap (under (codes "seats")) (each_reads so_far w.books read_seats.seated (seat_tree s) one_seat))

  -- ---- the whole

  counted_players : players_in (campaign_tree_in format w) ≡ players
  unfolding campaign_tree_in
  counted_players =
      let all : players + 1 ≡ length w.books = is.world.players in
      let low = is.world.least in
      let high = is.world.most in
      let len : items_len (items_of (map (seat_tree s) w.books)) ≡ length w.books = items_len-of (map (seat_tree s) w.books) ∙ length-map (seat_tree s) w.books in
      let fits : (nat_le 1 (items_len (items_of (map (seat_tree s) w.books))) && nat_le (items_len (items_of (map (seat_tree s) w.books))) 33) ≡ true = in_range 1 33 (items_len (items_of (map (seat_tree s) w.books))) (omega (arith, len, low)) (omega (arith, len, high)) in
      ap (λ b. players_among (cond b (Some (items_of (map (seat_tree s) w.books))) None)) fits ∙ omega (arith, len, all)

  still_used : (books : List Book) (maker : ℕ) (tag : List ℕ) → used_by (slice_get (map reopened_book books) maker) tag ≡ used_by (slice_get books maker) tag
  still_used [] maker tag = refl
  still_used (b ∷ books) zero tag = refl
  still_used (b ∷ books) (suc maker) tag = still_used books maker tag

  tokens_still : (all : List Token) → AllByRecursion (IsTokenOf w.books s) all → AllByRecursion (IsTokenOf (map reopened_book w.books) (seated_to (length w.books))) all
  tokens_still [] h = tt
  tokens_still (t ∷ all) h = (
    record { id = h.0.id; used = still_used w.books t.id.maker t.id.tag ∙ h.0.used; name = h.0.name; map = h.0.map; side = h.0.side; place = h.0.place; belongs = h.0.belongs; owners = h.0.owners; sight = h.0.sight; light = h.0.light; public = h.0.public; own = h.0.own; secret = h.0.secret },
    tokens_still all h.1,
  )

  mapped_reads : read_maps.maps format (record (bare players) { lights = s.lights; sights = s.sights }) (campaign_tree_in format w) ≡ Ok (seated_to 0)
  unfolding campaign_tree_in
  mapped_reads =
      maps_read format (record (bare players) { lights = s.lights; sights = s.sights }) players s.maps is.maps is.few_maps is.maps_ordered (campaign_tree_in format w) refl
      ∙ ap (λ sets. Ok (record s { tokens = []; fog = record { players = players; sets = sets }; fight = no_fight })) none_shown

  -- what is written is read back: the same world, in which no line was counted, all seats are Free, and there is no fight
  pub campaign_reads : campaign (campaign_tree_in format w) ≡ Ok (reopened w)
  unfolding campaign campaign_tree_in
  campaign_reads =
      let all : length w.books ≡ players + 1 = sym is.world.players in
      rw (
        field_reads (codes "format") kinds.format (campaign_tree_in format w) (whole (format_number format)) format refl (format_reads format),
        counted_players,
        lights_read format (bare players) s.lights is.lights is.few_lights is.lights_ordered (campaign_tree_in format w) refl,
        sights_read (record (bare players) { lights = s.lights }) s.sights is.sights is.few_sights is.sights_ordered (campaign_tree_in format w) refl,
        mapped_reads,
        seats_read (campaign_tree_in format w) refl,
        tokens_read (map reopened_book w.books) (seated_to (length w.books)) s.tokens (tokens_still s.tokens is.tokens) is.tokens_ordered (campaign_tree_in format w) refl,
      )
      (λ i. Ok (record { scene = record s { fog = record { players = players; sets = (ap (λ n. laid players (shown n) s.maps) all ∙ all_shown) i }; fight = no_fight }; books = map reopened_book w.books }))
