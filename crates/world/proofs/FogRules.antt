-- Sizes of maps, and what is exposed, after a map more and after a change of one set.
use Rattle.std.proofs.Common.{◌≡◌, ◌≢◌, ℕ, zero, suc, ◌+◌, ◌++◌, Bool, true, false, cond, List, [], ◌∷◌, map, Option, Some, None, refl, sym, ap, subst, inl, inr, ◌∙◌}
use Rattle.std.specs.Prelude.{◌⊎◌, option_map, nat_le}
use Rattle.std.specs.List.{AllByRecursion, range_with_len}
use Rattle.std.specs.Ordering.{is_lt}
use Rattle.std.specs.Str.{bytes_eq}
use Rattle.std.proofs.lemmas.Bool.{and_parts, cases_Bool, cases_eq, leb-true}
use Rattle.std.proofs.lemmas.Slice.Eq.{bytes_eq-Decides}
use Rattle.names.specs.Tag.{tag_cmp}
use Rattle.cells.specs.Cells.{Extent, Cells, IsToldByCells, cells_where}
use Rattle.cells.proofs.SetLaws.{IsToldByCells-cells_where}
use Rattle.fog_book.specs.declared.exposure.Exposure.{Exposure}
use Rattle.fog_book.proofs.Joining.{kept_each}
use Rattle.fog_book.specs.Exposures.{Fog, is_of, changed_at, blank_sets, with_each_seen, with_found, exposed_of, with_change, with_map as with_fog_of_map, with_sets, key, key_of, keys_on, AddsMap, ChangesOnly}
use Rattle.fog_book.proofs.Changes.{changes_only}
use Rattle.fog_book.proofs.Order.{keys-blank_sets, keys-changed_at, keys-with_each_seen, keys-with_sets, with_keys}
use Rattle.maps.specs.Maps.{Grid, changed, has_name, map_of, new_map, with_map}
use Rattle.world.specs.Rules.{size_of, keys_of, IsSetOf, IsSized, IsFogOf}

-- ---- names

pub cases_name : (name other : List ℕ) → (name ≡ other) ⊎ (name ≢ other)
cases_name name other = elim (cases_Bool (bytes_eq name other)) [
  | inl same ↦ inl ((bytes_eq-Decides name other).0 same)
  | inr differ ↦ inr (λ e. let both : true ≡ false = sym ((bytes_eq-Decides name other).1 e) ∙ differ in cc)
]

-- ---- sizes of maps

abbrev sized : Option Grid → Option Extent
sized found = option_map (λ (m : Grid). m.walls.extent) found

-- a change of a map that keeps its name and its size
pub size_of-changed : (f : Grid → Grid) → ((m : Grid) → (f m).name ≡ m.name) → ((m : Grid) → (f m).walls.extent ≡ m.walls.extent)
    → (other name : List ℕ) (maps : List Grid) → size_of name (changed other f maps) ≡ size_of name maps
size_of-changed f names sizes other name [] = refl
size_of-changed f names sizes other name (m ∷ maps) = by (has_name other m) (size_of-changed f names sizes other name maps)
  where
    rest : Option Grid
    rest = map_of name (changed other f maps)

    at : (b : Bool) (k : Grid) → k.walls.extent ≡ m.walls.extent → size_of name (changed other f maps) ≡ size_of name maps
        → sized (cond b (Some k) (map_of name (changed other f maps))) ≡ sized (cond b (Some m) (map_of name maps))
    at true k same next = ap Some same
    at false k same next = next

    by : (b : Bool) → size_of name (changed other f maps) ≡ size_of name maps
        → size_of name (cond b (f m) m ∷ changed other f maps) ≡ sized (cond (bytes_eq m.name name) (Some m) (map_of name maps))
    by true next =
        ap (λ n. sized (cond (bytes_eq n name) (Some (f m)) (map_of name (changed other f maps)))) (names m)
        ∙ at (bytes_eq m.name name) (f m) (sizes m) next
    by false next = at (bytes_eq m.name name) m refl next

-- one map more, of a name that isn't there
pub size_of-with_map : (m : Grid) (name : List ℕ) (maps : List Grid) → size_of m.name maps ≡ None
    → size_of name (with_map m maps) ≡ cond (bytes_eq m.name name) (Some m.walls.extent) (size_of name maps)
size_of-with_map m name [] absent = by (bytes_eq m.name name)
  where
    by : (b : Bool) → sized (cond b (Some m) None) ≡ cond b (Some m.walls.extent) None
    by true = refl
    by false = refl
size_of-with_map m name (other ∷ maps) absent =
    by (is_lt (tag_cmp other.name m.name)) (size_of-with_map m name maps (absent_rest (bytes_eq other.name m.name) absent))
  where
    absent_first : (b : Bool) → sized (cond b (Some other) (map_of m.name maps)) ≡ None → b ≡ false
    absent_first true none = cc
    absent_first false none = refl

    absent_rest : (b : Bool) → sized (cond b (Some other) (map_of m.name maps)) ≡ None → size_of m.name maps ≡ None
    absent_rest true none = cc
    absent_rest false none = none

    apart : other.name ≢ m.name
    apart e = let both : true ≡ false = sym ((bytes_eq-Decides other.name m.name).1 e) ∙ absent_first (bytes_eq other.name m.name) absent in cc

    behind : (b c : Bool) → bytes_eq other.name name ≡ b → bytes_eq m.name name ≡ c
        → size_of name (with_map m maps) ≡ cond c (Some m.walls.extent) (size_of name maps)
        → sized (cond b (Some other) (map_of name (with_map m maps))) ≡ cond c (Some m.walls.extent) (sized (cond b (Some other) (map_of name maps)))
    behind true true b c next = absurd (apart ((bytes_eq-Decides other.name name).0 b ∙ sym ((bytes_eq-Decides m.name name).0 c)))
    behind true false b c next = refl
    behind false c b e next = next

    before : (c : Bool) (found : Option Grid) → sized (cond c (Some m) found) ≡ cond c (Some m.walls.extent) (sized found)
    before true found = refl
    before false found = refl

    by : (less : Bool) → size_of name (with_map m maps) ≡ cond (bytes_eq m.name name) (Some m.walls.extent) (size_of name maps)
        → size_of name (cond less (other ∷ with_map m maps) (m ∷ other ∷ maps))
        ≡ cond (bytes_eq m.name name) (Some m.walls.extent) (size_of name (other ∷ maps))
    by true next = behind (bytes_eq other.name name) (bytes_eq m.name name) refl refl next
    by false next = before (bytes_eq m.name name) (map_of name (other ∷ maps))

-- ---- the order of sets

-- a change of a map that keeps its name
pub keys_of-changed : (f : Grid → Grid) → ((m : Grid) → (f m).name ≡ m.name) → (other : List ℕ) (players : ℕ) (maps : List Grid) → keys_of players (changed other f maps) ≡ keys_of players maps
keys_of-changed f names other players [] = refl
keys_of-changed f names other players (m ∷ maps) = by (has_name other m) (keys_of-changed f names other players maps)
  where
    by : (b : Bool) → keys_of players (changed other f maps) ≡ keys_of players maps → keys_of players (cond b (f m) m ∷ changed other f maps) ≡ keys_of players (m ∷ maps)
    by true next = λ i. keys_on players (names m i) ++ next i
    by false next = ap (λ l. keys_on players m.name ++ l) next

-- keys of a map of a lesser name come first
past_lesser : (name lesser : List ℕ) (fresh rest : List (ℕ × List ℕ)) (k n : ℕ) → is_lt (tag_cmp lesser name) ≡ true
    → with_keys name fresh (map (key lesser) (range_with_len k n) ++ rest) ≡ map (key lesser) (range_with_len k n) ++ with_keys name fresh rest
past_lesser name lesser fresh rest k zero less = refl
past_lesser name lesser fresh rest k (suc n) less = rw less (ap (λ l. key lesser k ∷ l) (past_lesser name lesser fresh rest (k + 1) n less))

no_players : (maps : List Grid) → keys_of 0 maps ≡ []
no_players [] = refl
no_players (m ∷ maps) = no_players maps

append_nil : {A : Type 0} (xs : List A) → xs ++ [] ≡ xs
append_nil [] = refl
append_nil (x ∷ xs) = ap (λ l. x ∷ l) (append_nil xs)

-- the sets of a new map stand among the others as the map among the maps
keys_of-with_map : (players : ℕ) (m : Grid) (maps : List Grid) → keys_of players (with_map m maps) ≡ with_keys m.name (keys_on players m.name) (keys_of players maps)
keys_of-with_map zero m maps = no_players (with_map m maps) ∙ sym (ap (with_keys m.name []) (no_players maps))
keys_of-with_map (suc players) m [] = append_nil (keys_on (suc players) m.name)
keys_of-with_map (suc players) m (other ∷ maps) = by (is_lt (tag_cmp other.name m.name)) refl (keys_of-with_map (suc players) m maps)
  where
    fresh : List (ℕ × List ℕ)
    fresh = keys_on (suc players) m.name

    by : (less : Bool) → is_lt (tag_cmp other.name m.name) ≡ less → keys_of (suc players) (with_map m maps) ≡ with_keys m.name fresh (keys_of (suc players) maps)
        → keys_of (suc players) (cond less (other ∷ with_map m maps) (m ∷ other ∷ maps)) ≡ with_keys m.name fresh (keys_of (suc players) (other ∷ maps))
    by true less rest =
        ap (λ l. keys_on (suc players) other.name ++ l) rest
        ∙ sym (past_lesser m.name other.name fresh (keys_of (suc players) maps) 1 (suc players) less)
    by false more rest =
        sym (ap (λ b. cond b (key other.name 1 ∷ with_keys m.name fresh (map (key other.name) (range_with_len (1 + 1) players) ++ keys_of (suc players) maps)) (fresh ++ keys_of (suc players) (other ∷ maps))) more)

-- ---- one set changed

-- a change of sets that keeps their sizes
abbrev pub KeepsSize : (Cells → Cells) → Type 0
KeepsSize change = (cells : Cells) → ((change cells).extent ≡ cells.extent) × IsToldByCells (change cells)

set_kept : (size : Extent) (change : Cells → Cells) → KeepsSize change → (set : Option Cells) → IsSetOf size set → IsSetOf size (option_map change set)
set_kept size change keeps None is = is
set_kept size change keeps (Some cells) is = ((keeps cells).0 ∙ is.0, (keeps cells).1)

-- each set is as before, or the change was made to it
changed_or_kept : (old new : Fog) (seat : ℕ) (name : List ℕ) (change : Cells → Cells) → ChangesOnly old new seat name change → (other : ℕ) (place : List ℕ)
    → (exposed_of new other place ≡ exposed_of old other place) ⊎ (exposed_of new other place ≡ option_map change (exposed_of old other place))
changed_or_kept old new seat name change only other place = elim (cases_eq other seat) [
  | inr differ ↦ inl (only.others other place (inl differ))
  | inl seats ↦ elim (cases_name place name) [
    | inr differ ↦ inl (only.others other place (inr differ))
    | inl names ↦ inr (subst (λ k. exposed_of new k place ≡ option_map change (exposed_of old k place)) (sym seats)
        (subst (λ n. exposed_of new seat n ≡ option_map change (exposed_of old seat n)) (sym names) only.changed))
  ]
]

-- every set keeps its size
sized_changed : (maps : List Grid) (test : Exposure → Bool) (change : Cells → Cells) → KeepsSize change → (sets : List Exposure) → AllByRecursion (IsSized maps) sets → AllByRecursion (IsSized maps) (changed_at test change sets)
sized_changed maps test change keeps [] h = tt
sized_changed maps test change keeps (set ∷ sets) h = by (test set) (sized_changed maps test change keeps sets h.1)
  where
    by : (b : Bool) → AllByRecursion (IsSized maps) (changed_at test change sets)
        → AllByRecursion (IsSized maps) (cond b (record { seat = set.seat; map = set.map; cells = change set.cells } ∷ sets) (set ∷ changed_at test change sets))
    by true rest = (h.0 ∙ ap Some (sym (keeps set.cells).0), h.1)
    by false rest = (h.0, rest)

sized_found : (maps : List Grid) (set : Exposure) (found : Option Cells) → IsSized maps set → IsSized maps (with_found set found)
sized_found maps set None h = h
sized_found maps set (Some seen) h = h

sized_each : (maps : List Grid) (sets : List Exposure) (seen : List (Option Cells)) → AllByRecursion (IsSized maps) sets → AllByRecursion (IsSized maps) (with_each_seen sets seen)
sized_each maps [] seen h = tt
sized_each maps (set ∷ sets) [] h = h
sized_each maps (set ∷ sets) (found ∷ seen) h = (sized_found maps set found h.0, sized_each maps sets seen h.1)

sized_append : (maps : List Grid) (xs ys : List Exposure) → AllByRecursion (IsSized maps) xs → AllByRecursion (IsSized maps) ys → AllByRecursion (IsSized maps) (xs ++ ys)
sized_append maps [] ys h k = k
sized_append maps (x ∷ xs) ys h k = (h.0, sized_append maps xs ys h.1 k)

sized_blank : (maps : List Grid) (players : ℕ) (name : List ℕ) (size : Extent) → size_of name maps ≡ Some size → AllByRecursion (IsSized maps) (blank_sets players name size)
sized_blank maps zero name size is = tt
sized_blank maps (suc n) name size is = sized_append maps (blank_sets n name size) _ (sized_blank maps n name size is) (is, tt)

sized_with : (maps : List Grid) (name : List ℕ) (fresh sets : List Exposure) → AllByRecursion (IsSized maps) fresh → AllByRecursion (IsSized maps) sets → AllByRecursion (IsSized maps) (with_sets name fresh sets)
sized_with maps name fresh [] new h = new
sized_with maps name fresh (set ∷ sets) new h = by (is_lt (tag_cmp set.map name)) (sized_with maps name fresh sets new h.1)
  where
    by : (less : Bool) → AllByRecursion (IsSized maps) (with_sets name fresh sets) → AllByRecursion (IsSized maps) (cond less (set ∷ with_sets name fresh sets) (fresh ++ set ∷ sets))
    by true rest = (h.0, rest)
    by false rest = sized_append maps fresh (set ∷ sets) new h

-- by other maps that have the sizes of these
pub sized_by : (maps others : List Grid) → ((name : List ℕ) (size : Extent) → size_of name maps ≡ Some size → size_of name others ≡ Some size) → (sets : List Exposure) → AllByRecursion (IsSized maps) sets → AllByRecursion (IsSized others) sets
sized_by maps others same [] h = tt
sized_by maps others same (set ∷ sets) h = (same set.map set.cells.extent h.0, sized_by maps others same sets h.1)

-- what is seen joined to each set
pub IsFogOf-with_each_seen : (maps : List Grid) (fog : Fog) (seen : List (Option Cells)) → IsFogOf maps fog → IsFogOf maps (record fog { sets = with_each_seen fog.sets seen })
IsFogOf-with_each_seen maps fog seen is = record {
  sets = λ name size seat there player. kept_each (IsSetOf size) (λ cells more h. (h.0, IsToldByCells-cells_where _ _)) fog.sets seen seat name (is.sets name size seat there player);
  no_others = λ name seat none. kept_each (λ set. set ≡ None) (λ cells more h. cc) fog.sets seen seat name (is.no_others name seat none);
  each = sized_each maps fog.sets seen is.each;
  in_order = keys-with_each_seen fog.sets seen ∙ is.in_order;
}

pub IsFogOf-with_change : (maps : List Grid) (fog : Fog) (seat : ℕ) (name : List ℕ) (change : Cells → Cells) → KeepsSize change → IsFogOf maps fog → IsFogOf maps (with_change fog seat name change)
IsFogOf-with_change maps fog seat name change keeps is = record {
  sets = λ place size other there player.
      elim (changed_or_kept fog (with_change fog seat name change) seat name change (changes_only seat name change fog) other place) [
        | inl same ↦ subst (IsSetOf size) (sym same) (is.sets place size other there player)
        | inr made ↦ subst (IsSetOf size) (sym made) (set_kept size change keeps (exposed_of fog other place) (is.sets place size other there player))
      ];
  no_others = λ place other none.
      elim (changed_or_kept fog (with_change fog seat name change) seat name change (changes_only seat name change fog) other place) [
        | inl same ↦ same ∙ is.no_others place other none
        | inr made ↦ made ∙ ap (option_map change) (is.no_others place other none)
      ];
  each = sized_changed maps (is_of seat name) change keeps fog.sets is.each;
  in_order = keys-changed_at (is_of seat name) change fog.sets ∙ is.in_order;
}

-- ---- one map more

pub IsFogOf-with_map : (maps : List Grid) (fog : Fog) (name : List ℕ) (size : Extent) → size_of name maps ≡ None → AddsMap fog (with_fog_of_map fog name size) name size
    → IsFogOf maps fog → IsFogOf (with_map (new_map name size) maps) (with_fog_of_map fog name size)
IsFogOf-with_map maps fog name size absent adds is = record {
  sets = λ place extent seat there player. elim (cases_name name place) [
    | inl same ↦
        let here : Some size ≡ Some extent = sym (size_of-with_map (new_map name size) place maps absent ∙ ap (λ b. cond b (Some size) (size_of place maps)) ((bytes_eq-Decides name place).1 same)) ∙ there in
        let at : size ≡ extent = cc in
        let low = and_parts (nat_le 1 seat) (nat_le seat fog.players) player in
        let blank : exposed_of (with_fog_of_map fog name size) seat name ≡ Some (cells_where size (λ x y. false)) =
        adds.blank seat (leb-true 1 seat low.0) (leb-true seat fog.players low.1) (is.no_others name seat absent) in
        subst (λ n. IsSetOf extent (exposed_of (with_fog_of_map fog name size) seat n)) same
        (subst (IsSetOf extent) (sym blank) (at, IsToldByCells-cells_where size (λ x y. false)))
    | inr differ ↦
        let there_too : size_of place maps ≡ Some extent = sym (unaffected place differ) ∙ there in
        subst (IsSetOf extent) (sym (adds.others seat place (λ e. differ (sym e)))) (is.sets place extent seat there_too player)
  ];
  no_others = λ place seat none. elim (cases_name name place) [
    | inl same ↦
        let here : Some size ≡ None = sym (size_of-with_map (new_map name size) place maps absent ∙ ap (λ b. cond b (Some size) (size_of place maps)) ((bytes_eq-Decides name place).1 same)) ∙ none in
        cc
    | inr differ ↦ adds.others seat place (λ e. differ (sym e)) ∙ is.no_others place seat (sym (unaffected place differ) ∙ none)
  ];
  each =
      sized_with (with_map (new_map name size) maps) name (blank_sets fog.players name size) fog.sets
      (sized_blank (with_map (new_map name size) maps) fog.players name size
      (size_of-with_map (new_map name size) name maps absent ∙ ap (λ b. cond b (Some size) (size_of name maps)) ((bytes_eq-Decides name name).1 refl)))
      (sized_by maps (with_map (new_map name size) maps) still fog.sets is.each);
  in_order =
      keys-with_sets name (blank_sets fog.players name size) fog.sets
      ∙ ap (λ fresh. with_keys name fresh (map key_of fog.sets)) (keys-blank_sets fog.players name size)
      ∙ ap (with_keys name (keys_on fog.players name)) is.in_order
      ∙ sym (keys_of-with_map fog.players (new_map name size) maps);
}
  where
    unaffected : (place : List ℕ) → name ≢ place → size_of place (with_map (new_map name size) maps) ≡ size_of place maps
    unaffected place differ = size_of-with_map (new_map name size) place maps absent ∙ other (bytes_eq name place) refl
      where
        other : (b : Bool) → bytes_eq name place ≡ b → cond b (Some size) (size_of place maps) ≡ size_of place maps
        other true e = absurd (differ ((bytes_eq-Decides name place).0 e))
        other false e = refl

    -- a map that was there is another
    still : (place : List ℕ) (extent : Extent) → size_of place maps ≡ Some extent → size_of place (with_map (new_map name size) maps) ≡ Some extent
    still place extent there = unaffected place (λ e. let none : Some extent ≡ None = sym there ∙ ap (λ n. size_of n maps) (sym e) ∙ absent in cc) ∙ there
