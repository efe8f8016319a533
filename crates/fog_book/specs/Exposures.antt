-- What is exposed to the players of a campaign.
use Rattle.std.specs.Prelude.{◌≡◌, ◌≢◌, ◌≤◌, ◌⊎◌, ℕ, zero, suc, Bool, false, not, nat_eq, ◌&&◌, ◌||◌, cond, if◌then◌else◌, List, [], ◌∷◌, ◌++◌, map, Option, Some, None, IfSome, option_map, find}
use Rattle.std.specs.List.{range_with_len}
use Rattle.std.specs.Ordering.{is_lt}
use Rattle.std.specs.Str.{bytes_eq}
use Rattle.names.specs.Tag.{tag_cmp}
use Rattle.cells.specs.Cells.{Extent, Cells, has, cells_where}
use Rattle.fog_book.specs.declared.exposure.Exposure.{Exposure}

-- how many players there are, and the set of each of them on each map
pub record Fog : Type 0 where
  pub players : ℕ
  pub sets : List Exposure

-- it is the set of that seat on the map of that name
abbrev pub is_of : ℕ → List ℕ → Exposure → Bool
is_of seat name set = nat_eq set.seat seat && bytes_eq set.map name

abbrev pub cells_at : List Exposure → ℕ → List ℕ → Option Cells
cells_at sets seat name = option_map (λ set. set.cells) (find (is_of seat name) sets)

-- the cells of the map that are exposed to the seat: none where the seat is no player, or the map isn't there
abbrev pub exposed_of : Fog → ℕ → List ℕ → Option Cells
exposed_of fog seat name = cells_at fog.sets seat name

-- the first set that passes the test has its cells changed
abbrev pub changed_at : (Exposure → Bool) → (Cells → Cells) → List Exposure → List Exposure
changed_at test change [] = []
changed_at test change (set ∷ sets) =
    cond (test set) (record { seat = set.seat; map = set.map; cells = change set.cells } ∷ sets) (set ∷ changed_at test change sets)

-- the same fog, but for the set of one seat on one map
abbrev pub with_change : Fog → ℕ → List ℕ → (Cells → Cells) → Fog
with_change fog seat name change = record { players = fog.players; sets = changed_at (is_of seat name) change fog.sets }

-- the set of one seat on one map is changed, and the set of every other seat, or on another map, stays
pub record ChangesOnly (old new : Fog) (seat : ℕ) (name : List ℕ) (change : Cells → Cells) : Type 0 where
  pub changed : exposed_of new seat name ≡ option_map change (exposed_of old seat name)
  pub others : (other : ℕ) (place : List ℕ) → (other ≢ seat) ⊎ (place ≢ name) → exposed_of new other place ≡ exposed_of old other place

-- both sets together
abbrev pub joined : Cells → Cells → Cells
joined cells seen = cells_where cells.extent (λ x y. has cells x y || has seen x y)

-- a set of no cells for each of so many players
abbrev pub blank_sets : ℕ → List ℕ → Extent → List Exposure
blank_sets zero name size = []
blank_sets (suc n) name size = blank_sets n name size ++ record { seat = suc n; map = name; cells = cells_where size (λ x y. false) } ∷ []

-- the set is of a map of that name or a greater one
abbrev pub is_behind : List ℕ → Exposure → Bool
is_behind name set = not (is_lt (tag_cmp set.map name))

-- with the sets of a new map, before those of the first map of a greater name
abbrev pub with_sets : List ℕ → List Exposure → List Exposure → List Exposure
with_sets name fresh [] = fresh
with_sets name fresh (set ∷ sets) = if is_lt (tag_cmp set.map name) then set ∷ with_sets name fresh sets else fresh ++ set ∷ sets

-- the fog with one map more, of which nothing is exposed
abbrev pub with_map : Fog → List ℕ → Extent → Fog
with_map fog name size = record { players = fog.players; sets = with_sets name (blank_sets fog.players name size) fog.sets }

-- whose set it is, and of which map
abbrev pub key_of : Exposure → ℕ × List ℕ
key_of set = (set.seat, set.map)

abbrev pub key : List ℕ → ℕ → ℕ × List ℕ
key name seat = (seat, name)

-- the keys of the sets of one map, seat by seat: players have the seats from 1 on
abbrev pub keys_on : ℕ → List ℕ → List (ℕ × List ℕ)
keys_on players name = map (key name) (range_with_len 1 players)

-- nothing of the new map is exposed to any player, and the sets on all other maps stay
pub record AddsMap (old new : Fog) (name : List ℕ) (size : Extent) : Type 0 where
  pub blank : (seat : ℕ) → 1 ≤ seat → seat ≤ old.players → exposed_of old seat name ≡ None → exposed_of new seat name ≡ Some (cells_where size (λ x y. false))
  pub others : (seat : ℕ) (place : List ℕ) → place ≢ name → exposed_of new seat place ≡ exposed_of old seat place

-- the set with what is seen
abbrev pub with_seen : Exposure → Cells → Exposure
with_seen set seen = record set { cells = joined set.cells seen }

-- where it was looked for
abbrev pub with_found : Exposure → Option Cells → Exposure
with_found set None = set
with_found set (Some seen) = with_seen set seen

-- each set with what is seen of its map by its player, where it was looked for
abbrev pub with_each_seen : List Exposure → List (Option Cells) → List Exposure
with_each_seen [] seen = []
with_each_seen (set ∷ sets) [] = set ∷ sets
with_each_seen (set ∷ sets) (found ∷ seen) = with_found set found ∷ with_each_seen sets seen

-- the set and what is seen have one size
abbrev pub HaveOneSize : Exposure → Option Cells → Type 0
HaveOneSize set seen = IfSome seen (λ cells. cells.extent ≡ set.cells.extent)
