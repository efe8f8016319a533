-- The sets that are asked for are there.
use Rattle.std.proofs.Common.{◌≡◌, ℕ, zero, suc, ◌≤◌, List, [], ◌∷◌, ◌++◌, ◌+◌, map, Some, None, refl, sym, subst, ap, ◌∙◌, arith, true, false, Bool, ◌&&◌, cond, nat_eq}
use Rattle.std.specs.Prelude.{is_some, slice_get, option_map, find, IsSome}
use Rattle.std.specs.List.{AllByRecursion, filter, range_with_len}
use Rattle.std.specs.Str.{bytes_eq}
use Rattle.std.proofs.lemmas.Bool.Decides.{nat_tests}
use Rattle.fog_book.specs.declared.exposure.Exposure.{Exposure}
use Rattle.fog_book.specs.Exposures.{cells_at, exposed_of, is_of, key_of, keys_on}
use Rattle.maps.specs.Maps.{Grid, has_map, map_of, has_name}
use Rattle.maps.proofs.NameLemmas.{same_name}
use Rattle.serde_json.specs.Data.{object, no_members}
use Rattle.world.specs.Rules.{IsScene, is_player, keys_of}
use Rattle.world.specs.Scene.{Scene}
use Rattle.world.proofs.SceneRules.{exposed_there}
use Rattle.campaign_writing.specs.Scenes.{fog_tree, runs_in, runs_at, runs_tree, some_runs}
use Rattle.campaign_writing.specs.Trees.{named}

pub map_among : (n : ℕ) (maps : List Grid) (m : Grid) → slice_get maps n ≡ Some m → has_map m.name maps ≡ true
map_among n [] m at = absurd cc
map_among zero (y ∷ maps) m at =
    let e : y ≡ m = cc in
    ap (λ b. is_some (cond b (Some y) (map_of m.name maps))) (ap (λ (g : Grid). bytes_eq g.name m.name) e ∙ same_name m.name)
map_among (suc n) (y ∷ maps) m at = by (has_name m.name y) (map_among n maps m at)
  where
    by : (b : Bool) → has_map m.name maps ≡ true → is_some (cond b (Some y) (map_of m.name maps)) ≡ true
    by true rest = refl
    by false rest = rest

pub set_there : (s : Scene) (seat n : ℕ) (m : Grid) → IsScene s → slice_get s.maps n ≡ Some m → is_player s.fog.players seat ≡ true → IsSome (exposed_of s.fog seat m.name)
set_there s seat n m is at player = exposed_there s m.name seat is (map_among n s.maps m at) player

-- ---- a seat that is no player

-- none of the sets is the seat's
abbrev AreOthers : ℕ → List Exposure → Type 0
AreOthers seat sets = AllByRecursion (λ set. nat_eq set.seat seat ≡ false) sets

abbrev AreKeysOfOthers : ℕ → List (ℕ × List ℕ) → Type 0
AreKeysOfOthers seat keys = AllByRecursion (λ key. nat_eq key.0 seat ≡ false) keys

both_others : (seat : ℕ) (a b : List (ℕ × List ℕ)) → AreKeysOfOthers seat a → AreKeysOfOthers seat b → AreKeysOfOthers seat (a ++ b)
both_others seat [] b h k = k
both_others seat (x ∷ a) b h k = (h.0, both_others seat a b h.1 k)

row_of_others : (seat players : ℕ) (name : List ℕ) → is_player players seat ≡ false → AreKeysOfOthers seat (keys_on players name)
row_of_others seat players name outside = here 1 players (omega arith) (omega arith)
  where
    apart : (k : ℕ) → 1 ≤ k → k ≤ players → nat_eq k seat ≡ false
    apart k low high = grind (arith, nat_tests, outside)

    here : (k n : ℕ) → 1 ≤ k → k + n ≤ players + 1 → AreKeysOfOthers seat (map (λ (j : ℕ). (let key : ℕ × List ℕ = (j, name) in key)) (range_with_len k n))
    here k zero low high = tt
    here k (suc n) low high = (apart k low (omega (arith, high)), here (k + 1) n (omega arith) (omega (arith, high)))

keys_of_others : (seat players : ℕ) (maps : List Grid) → is_player players seat ≡ false → AreKeysOfOthers seat (keys_of players maps)
keys_of_others seat players [] outside = tt
keys_of_others seat players (m ∷ maps) outside = both_others seat (keys_on players m.name) (keys_of players maps) (row_of_others seat players m.name outside) (keys_of_others seat players maps outside)

sets_of_others : (seat : ℕ) (sets : List Exposure) → AreKeysOfOthers seat (map key_of sets) → AreOthers seat sets
sets_of_others seat [] h = tt
sets_of_others seat (set ∷ sets) h = (h.0, sets_of_others seat sets h.1)

none_found : (seat : ℕ) (name : List ℕ) (sets : List Exposure) → AreOthers seat sets → cells_at sets seat name ≡ None
none_found seat name [] h = refl
none_found seat name (set ∷ sets) h =
    ap (λ b. option_map (λ (set : Exposure). set.cells) (cond (b && bytes_eq set.map name) (Some set) (find (is_of seat name) sets))) h.0 ∙ none_found seat name sets h.1

-- nothing is exposed to it
module _ (s : Scene) (seat : ℕ) (is : IsScene s) (outside : is_player s.fog.players seat ≡ false) where
  none_exposed : (name : List ℕ) → exposed_of s.fog seat name ≡ None
  none_exposed name = none_found seat name s.fog.sets (sets_of_others seat s.fog.sets (subst (AreKeysOfOthers seat) (sym is.fog.in_order) (keys_of_others seat s.fog.players s.maps outside)))

  no_entries : (maps : List Grid) → filter some_runs (map (λ m. (m.name, runs_at s seat m.name)) maps) ≡ []
  no_entries [] = refl
  no_entries (m ∷ maps) =
      ap (λ o. cond (some_runs (m.name, runs_in o)) ((m.name, runs_in o) ∷ filter some_runs (map (λ m. (m.name, runs_at s seat m.name)) maps)) (filter some_runs (map (λ m. (m.name, runs_at s seat m.name)) maps))) (none_exposed m.name) ∙ no_entries maps

  pub no_fog : fog_tree s seat ≡ object no_members
  no_fog = ap (λ l. object (named runs_tree l)) (no_entries s.maps)
