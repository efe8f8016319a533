-- The map that a seat is shown by a name.
use Rattle.std.proofs.Common.{◌≡◌, ℕ, true, ◌&&◌, List, Some, sym, subst}
use Rattle.std.specs.List.{find}
use Rattle.std.specs.Str.{bytes_eq}
use Rattle.std.proofs.lemmas.Bool.{and_parts}
use Rattle.std.proofs.lemmas.Slice.Eq.{bytes_eq-Decides}
use Rattle.names.specs.Tag.{tag_cmp}
use Rattle.maps.specs.Maps.{Grid, map_of, has_name, in_order as maps_in_order}
use Rattle.maps.proofs.NameLemmas.{apart as names_apart}
use Rattle.world.specs.Scene.{Scene}
use Rattle.player_view.specs.View.{has_map}
use Rattle.command_rules.proofs.Unique.{find_one, found_passes}

pub one_map : (s : Scene) (seat : ℕ) (name : List ℕ) (m : Grid) → maps_in_order s.maps ≡ true → find (λ m. has_map seat m && has_name name m) s.maps ≡ Some m → map_of name s.maps ≡ Some m
one_map s seat name m ordered found =
    find_one tag_cmp (λ (n : Grid). n.name) bytes_eq names_apart (λ n. has_map seat n && has_name name n) name (λ n h. (and_parts (has_map seat n) (has_name name n) h).1) s.maps m ordered found

-- the map that a seat is shown by a name is the one of its own name
pub own_map : (s : Scene) (seat : ℕ) (name : List ℕ) (m : Grid) → maps_in_order s.maps ≡ true → find (λ m. has_map seat m && has_name name m) s.maps ≡ Some m → map_of m.name s.maps ≡ Some m
own_map s seat name m ordered found =
    let passes : has_name name m ≡ true = (and_parts (has_map seat m) (has_name name m) (found_passes (λ m. has_map seat m && has_name name m) s.maps m found)).1 in
    subst (λ n. map_of n s.maps ≡ Some m) (sym (same m.name name passes)) (one_map s seat name m ordered found)
  where
    same : (a b : List ℕ) → bytes_eq a b ≡ true → a ≡ b
    same a b h = (bytes_eq-Decides a b).0 h
