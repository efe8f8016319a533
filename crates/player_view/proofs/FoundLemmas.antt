-- What was found before of what a player sees of a map.
use Rattle.std.proofs.Common.{◌≡◌, ℕ, ◌<◌, Bool, true, List, [], ◌∷◌, Some, None, length, arith, refl, sym, ◌∙◌, ap}
use Rattle.std.specs.Prelude.{Option, IfSome, get_or, is_some, nat_eq, nat_lt, option_map, slice_get}
use Rattle.std.specs.List.{position}
use Rattle.std.proofs.lemmas.Bool.Decides.{nat_tests}
use Rattle.std.proofs.lemmas.List.Quantifiers.{position-Some}
use Rattle.std.proofs.lemmas.Option.{slice_get-get_or, slice_get_read}
use Rattle.std.proofs.lemmas.Slice.Eq.{bytes_eq-Decides}
use Rattle.cells.specs.Cells.{Cells}
use Rattle.fog_book.specs.declared.exposure.Exposure.{Exposure}
use Rattle.fog_book.specs.Exposures.{is_of}
use Rattle.maps.specs.Maps.{Grid, map_of}
use Rattle.world.specs.Scene.{Scene}
use Rattle.player_view.specs.Seen.{AreSeen, seen_for, seen_on}
use Rattle.player_view.specs.Sight.{visible}
use Rattle.player_view.proofs.SceneLemmas.{first, second}

-- the set at the place of the first that passes
set_at : (p : Exposure → Bool) (sets : List Exposure) (place : ℕ) → position p sets ≡ Some place
    → (set : Exposure) × (slice_get sets place ≡ Some set) × (p set ≡ true)
set_at p [] place e = cc
set_at p (x ∷ sets) place e =
    let told = position-Some p (x ∷ sets) place x e in
    (get_or (x ∷ sets) place x, slice_get-get_or (x ∷ sets) place x told.0, told.1)

same_seat : (a b : ℕ) → nat_eq a b ≡ true → a ≡ b
same_seat a b h = grind (arith, nat_tests)

-- of the player's set on the map that is seen which the player sees of the map
seen_of : (s : Scene) (seat : ℕ) (m : Grid) (set : Exposure) → map_of m.name s.maps ≡ Some m → is_of seat m.name set ≡ true → seen_for s set ≡ visible s seat m
seen_of s seat m set there h =
    let named : set.map ≡ m.name = (bytes_eq-Decides set.map m.name).0 (second _ _ h) in
    ap (seen_on s set) (ap (λ name. map_of name s.maps) named ∙ there) ∙ ap (λ q. visible s q m) (same_seat set.seat seat (first _ _ h))

below : (n m : ℕ) → nat_lt n m ≡ true → n < m
below n m h = grind (arith, nat_tests)

-- what a look into the sets gives at the place of the player's set
pub found_before : {B : Type 0} (now : B → Option Cells) (s : Scene) (seat : ℕ) (m : Grid) (seen : List (Option Cells)) (place : ℕ) (found : Option B)
    → map_of m.name s.maps ≡ Some m → AreSeen s seen → position (is_of seat m.name) s.fog.sets ≡ Some place
    → is_some found ≡ nat_lt place (length seen) → IfSome found (λ x. now x ≡ get_or seen place (now x))
    → IfSome (option_map now found) (λ o. IfSome o (λ cells. cells ≡ visible s seat m))
found_before now s seat m seen place None there are at some is = tt
found_before now s seat m seen place (Some x) there are at some is = by (now x) (slice_get_read seen (length seen) place (now x) refl (below _ _ (sym some)) is)
  where
    by : (o : Option Cells) → slice_get seen place ≡ Some o → IfSome o (λ cells. cells ≡ visible s seat m)
    by None at_place = tt
    by (Some cells) at_place = let set = set_at (is_of seat m.name) s.fog.sets place at in are.each place set.0 cells set.1 at_place ∙ seen_of s seat m set.0 there set.2

-- nothing was found
pub none_seen : (s : Scene) → AreSeen s []
none_seen s = record { each = λ place set cells there is. cc }
