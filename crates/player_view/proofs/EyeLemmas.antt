-- The eyes of tokens that stand on their maps.
use Rattle.std.proofs.Common.{◌≡◌, ℕ, ◌+◌, ◌*◌, ◌≤◌, true, Some, arith, subst}
use Rattle.std.specs.Prelude.{option_map, slice_get, nat_le}
use Rattle.std.proofs.lemmas.Bool.Decides.{nat_tests}
use Rattle.maps.specs.Maps.{Grid, map_of}
use Rattle.topology.specs.WallLists.{IsOnMap}
use Rattle.tokens.specs.declared.token.Token.{Token}
use Rattle.tokens.specs.Tokens.{eye_of}
use Rattle.world.specs.Scene.{Scene}
use Rattle.world.specs.Rules.{IsScene, belongs, fits_on}
use Rattle.player_view.proofs.SceneLemmas.{first, second, list_all-at}

within : (x size w : ℕ) → nat_le (x + size) w ≡ true → 2 * x + size ≤ 2 * w
within x size w h = grind (arith, nat_tests)

-- the token's eye is on its map
pub eye_on_map : (s : Scene) (i : ℕ) (t : Token) (m : Grid) → IsScene s → slice_get s.tokens i ≡ Some t → map_of t.map s.maps ≡ Some m
    → IsOnMap m.walls.extent (eye_of t)
eye_on_map s i t m scene e there =
    let fits : fits_on (Some m.walls.extent) t.cell t.size ≡ true =
    subst (λ o. fits_on (option_map (λ (g : Grid). g.walls.extent) o) t.cell t.size ≡ true) there
    (first _ _ (list_all-at (belongs s) s.tokens i t scene.tokens e)) in
    (within t.cell.x t.size m.walls.extent.w (first _ _ fits), within t.cell.y t.size m.walls.extent.h (second _ _ fits))
