use Rattle.std.proofs.Common.{◌≡◌, ℕ, ◌*◌, ◌≤◌, ap, arith, ◌∙◌, nat_le}
use Rattle.std.specs.Bool.{Decides}
use Rattle.std.proofs.lemmas.Bool.Decides.{Decides-and, Decides-eqb, Decides-like, nat_tests}
use Rattle.lattice.specs.Coordinates.{Coordinates}
use Rattle.cells.specs.Cells.{Extent}
use Rattle.topology.specs.declared.wall.Wall.{Wall}
use Rattle.topology.specs.Order.{point_eq, wall_eq}
use Rattle.topology.specs.WallLists.{IsOnMap, on_map_test}

pub point_eq_tells : (a b : Coordinates) → Decides (point_eq a b) (a ≡ b)
point_eq_tells a b =
    Decides-like _ (λ h. both a b h.0 h.1) (λ e. (ap (λ (c : Coordinates). c.x) e, ap (λ (c : Coordinates). c.y) e))
    (Decides-and _ _ (Decides-eqb a.x b.x) (Decides-eqb a.y b.y))
  where
    both : (a b : Coordinates) → a.x ≡ b.x → a.y ≡ b.y → a ≡ b
    both a b e f =
        ap (λ (m : ℕ). let c : Coordinates = record { x = m; y = a.y } in c) e
        ∙ ap (λ (n : ℕ). let c : Coordinates = record { x = b.x; y = n } in c) f

pub wall_eq_tells : (wall other : Wall) → Decides (wall_eq wall other) (wall ≡ other)
wall_eq_tells wall other =
    Decides-like _ (λ h. both wall other h.0 h.1) (λ e. (ap (λ (w : Wall). w.first) e, ap (λ (w : Wall). w.second) e))
    (Decides-and _ _ (point_eq_tells wall.first other.first) (point_eq_tells wall.second other.second))
  where
    both : (v w : Wall) → v.first ≡ w.first → v.second ≡ w.second → v ≡ w
    both v w e f =
        ap (λ (p : Coordinates). let u : Wall = record { first = p; second = v.second } in u) e
        ∙ ap (λ (p : Coordinates). let u : Wall = record { first = w.first; second = p } in u) f

pub on_map_test_tells : (map : Extent) (point : Coordinates) → Decides (on_map_test map point) (IsOnMap map point)
on_map_test_tells map point = Decides-and _ _ (at_most point.x (2 * map.w)) (at_most point.y (2 * map.h))
  where
    at_most : (m n : ℕ) → Decides (nat_le m n) (m ≤ n)
    at_most m n = grind (arith, nat_tests)
