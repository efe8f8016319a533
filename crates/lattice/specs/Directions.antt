use Rattle.std.specs.Prelude.{ℕ, ◌≡◌, ◌<◌, ◌≤◌, ℤ, pos, ◌-ℤ◌, ◌*ℤ◌, ◌≤ℤ◌}
use Rattle.std.proofs.Common.{neg_ℤ}
use Rattle.lattice.specs.Coordinates.{Coordinates}
use Rattle.lattice.specs.Turning.{left_sum, right_sum}

-- a direction by its two parts
pub record Heading : Type 0 where
  pub dx : ℤ
  pub dy : ℤ

-- the direction from a to b
abbrev pub heading_between : Coordinates → Coordinates → Heading
heading_between a b = record { dx = pos b.x -ℤ pos a.x; dy = pos b.y -ℤ pos a.y }

-- the cross product of two directions
abbrev pub cross : Heading → Heading → ℤ
cross d e = d.dx *ℤ e.dy -ℤ d.dy *ℤ e.dx

-- the eye is not on the line of a and b, b is counterclockwise of a, and the target's direction is in the cone
-- from a to b
pub record IsInCone (eye a b target : Coordinates) : Type 0 where
  pub spread : right_sum eye a b < left_sum eye a b
  pub after : right_sum eye a target ≤ left_sum eye a target
  pub before : right_sum eye target b ≤ left_sum eye target b

-- the one direction is a negative multiple of the other: some number of the one is as many of the other, turned round
pub record IsNegativeMultiple (d f : Heading) : Type 0 where
  pub k : ℕ
  pub m : ℕ
  pub k_some : 0 < k
  pub m_some : 0 < m
  pub same_x : pos k *ℤ d.dx ≡ neg_ℤ (pos m *ℤ f.dx)
  pub same_y : pos k *ℤ d.dy ≡ neg_ℤ (pos m *ℤ f.dy)

-- the direction is in the cone from one to another: neither cross product is negative, and it is no negative multiple of
-- either
pub record IsInConeOf (from to d : Heading) : Type 0 where
  pub after : pos 0 ≤ℤ cross from d
  pub before : pos 0 ≤ℤ cross d to
  pub not_from : ¬ IsNegativeMultiple d from
  pub not_to : ¬ IsNegativeMultiple d to
