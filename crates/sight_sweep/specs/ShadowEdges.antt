use Rattle.std.specs.Prelude.{◌≡◌, ℕ, ◌<◌, Bool, ◌&&◌}
use Rattle.lattice.specs.Coordinates.{Coordinates, centre_of}
use Rattle.lattice.specs.Turning.{shadow_test}
use Rattle.sight_sweep.specs.Edges.{IsSmall, is_kept}
use Rattle.sight_sweep.specs.declared.paint.Shadow.{Shadow}

-- the cell (x, y) is left by all three lines
abbrev pub is_shaded : Shadow → ℕ → ℕ → Bool
is_shaded s x y = is_kept s.after x y && is_kept s.before x y && is_kept s.behind x y

-- the numbers of the three lines are small
pub record IsSmallShadow (s : Shadow) : Type 0 where
  pub after : IsSmall s.after
  pub before : IsSmall s.before
  pub behind : IsSmall s.behind

-- the cells that are left are those in the shadow of the wall from a to b
abbrev pub TellsShadow : Coordinates → Coordinates → Coordinates → Shadow → Type 0
TellsShadow eye a b s = (x y : ℕ) → x < 96 → y < 96 → is_shaded s x y ≡ shadow_test eye a b (centre_of x y)
