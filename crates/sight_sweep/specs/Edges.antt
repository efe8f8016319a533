use Rattle.std.specs.Prelude.{◌≡◌, ℕ, ◌+◌, ◌-◌, ◌*◌, ◌/◌, ◌<◌, ◌≤◌, Bool, cond, nat_le, nat_lt, ◌&&◌}
use Rattle.lattice.specs.Coordinates.{Coordinates}
use Rattle.sight_sweep.specs.Spans.{not_right}
use Rattle.sight_sweep.specs.declared.edge.Columns.{Columns}
use Rattle.sight_sweep.specs.declared.edge.Edge.{Edge}

-- column x of the map is one of these
abbrev pub is_between : Columns → ℕ → Bool
is_between columns x = nat_le columns.first (20000 + x) && nat_lt (20000 + x) columns.past

-- by which number the edge's row is cut
abbrev pub bound_in : Edge → ℕ → ℕ
bound_in e y = (e.base + e.up * (2 * y + 1) - e.down * (2 * y + 1)) * e.scale / 4294967296

-- the column is left of the row
abbrev pub is_kept : Edge → ℕ → ℕ → Bool
is_kept e x y = cond e.from (nat_le (bound_in e y) (20000 + x)) (nat_lt (20000 + x) (bound_in e y))

-- the numbers are so small that nothing overflows
pub record IsSmall (e : Edge) : Type 0 where
  pub base : e.base ≤ 10000000
  pub up : e.up ≤ 192
  pub down : e.down ≤ 192
  pub scale : e.scale ≤ 4294967296
  pub above : (y : ℕ) → y < 96 → e.down * (2 * y + 1) ≤ e.base + e.up * (2 * y + 1)

-- the columns that are left are those to whose centre the path from a over b doesn't turn right
abbrev pub TellsTurns : Coordinates → Coordinates → Edge → Type 0
TellsTurns a b e = (x y : ℕ) → x < 96 → y < 96 → is_kept e x y ≡ not_right a b x y

-- to multiply by the scale and to divide by 2 ^ 32 is to divide by the gap
pub record IsScale (gap scale : ℕ) : Type 0 where
  pub low : 4294967296 ≤ scale * gap
  pub high : scale * gap < 4294967296 + gap
