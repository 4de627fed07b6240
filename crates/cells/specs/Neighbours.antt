-- A cell's neighbours in the struct that the code fills. Definitions only.
use Rattle.std.specs.Prelude.{◌≡◌, ℕ, ◌-◌, ◌≤◌, ◌<◌, T, pos, length, get_or, take, drop, replicate}
use Rattle.rules.specs.declared.Size.{Size}
use Rattle.rules.specs.Sizes.{in_bounds, count}
use Rattle.rules.specs.Cells.{row_of, col_of, straight_neighbours, diagonal_neighbours}
pub use Rattle.cells.specs.declared.neighbours.Neighbours.{Neighbours}
pub use Rattle.cells.specs.declared.neighbours.Place.{Place}

-- The size is within the bounds, and u is a cell of a grid of that size.
pub record CellOf (size : Size) (u : ℕ) : Type 0 where
  pub bounds : T (in_bounds size)
  pub below : u < count size

-- A cell's row and column, signed as the code has them.
abbrev pub place_of : Size → ℕ → Place
place_of size u = record { row = pos (row_of size u); col = pos (col_of size u) }

-- The struct holds u's neighbours in trying order: up to `straight` the straight ones, up to `count` the diagonal ones. The entries past
-- them are 0, so that the size and the cell decide the whole struct.
pub record Lists (size : Size) (u : ℕ) (r : Neighbours) : Type 0 where
  pub straight_ones : take r.straight r.cells ≡ straight_neighbours size u
  pub diagonal_ones : take (r.count - r.straight) (drop r.straight r.cells) ≡ diagonal_neighbours size u
  pub rest : drop r.count r.cells ≡ replicate (8 - r.count) 0
  pub eight : length r.cells ≡ 8
  pub straight_most : r.straight ≤ r.count
  pub count_most : r.count ≤ 8
  pub inside : (k : ℕ) → get_or r.cells k 0 < count size
