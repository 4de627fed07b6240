-- Cells at no edge, whose neighbours are found faster. Definitions only.
use Rattle.std.specs.Prelude.{Bool, true, ◌≡◌, ℕ, ◌+◌, ◌<◌, T, ℤ}
use Rattle.std.specs.Int.Signed.{mag}
use Rattle.rules.specs.declared.Size.{Size}
use Rattle.rules.specs.Sizes.{side_fits}
use Rattle.rules.specs.Cells.{row_of, col_of, within}
use Rattle.cells.specs.Neighbours.{CellOf}

-- k is one of the rows, or columns, before `end`, of which there are no more than the bounds allow.
pub record Between (end k : ℤ) : Type 0 where
  pub side : T (side_fits end)
  pub here : T (within end k)

-- Neither the first of them nor the last.
pub record Inner (end k : ℤ) : Type 0 where
  pub before : 0 < mag k
  pub behind : mag k + 1 < mag end

-- The answer says whether it is so.
pub record SaysInner (end k : ℤ) (answer : Bool) : Type 0 where
  pub says : answer ≡ true → Inner end k
  pub told : Inner end k → answer ≡ true

-- u is a cell with rows above and below it, and columns on both sides.
pub record Interior (size : Size) (u : ℕ) : Type 0 where
  pub cell : CellOf size u
  pub above : 0 < row_of size u
  pub below : row_of size u + 1 < mag size.rows
  pub left : 0 < col_of size u
  pub right : col_of size u + 1 < mag size.cols

-- The answer says whether u is such a cell.
pub record SaysInterior (size : Size) (u : ℕ) (answer : Bool) : Type 0 where
  pub says : answer ≡ true → Interior size u
  pub told : Interior size u → answer ≡ true
