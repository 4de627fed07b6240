-- What searches 7 and 8 ask for their runs, whatever each starts from. Definitions only.
use Rattle.std.specs.Prelude.{List, ◌≡◌, ℕ, ◌*◌, T, Float, length}
use Rattle.fifo.specs.Machine.{Net}
use Rattle.fifo.specs.Simulation.{Within}
use Rattle.rules.specs.declared.Size.{Size}
use Rattle.rules.specs.Sizes.{in_bounds, count}

-- The size is within the bounds, the times are lent, and from no start the search takes more than the square of the number of cells.
pub record Ways (size : Size) (times : List Float) (from : ℕ → Net Float) : Type 0 where
  pub bounds : T (in_bounds size)
  pub times_length : length times ≡ count size
  pub within : (start : ℕ) → Within (count size * count size) (from start)
