-- How many cells searches 7 and 8 take, over all starts together. Definitions only.
use Rattle.std.specs.Prelude.{List, ◌≡◌, ℕ, ◌*◌, ◌≤◌, Float}
use Rattle.fifo.specs.Machine.{Net, takes_of}
use Rattle.fifo.specs.Laws.{room}
use Rattle.rules.specs.Sums.{Run, summed_takes}

-- The takes are those of all starts together, so that the total never saturates, and those of each start are at most the square of the number
-- of cells that may be entered or started from.
pub record WithinSquares (runs : List Run) (from : ℕ → Net Float) (t : ℕ) : Type 0 where
  pub together : t ≡ summed_takes 0 runs
  pub each : (start : ℕ) → takes_of (from start) ≤ room (from start) * room (from start)
