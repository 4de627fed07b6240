-- Demand 3, said of an accepted call of a search over distances. Definitions only.
use Rattle.std.specs.Prelude.{Bool, ◌||◌, List, ◌≡◌, ℕ, ◌*◌, ◌≤◌, ◌<◌, Float, length, get_or}
use Rattle.std.specs.Float.{nan, binary32}
use Rattle.std.specs.Float.Ieee.{mul}
use Rattle.fifo.specs.Machine.{Net, passing, label, finish}
use Rattle.rules.specs.declared.BarrierDiagonals.{BarrierDiagonals}
use Rattle.rules.specs.declared.Size.{Size}
use Rattle.rules.specs.declared.Spacing.{Spacing}
use Rattle.rules.specs.Sizes.{Grid, count}
use Rattle.rules.specs.Distances.{target, target_data, plain, free, with_obstacles, both_data, travel}
use Rattle.rules.specs.Paths.{LeastSums1, LeastSums2, LeastSums3}

-- How many cells of a grid pass a test.
abbrev pub number_of : Size → (ℕ → Bool) → ℕ
number_of size test = length (passing test 0 (count size))

-- Each cell of the answer is what the search held there, as it is answered; what the search held are the least sums; and the takes are at most
-- the square of the number of cells that may be entered or started from.
pub record Demand3 (size : Size) (net : Net Float) (LeastSums : Type 0) (enterable : ℕ → Bool) (answered : Float → Float) (answer : List Float) (t : ℕ) : Type 0 where
  pub all_cells : length answer ≡ count size
  pub cell_answered : (c : ℕ) → c < count size → get_or answer c nan ≡ answered (label net (finish net) c)
  pub least_sums : LeastSums
  pub takes_within_square : t ≤ number_of size enterable * number_of size enterable

-- Searches 1 and 2 multiply by the cell size.
abbrev pub times_cell_size : Spacing → Float → Float
times_cell_size spacing d = mul binary32 d spacing.cell_size

-- Search 1: cells with target data count for the square.
abbrev pub Demand3Plain : Grid ℕ → Spacing → List Float → ℕ → Type 0
Demand3Plain targets spacing =
    Demand3 targets.size (plain targets spacing.limit) (LeastSums1 targets spacing.limit) (target_data targets) (times_cell_size spacing)

-- Search 2: targets and free cells count for the square.
abbrev pub Demand3Obstacles : Grid ℕ → Grid ℕ → Spacing → BarrierDiagonals → List Float → ℕ → Type 0
Demand3Obstacles targets obstacles spacing diagonals =
    Demand3 targets.size (with_obstacles targets obstacles diagonals) (LeastSums2 targets obstacles diagonals)
    (λ c. target targets c || free obstacles c) (times_cell_size spacing)

-- Search 3: cells with target and time data count for the square, and nothing is scaled.
abbrev pub Demand3Travel : Grid ℕ → Grid Float → Float → List Float → ℕ → Type 0
Demand3Travel targets times cap =
    Demand3 targets.size (travel targets times cap) (LeastSums3 targets times cap) (both_data targets times) (λ d. d)
