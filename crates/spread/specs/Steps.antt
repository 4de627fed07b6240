-- What each rule permits and how it adds: the steps from a cell, said of any list of neighbours. Definitions only.
use Rattle.std.specs.Prelude.{Bool, true, false, not, cond, ◌&&◌, List, ◌++◌, map, ◌≡◌, ℕ, ◌<◌, T, eqb, Float, length}
use Rattle.std.specs.Float.{nan}
use Rattle.binary32.specs.Steps.{straight, diagonal}
use Rattle.fifo.specs.Machine.{Net}
use Rattle.rules.specs.declared.BarrierDiagonals.{BarrierDiagonals}
use Rattle.rules.specs.declared.BarrierDiagonals.TheVariants.{Include, Exclude}
use Rattle.rules.specs.declared.Size.{Size}
use Rattle.rules.specs.Sizes.{Grid, grid, in_bounds, count}
use Rattle.rules.specs.Cells.{index, row_of, col_of, straight_neighbours, diagonal_neighbours, keep, over}
use Rattle.rules.specs.Distances.{plus_step, plus_half_sum, free, blocked}
use Rattle.rules.specs.Values.{Carried, nearer, carrying, plus_time}
use Rattle.rules.specs.Sums.{plus_time_or_quarter}
use Rattle.spread.specs.declared.buffers.Terrain as lent
use Rattle.spread.specs.declared.search.Rule.{Rule}
use Rattle.spread.specs.declared.search.Search.{Search}
use Rattle.spread.specs.Nets.{by_step, by_half_sum, by_time, by_time_or_quarter, ways, sized, carries, avoids}

-- What lies in the way: the obstacles, and the times of the cells.
pub record Terrain : Type 0 where
  pub obstacles : List ℕ
  pub times : List Float

abbrev pub terrain : List ℕ → List Float → Terrain
terrain obstacles times = record { obstacles = obstacles; times = times }

-- What lies in the way where these grids are lent.
abbrev pub ground_of : lent.Terrain → Terrain
ground_of ground = terrain ground.obstacles.now ground.times.now

-- The candidate for a cell v that is entered from the cell u, over a step of length s from distance d, by the number of a formula. Any other
-- number is the last's.
abbrev pub formula_by : ℕ → Grid Float → ℕ → Float → ℕ → Float → Float
formula_by n times u s v d =
    cond (eqb n by_step) (plus_step s v d)
    (cond (eqb n by_half_sum) (plus_half_sum times u s v d)
    (cond (eqb n by_time) (plus_time times s v d) (plus_time_or_quarter times s v d)))

-- The same by the rule.
abbrev pub formula : Rule → Grid Float → ℕ → Float → ℕ → Float → Float
formula rule = formula_by (ways rule).formula

-- The same of labels: the value goes along.
abbrev pub entering : Search → List Float → ℕ → Float → ℕ → Carried → Carried
entering search times u = carrying (formula search.rule (sized search times) u)

-- The label of a cell at a distance, with the value that goes along where the rule carries one.
abbrev pub paired : Bool → Float → Float → Carried
paired carrying distance value = (distance, cond carrying value nan)

abbrev pub labelled : Rule → Float → Float → Carried
labelled rule = paired (carries rule)

-- Whether v may be entered by a straight step, and by a diagonal one from u.
abbrev pub may_straight : Rule → Grid ℕ → ℕ → Bool
may_straight rule obstacles v = cond (avoids rule) (free obstacles v) true

abbrev pub may_diagonal : Rule → Grid ℕ → ℕ → ℕ → Bool
may_diagonal rule obstacles u v = cond (avoids rule) (free obstacles v && not (blocked (ways rule).diagonals obstacles u v)) true

-- ---- what a rule permits and how it adds, by numbers: those of the types that the loop has

-- What is avoided. 0: nothing. 1: obstacles. 2: these, and diagonals between two of them.
abbrev pub avoided_with : BarrierDiagonals → ℕ
avoided_with Include = 1
avoided_with Exclude = 2

abbrev pub avoided_number : Rule → ℕ
avoided_number rule = cond (avoids rule) (avoided_with (ways rule).diagonals) 0

-- The number of the formula, the number of what is avoided, and whether a value goes along.
pub record Numbers : Type 0 where
  pub formula : ℕ
  pub avoided : ℕ
  pub carrying : Bool

abbrev pub numbers : ℕ → ℕ → Bool → Numbers
numbers formula avoided carrying = record { formula = formula; avoided = avoided; carrying = carrying }

-- What the loop is given for a rule.
abbrev pub numbers_of : Rule → Numbers
numbers_of rule = numbers (ways rule).formula (avoided_number rule) (carries rule)

-- What it is given where the formula is d + (s / 2) * (a + b), and where it is the last: nothing is avoided, and nothing goes along.
abbrev pub half_sum_numbers : Numbers
half_sum_numbers = numbers by_half_sum 0 false

abbrev pub time_or_quarter_numbers : Numbers
time_or_quarter_numbers = numbers by_time_or_quarter 0 false

-- Whether v may be entered at all, by the number of what is avoided.
abbrev pub may_enter : ℕ → Grid ℕ → ℕ → Bool
may_enter n obstacles v = cond (eqb n 0) true (free obstacles v)

-- Whether the step from u to v is refused for the cells beside it: only a diagonal one can be.
abbrev pub blocked_by : ℕ → Bool → Grid ℕ → ℕ → ℕ → Bool
blocked_by n diagonally obstacles u v = cond (eqb n 2) (cond diagonally (blocked Exclude obstacles u v) false) false

-- Whether the step from u to v is permitted.
abbrev pub may_step : ℕ → Bool → Grid ℕ → ℕ → ℕ → Bool
may_step n diagonally obstacles u v = cond (blocked_by n diagonally obstacles u v) false (may_enter n obstacles v)

-- ---- the steps

-- The length of a step.
abbrev pub length_of : Bool → Float
length_of diagonally = cond diagonally diagonal straight

-- The straight steps from u to those of the cells that may be entered, and the diagonal ones.
unfoldable pub straight_steps : Search → Terrain → ℕ → List ℕ → List (ℕ × (Carried → Carried))
straight_steps search ground u vs =
    map (over straight (entering search ground.times u)) (keep (may_straight search.rule (grid search.size ground.obstacles)) vs)

unfoldable pub diagonal_steps : Search → Terrain → ℕ → List ℕ → List (ℕ × (Carried → Carried))
diagonal_steps search ground u vs =
    map (over diagonal (entering search ground.times u)) (keep (may_diagonal search.rule (grid search.size ground.obstacles) u) vs)

-- Those of one kind.
abbrev pub steps_by : Search → Terrain → Bool → ℕ → List ℕ → List (ℕ × (Carried → Carried))
steps_by search ground diagonally u vs = cond diagonally (diagonal_steps search ground u vs) (straight_steps search ground u vs)

-- All steps from u: the straight ones, then the diagonal ones.
abbrev pub all_steps : Search → Terrain → ℕ → List (ℕ × (Carried → Carried))
all_steps search ground u =
    straight_steps search ground u (straight_neighbours search.size u) ++ diagonal_steps search ground u (diagonal_neighbours search.size u)

-- The net's order is by distance, and its neighbours are these steps.
pub record Follows (search : Search) (ground : Terrain) (net : Net Carried) : Type 0 where
  pub nearest : net.below ≡ nearer
  pub steps : (u : ℕ) → net.nbrs u ≡ all_steps search ground u

-- ---- what the code of the tests asks and promises

-- The answer says, in a grid of whatever size, whether a cell is free.
pub record SaysFree (obstacles : List ℕ) (cell : ℕ) (answer : Bool) : Type 0 where
  pub says : (size : Size) → answer ≡ free (grid size obstacles) cell

-- Two cells of a grid that is within the bounds.
pub record Pair (size : Size) (a b : ℕ) : Type 0 where
  pub bounds : T (in_bounds size)
  pub first : a < count size
  pub second : b < count size

-- The cell in the row of a and the column of b.
pub record Crossed (size : Size) (a b cell : ℕ) : Type 0 where
  pub at_index : cell ≡ index size (row_of size a) (col_of size b)
  pub inside : cell < count size

-- Two cells, and the grid of obstacles.
pub record Among (size : Size) (obstacles : List ℕ) (u v : ℕ) : Type 0 where
  pub pair : Pair size u v
  pub lent : length obstacles ≡ count size

-- The grid of obstacles is lent where they are avoided.
pub record MayAsk (avoided : ℕ) (size : Size) (obstacles : List ℕ) (u v : ℕ) : Type 0 where
  pub pair : Pair size u v
  pub lent : eqb avoided 0 ≡ false → length obstacles ≡ count size

-- The times of two cells can be read where the formula reads them.
pub record Timed (formula : ℕ) (times : List Float) (u v : ℕ) : Type 0 where
  pub lent : eqb formula 0 ≡ false → (u < length times) × (v < length times)
