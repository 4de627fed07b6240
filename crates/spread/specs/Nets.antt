-- The net that the loop works, for each rule. Its labels are distances with the value that goes along; where nothing goes along, that is NaN. Definitions only.
-- It tries every neighbour inside the grid, save obstacles: what the rules never enter holds NaN, and nothing is below NaN, or gets NaN for a candidate,
-- and NaN is below nothing.
use Rattle.std.specs.Prelude.{Bool, true, false, not, cond, ◌&&◌, List, ℕ, eqb, get_or, Float}
use Rattle.std.specs.Float.{nan}
use Rattle.fifo.specs.Machine.{Net, table}
use Rattle.rules.specs.declared.BarrierDiagonals.{BarrierDiagonals}
use Rattle.rules.specs.declared.BarrierDiagonals.TheVariants.{Include}
use Rattle.rules.specs.Sizes.{Grid, grid, count}
use Rattle.rules.specs.Cells.{moves}
use Rattle.rules.specs.Distances.{plus_step, plus_half_sum, plain, free, blocked, with_obstacles, travel}
use Rattle.rules.specs.Values.{Carried, nearer, carrying, closest, plus_time, closest_by_time}
use Rattle.rules.specs.Sums.{plus_time_or_quarter, from_mask_cell, from_amount}
use Rattle.spread.specs.declared.search.Rule.{Rule}
use Rattle.spread.specs.declared.search.Rule.TheVariants.{Plain, Obstacles, HalfSum, Closest, ByTime, FromMaskCell, FromAmount}
use Rattle.spread.specs.declared.search.Search.{Search}

-- ---- what a rule is to the loop

-- The formulas by number: d + s; d + (s / 2) * (a + b); d + s * b; and the same where a nodata time counts as the largest f32 divided by 4.
abbrev pub by_step : ℕ
by_step = 0

abbrev pub by_half_sum : ℕ
by_half_sum = 1

abbrev pub by_time : ℕ
by_time = 2

abbrev pub by_time_or_quarter : ℕ
by_time_or_quarter = 3

-- By which formula a search adds; whether it avoids obstacles, and then which diagonals between them are open to it; whether a value goes along; and
-- whether it starts from targets, or from one cell.
pub record Ways : Type 0 where
  pub formula : ℕ
  pub avoiding : Bool
  pub diagonals : BarrierDiagonals
  pub carrying : Bool
  pub targeted : Bool

-- The one table of the rules: all that the loop knows of one is read off its row.
abbrev pub ways : Rule → Ways
ways Plain = record { formula = by_step; avoiding = false; diagonals = Include; carrying = false; targeted = true }
ways (Obstacles diagonals) = record { formula = by_step; avoiding = true; diagonals = diagonals; carrying = false; targeted = true }
ways HalfSum = record { formula = by_half_sum; avoiding = false; diagonals = Include; carrying = false; targeted = true }
ways Closest = record { formula = by_step; avoiding = false; diagonals = Include; carrying = true; targeted = true }
ways ByTime = record { formula = by_time; avoiding = false; diagonals = Include; carrying = true; targeted = true }
ways (FromMaskCell origin) = record { formula = by_half_sum; avoiding = false; diagonals = Include; carrying = false; targeted = false }
ways (FromAmount origin) = record { formula = by_time_or_quarter; avoiding = false; diagonals = Include; carrying = false; targeted = false }

-- Whether a value goes along.
abbrev pub carries : Rule → Bool
carries rule = (ways rule).carrying

-- Whether a rule reads the grid of targets, that of obstacles, and that of times.
abbrev pub reads_targets : Rule → Bool
reads_targets rule = (ways rule).targeted

abbrev pub avoids : Rule → Bool
avoids rule = (ways rule).avoiding

abbrev pub reads_times : Rule → Bool
reads_times rule = not (eqb (ways rule).formula by_step)

-- ---- the nets

-- The grids that a search reads; a rule reads only those that it has.
pub record Grids : Type 0 where
  pub targets : List ℕ
  pub obstacles : List ℕ
  pub times : List Float
  pub values : List Float

-- A slice as a grid of the search's size.
abbrev pub sized : {A : Type 0} → Search → List A → Grid A
sized search cells = grid search.size cells

-- A net of distances, with other steps, and nothing that goes along.
abbrev pub stepping : Net Float → (ℕ → List (ℕ × (Carried → Carried))) → Net Carried
stepping net steps = record {
  cells = net.cells;
  below = nearer;
  first = λ c. (net.first c, nan);
  start = net.start;
  enterable = net.enterable;
  nbrs = steps;
}

-- A net of carried values, with other steps.
abbrev pub restepping : Net Carried → (ℕ → List (ℕ × (Carried → Carried))) → Net Carried
restepping net steps = record {
  cells = net.cells;
  below = net.below;
  first = net.first;
  start = net.start;
  enterable = net.enterable;
  nbrs = steps;
}

-- Every neighbour is tried.
abbrev pub anywhere : ℕ → Bool
anywhere v = true

-- For each rule document 01's net, with the steps that the loop tries.
abbrev pub net_by : Rule → Search → Grids → Net Carried
net_by Plain search grids = stepping (plain (sized search grids.targets) search.limit) (moves search.size anywhere anywhere (carrying plus_step))
net_by (Obstacles diagonals) search grids =
    let obstacles = sized search grids.obstacles in
    stepping (with_obstacles (sized search grids.targets) obstacles diagonals)
    (λ u. moves search.size (free obstacles) (λ v. free obstacles v && not (blocked diagonals obstacles u v)) (carrying plus_step) u)
net_by HalfSum search grids =
    let times = sized search grids.times in
    stepping (travel (sized search grids.targets) times search.limit)
    (λ u. moves search.size anywhere anywhere (carrying (plus_half_sum times u)) u)
net_by Closest search grids = closest (sized search grids.targets) (sized search grids.values)
net_by ByTime search grids =
    let times = sized search grids.times in
    restepping (closest_by_time (sized search grids.targets) times (sized search grids.values) search.limit)
    (moves search.size anywhere anywhere (carrying (plus_time times)))
net_by (FromMaskCell origin) search grids =
    let times = sized search grids.times in
    stepping (from_mask_cell times origin) (λ u. moves search.size anywhere anywhere (carrying (plus_half_sum times u)) u)
net_by (FromAmount origin) search grids =
    let times = sized search grids.times in
    stepping (from_amount times search.limit origin) (moves search.size anywhere anywhere (carrying (plus_time_or_quarter times)))

-- The net of a search is that of its rule.
unfoldable pub net_of : Search → Grids → Net Carried
net_of search grids = net_by search.rule search grids

-- The labels that two buffers hold.
unfoldable pub labels_of : Search → List Float → List Float → List Carried
labels_of search distances carried = table (λ c. (get_or distances c nan, cond (carries search.rule) (get_or carried c nan) nan)) 0 (count search.size)
