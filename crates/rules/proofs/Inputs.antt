-- What an accepted call knows of its inputs: their values are those of binary32, and the tests for refusals found nothing. Assumes nothing.
use mathlib.Core.Bool.{false, ◌&&◌}
use mathlib.Core.Path.{◌≡◌}
use Prim.Native.Nat.{ℕ, ◌≤◌}
use lib.Dec.{T, leb, leb→le}
use lib.Ieee.{Float, nan, binary32, add, div, le, fits, is_nan, of_bits, of_int}
use lib.Ieee.Bits.{is_false}
use lib.Ieee.Fits.{and_r, div-fits}
use lib.Ieee.Positive.{positive}
use Rattle.binary32.specs.Numbers.{plus_zero, one}
use Rattle.binary32.specs.FromZero.{Distance, NonNegative}
use Rattle.binary32.proofs.NotANumber.{nan_below_none}
use Rattle.binary32.proofs.Shapes.{positive_is_non_negative}
use Rattle.binary32.proofs.DistanceOrder.{not_le_not_lt}
use Rattle.binary32.proofs.Rounding.{round_is_distance}
use Rattle.binary32.proofs.Costs.{sum_non_negative}
use Rattle.binary32.proofs.StepCosts.{straight_non_negative}
use Rattle.fifo.proofs.Lists.{by_test, holds}
use Rattle.rules.specs.Numbers.{whole, quarter_of_largest}
use Rattle.rules.specs.Sizes.{Size, Grid, cells_max, side_fits, in_bounds, any, below_zero, count}
use Rattle.rules.specs.Distances.{float, has_data}
use Rattle.rules.specs.Sums.{time_or_quarter}
use Rattle.rules.proofs.Any.{none_passes}

-- ---- sizes

-- A size within the bounds has at most 1,048,576 cells.
pub cells_at_most : (size : Size) → T (in_bounds size) → count size ≤ cells_max
cells_at_most size bounds = leb→le (count size) cells_max (and_r (side_fits size.rows && side_fits size.cols) (leb (count size) cells_max) bounds)

-- ---- caps

-- A whole number as an f32 is a distance.
pub whole_is_distance : (k : ℕ) → Distance (whole k)
unfolding of_int
whole_is_distance k = round_is_distance k 1

-- ---- times

-- Every time is a value of binary32, a NaN where there is no data, and the test of refusal 6 found none below 0.
pub record AcceptedTimes (times : Grid Float) : Type 0 where
  pub held : (c : ℕ) → T (fits binary32 (float times c))
  pub none_negative : any below_zero times.cells ≡ false

-- So a time with data is a cost.
pub time_non_negative : {times : Grid Float} → AcceptedTimes times → (c : ℕ) → T (has_data times c) → NonNegative (float times c)
time_non_negative {times} accepted c has = record {
  held = accepted.held c;
  not_nan = is_false (is_nan (float times c)) has;
  not_below = none_passes below_zero nan (nan_below_none plus_zero) times.cells accepted.none_negative c;
}

quarter_positive : T (positive quarter_of_largest)
unfolding div of_bits
quarter_positive = tt

-- And so is what search 8 puts for a time without.
pub time_or_quarter_non_negative : {times : Grid Float} → AcceptedTimes times → (c : ℕ) → NonNegative (time_or_quarter times c)
time_or_quarter_non_negative {times} accepted c =
    by_test NonNegative (has_data times c) (λ e. time_non_negative accepted c (holds e))
    (λ e. positive_is_non_negative quarter_of_largest (div-fits binary32 _ _) quarter_positive)

-- ---- budgets

-- A budget is a value of binary32, and the test of refusal 5 found it no NaN and above 0.
pub record AcceptedBudget (budget : Float) : Type 0 where
  pub held : T (fits binary32 budget)
  pub not_nan : is_nan budget ≡ false
  pub above_zero : le budget plus_zero ≡ false

-- The sum of a budget and 1 is a cost.
pub budget_and_one_non_negative : {budget : Float} → AcceptedBudget budget → NonNegative (add binary32 budget one)
budget_and_one_non_negative {budget} accepted =
    sum_non_negative (record { held = accepted.held; not_nan = accepted.not_nan; not_below = not_le_not_lt budget plus_zero accepted.above_zero }) straight_non_negative
