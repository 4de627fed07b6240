-- The total of the takes over all starts of searches 7 and 8 stays below what a u64 holds, so it is the plain sum. Assumes nothing.
use mathlib.Core.Bool.{Bool}
use mathlib.Core.List.{List, [], ◌∷◌, map}
use mathlib.Core.Path.{◌≡◌}
use Prim.Native.Nat.{ℕ, ◌+◌, ◌*◌, ◌≤◌}
use native.Mathlib.Nat.{le_trans, mul-le-mul}
use native.Mathlib.Omega.{arith}
use lib.Dec.{T}
use lib.ListN.{length}
use lib.Ieee.{Float}
use Rattle.fifo.specs.Machine.{Net, passing, takes_of}
use Rattle.fifo.specs.Laws.{EndsWithinSquare}
use Rattle.fifo.proofs.Ranges.{length_passing}
use Rattle.rules.specs.Sizes.{Grid, cells_max, in_bounds, count}
use Rattle.rules.specs.Distances.{target}
use Rattle.rules.specs.Sums.{run_of, summed_takes, total_takes, from_mask_cell, runs_7, from_amount, counts, runs_8}
use Rattle.rules.proofs.Inputs.{cells_at_most, AcceptedTimes, AcceptedBudget}
use Rattle.rules.proofs.Squares.{mask_cell_ends, amount_ends}

-- A grid has at most 2 ^ 20 cells, so that the search from one start takes at most 2 ^ 40.
abbrev pub most_takes : ℕ
most_takes = cells_max * cells_max

-- What is at most the square of the cells is at most that.
pub within_most : {takes cells : ℕ} → takes ≤ cells * cells → cells ≤ cells_max → takes ≤ most_takes
within_most within few = le_trans within (mul-le-mul few few)

takes_at_most : (net : Net Float) → EndsWithinSquare net → net.cells ≤ cells_max → takes_of net ≤ most_takes
takes_at_most net ends few = within_most ends.takes_within_square (le_trans ends.room_within_cells few)

-- Each start adds at most that.
pub summed_at_most :
    (net : ℕ → Net Float) → ((c : ℕ) → takes_of (net c) ≤ most_takes)
    → (before : ℕ) (cells : List ℕ) → summed_takes before (map (run_of net) cells) ≤ before + length cells * most_takes
summed_at_most net each before [] = omega arith
summed_at_most net each before (c ∷ cells) = omega (arith, each c, summed_at_most net each (before + takes_of (net c)) cells)

-- So at most 2 ^ 20 starts take at most 2 ^ 60 together, and the total is not cut off.
pub total_is_sum :
    (net : ℕ → Net Float) → ((c : ℕ) → takes_of (net c) ≤ most_takes)
    → (test : ℕ → Bool) (n : ℕ) → n ≤ cells_max
    → total_takes (map (run_of net) (passing test 0 n)) ≡ summed_takes 0 (map (run_of net) (passing test 0 n))
unfolding total_takes
total_is_sum net each test n few = omega (arith, length_passing test 0 n, summed_at_most net each 0 (passing test 0 n))

module _ (times : Grid Float) (bounds : T (in_bounds times.size)) (times_good : AcceptedTimes times) where
  mask_cell_takes : (m : ℕ) → takes_of (from_mask_cell times m) ≤ most_takes
  unfolding from_mask_cell
  mask_cell_takes m = takes_at_most (from_mask_cell times m) (mask_cell_ends times m times_good) (cells_at_most times.size bounds)

  pub total_takes_7 : (mask : Grid ℕ) → T (in_bounds mask.size) → total_takes (runs_7 mask times) ≡ summed_takes 0 (runs_7 mask times)
  unfolding runs_7
  total_takes_7 mask mask_bounds =
      total_is_sum (from_mask_cell times) mask_cell_takes (target mask) (count mask.size) (cells_at_most mask.size mask_bounds)

  module _ (budget : Float) (budget_good : AcceptedBudget budget) where
    amount_takes : (t : ℕ) → takes_of (from_amount times budget t) ≤ most_takes
    unfolding from_amount
    amount_takes t = takes_at_most (from_amount times budget t) (amount_ends times budget t times_good budget_good) (cells_at_most times.size bounds)

    pub total_takes_8 : (amounts : Grid Float) → total_takes (runs_8 times amounts budget) ≡ summed_takes 0 (runs_8 times amounts budget)
    unfolding runs_8
    total_takes_8 amounts =
        total_is_sum (from_amount times budget) amount_takes (counts amounts) (count times.size) (cells_at_most times.size bounds)
