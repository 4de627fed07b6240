-- The search from one mask cell: what it asks and promises. Definitions only.
use Rattle.std.specs.Prelude.{Bool, cond, List, [], ◌++◌, ◌≡◌, ℕ, suc, ◌<◌, Float, length, Result, Ok, Err}
use Rattle.rules.specs.declared.Size.{Size}
use Rattle.rules.specs.Numbers.{infinity}
use Rattle.rules.specs.Sizes.{grid, count}
use Rattle.rules.specs.Sums.{Run, run_of, from_mask_cell, listed, adjacent_cells, sum_listed, over_budget, sum_of}
use Rattle.spread.specs.Waiting.{Unmarked}
use Rattle.reach.specs.Listing.{Met, Listing}
use Rattle.sums.specs.declared.listing.Reached.{Reached}
use Rattle.sums.specs.declared.mask_cell.MaskSum.{MaskSum}
use Rattle.sums.specs.declared.mask_cell.OverBudget.{OverBudget}
use Rattle.sums.specs.Ways.{Ways}
use Rattle.sums.specs.Between.{BetweenStarts}

-- The work buffers have their lengths, whatever they hold.
pub record Lengths (size : Size) (distances : List Float) (marks listed met queue : List ℕ) : Type 0 where
  pub distances_length : length distances ≡ count size
  pub marks_length : length marks ≡ count size
  pub listed_length : length listed ≡ count size
  pub met_length : length met ≡ count size
  pub queue_length : length queue ≡ suc (count size)

-- A search from a mask cell is to run: the ways are known, no cell is reached, and the start is a cell.
pub record Reaching (size : Size) (times : List Float) (start : ℕ) (distances : List Float) (marks listed met queue : List ℕ) : Type 0 where
  pub ways : Ways size times (from_mask_cell (grid size times))
  pub between : BetweenStarts size infinity distances marks listed met queue
  pub inside : start < count size

-- The rules' run from a mask cell.
abbrev pub run_from : Size → List Float → ℕ → Run
run_from size times start = run_of (from_mask_cell (grid size times)) start

-- The search has ended: its distances are there, the cells that it reached are listed, and met, and none is marked.
pub record ReachedFrom (size : Size) (times : List Float) (start : ℕ) (distances' : List Float) (marks' listed' met' queue' : List ℕ) (r : Reached) : Type 0 where
  pub lengths : Lengths size distances' marks' listed' met' queue'
  pub labels : distances' ≡ (run_from size times start).ends.labels
  pub lists : Listing (count size) met' listed' r.count (listed (grid size times) (run_from size times start))
  pub counted : r.takes ≡ (run_from size times start).takes
  pub unmarked : Unmarked (count size) marks'

-- The sum of the listed cells, and of the cells beside them if they are included, which are then met too.
pub record SumReached (size : Size) (values distances : List Float) (cells : List ℕ) (limit : Float) (include_adjacent : Bool) (met' : List ℕ) (r : Float) : Type 0 where
  pub marks : Met (count size) met' (cells ++ cond include_adjacent (adjacent_cells size distances limit cells) [])
  pub sum_is : r ≡ sum_listed size values distances limit include_adjacent cells

-- The values are lent too.
pub record Summing (size : Size) (times values : List Float) (start : ℕ) (distances : List Float) (marks listed met queue : List ℕ) : Type 0 where
  pub reaching : Reaching size times start distances marks listed met queue
  pub values_length : length values ≡ count size

-- Refusal 7 applies to the mask cell.
abbrev pub over_at : ℕ → OverBudget
over_at cell = record { cell = cell }

-- Refusal 7 applies, or the takes and the sum are those of the rules' run. In either case the next can start.
pub record SummedFrom
    (size : Size) (times values : List Float) (limit : Float) (include_adjacent : Bool) (start : ℕ) (distances' : List Float) (marks' listed' met' queue' : List ℕ) (r : Result MaskSum OverBudget)
    : Type 0 where
  pub between : BetweenStarts size infinity distances' marks' listed' met' queue'
  pub says :
      let run = run_from size times start in
      r
      ≡ cond (over_budget (grid size times) limit run).0 (Err (over_at start))
      (Ok (record { takes = run.takes; sum = sum_of (grid size times) (grid size values) limit include_adjacent run }))
