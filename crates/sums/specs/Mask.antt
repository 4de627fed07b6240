-- The searches from the mask cells, one after the other, up to the first that is over the budget. Definitions only.
use Rattle.std.specs.Prelude.{Bool, cond, List, ◌≡◌, ℕ, ◌<◌, Float, length, set, replicate, Result, Ok, Err}
use Rattle.binary32.specs.Numbers.{plus_zero}
use Rattle.rules.specs.declared.Size.{Size}
use Rattle.rules.specs.Numbers.{infinity}
use Rattle.rules.specs.Sizes.{grid, number_at, Outcome, refused, accepted, count}
use Rattle.rules.specs.Distances.{target}
use Rattle.rules.specs.Sums.{from_mask_cell, sum_of, over_budget, found_7}
use Rattle.calls.specs.Answer.{Answer}
use Rattle.calls.specs.Answer.{told, tell, answer_after}
use Rattle.sums.specs.declared.mask_cell.OverBudget.{OverBudget}
use Rattle.sums.specs.Ways.{Ways}
use Rattle.sums.specs.Between.{BetweenStarts}
use Rattle.sums.specs.FromMask.{Lengths, run_from, over_at}

-- The grids are lent, and the answer and the buffers.
pub record Given (size : Size) (mask : List ℕ) (times values answer distances : List Float) (marks listed met queue : List ℕ) : Type 0 where
  pub ways : Ways size times (from_mask_cell (grid size times))
  pub mask_length : length mask ≡ count size
  pub values_length : length values ≡ count size
  pub answer_length : length answer ≡ count size
  pub lengths : Lengths size distances marks listed met queue

pub record SearchingCell (size : Size) (mask : List ℕ) (times values : List Float) (cell : ℕ) (answer distances : List Float) (marks listed met queue : List ℕ) : Type 0 where
  pub given : Given size mask times values answer distances marks listed met queue
  pub between : BetweenStarts size infinity distances marks listed met queue
  pub inside : cell < count size

-- A cell that the mask selects has its sum for an answer, unless refusal 7 applies; nothing is done for any other.
pub record SearchedCell
    (size : Size) (mask : List ℕ) (times values : List Float) (limit : Float) (include_adjacent : Bool) (cell : ℕ) (answer answer' distances' : List Float)
    (marks' listed' met' queue' : List ℕ) (r : Result ℕ OverBudget)
    : Type 0 where
  pub answer_length : length answer' ≡ count size
  pub between : BetweenStarts size infinity distances' marks' listed' met' queue'
  pub says :
      let run = run_from size times cell in
      r ≡ cond (target (grid size mask) cell) (cond (over_budget (grid size times) limit run).0 (Err (over_at cell)) (Ok run.takes)) (Ok 0)
  pub answered :
      let run = run_from size times cell in
      answer'
      ≡ cond (target (grid size mask) cell)
      (cond (over_budget (grid size times) limit run).0 answer (set answer cell (sum_of (grid size times) (grid size values) limit include_adjacent run))) answer

-- Unselected cells hold 0.
pub record SearchingMask (size : Size) (mask : List ℕ) (times values answer distances : List Float) (marks listed met queue : List ℕ) : Type 0 where
  pub given : Given size mask times values answer distances marks listed met queue
  pub none_answered : answer ≡ replicate (count size) plus_zero

-- What the rules answer once no test refuses: refusal 7, or the sums.
unfoldable pub mask_outcome : Size → List ℕ → List Float → List Float → Float → Bool → Outcome
mask_outcome size mask times values limit include_adjacent = found_7 (grid size mask) (grid size times) (grid size values) limit include_adjacent

-- What the code found says the same: refusal 7 with the mask cell's index, or the takes and the answer.
abbrev pub found_as : Result ℕ OverBudget → List Float → Outcome
found_as (Ok takes) answer = accepted takes answer
found_as (Err over) answer = refused (number_at 7 over.cell)

pub record SearchedMask
    (size : Size) (mask : List ℕ) (times values : List Float) (limit : Float) (include_adjacent : Bool) (answer' distances' : List Float)
    (marks' listed' met' queue' : List ℕ) (r : Result ℕ OverBudget)
    : Type 0 where
  pub answer_length : length answer' ≡ count size
  pub lengths : Lengths size distances' marks' listed' met' queue'
  pub outcome : found_as r answer' ≡ mask_outcome size mask times values limit include_adjacent

-- The call's answer, and the answer slice as it is left.
pub record LeftAnswer (found : Result ℕ OverBudget) (answer answer' : List Float) (r : Answer) : Type 0 where
  pub same_length : length answer' ≡ length answer
  pub says : told r ≡ tell (found_as found answer)
  pub answer_left : answer' ≡ answer_after (found_as found answer) answer
