-- The searches from the amounts, one after the other: what they ask and promise. Definitions only.
use Rattle.std.specs.Prelude.{cond, List, ◌≡◌, ℕ, suc, ◌<◌, Float, length, replicate}
use Rattle.binary32.specs.Numbers.{plus_zero}
use Rattle.fifo.specs.Machine.{takes_of}
use Rattle.rules.specs.declared.Size.{Size}
use Rattle.rules.specs.Sizes.{grid, count}
use Rattle.rules.specs.Distances.{float}
use Rattle.rules.specs.Sums.{total_takes, from_amount, counts, runs_8, gaining, gain, gains}
use Rattle.sums.specs.Ways.{Ways}

-- The answer and the work buffers have their lengths, whatever they hold.
pub record Lengths (size : Size) (answer distances : List Float) (marks added queue : List ℕ) : Type 0 where
  pub answer_length : length answer ≡ count size
  pub distances_length : length distances ≡ count size
  pub marks_length : length marks ≡ count size
  pub added_length : length added ≡ count size
  pub queue_length : length queue ≡ suc (count size)

-- Searches from amounts are to run: the ways are known, and the slices have their lengths.
pub record Searching (size : Size) (times : List Float) (limit : Float) (answer distances : List Float) (marks added queue : List ℕ) : Type 0 where
  pub ways : Ways size times (from_amount (grid size times) limit)
  pub lengths : Lengths size answer distances marks added queue

-- Each cell that the search from one amount took within the budget has gained the amount.
pub record SearchedAmount
    (size : Size) (times : List Float) (limit : Float) (start : ℕ) (amount : Float) (answer answer' distances' : List Float) (marks' added' queue' : List ℕ) (r : ℕ)
    : Type 0 where
  pub lengths : Lengths size answer' distances' marks' added' queue'
  pub gained : answer' ≡ gain amount answer (gaining (grid size times) limit start)
  pub counted : r ≡ takes_of (from_amount (grid size times) limit start)

-- The amounts are lent too.
pub record SearchingCell
    (size : Size) (times amounts : List Float) (limit : Float) (cell : ℕ) (answer distances : List Float) (marks added queue : List ℕ)
    : Type 0 where
  pub asked : Searching size times limit answer distances marks added queue
  pub amounts_length : length amounts ≡ count size
  pub inside : cell < count size

-- The same for a cell whose amount counts; nothing for any other.
pub record SearchedCell
    (size : Size) (times amounts : List Float) (limit : Float) (cell : ℕ) (answer answer' distances' : List Float) (marks' added' queue' : List ℕ) (r : ℕ)
    : Type 0 where
  pub lengths : Lengths size answer' distances' marks' added' queue'
  pub gained :
      answer' ≡ cond (counts (grid size amounts) cell) (gain (float (grid size amounts) cell) answer (gaining (grid size times) limit cell)) answer
  pub counted : r ≡ cond (counts (grid size amounts) cell) (takes_of (from_amount (grid size times) limit cell)) 0

-- Nothing has gained yet.
pub record SearchingAll
    (size : Size) (times amounts : List Float) (limit : Float) (answer distances : List Float) (marks added queue : List ℕ)
    : Type 0 where
  pub asked : Searching size times limit answer distances marks added queue
  pub amounts_length : length amounts ≡ count size
  pub none_gained : answer ≡ replicate (count size) plus_zero

-- All runs of the rules are made, in their order.
pub record SearchedAll
    (size : Size) (times amounts : List Float) (limit : Float) (answer' distances' : List Float) (marks' added' queue' : List ℕ) (r : ℕ)
    : Type 0 where
  pub lengths : Lengths size answer' distances' marks' added' queue'
  pub gained : answer' ≡ gains (grid size times) (grid size amounts) limit (runs_8 (grid size times) (grid size amounts) limit)
  pub counted : r ≡ total_takes (runs_8 (grid size times) (grid size amounts) limit)
