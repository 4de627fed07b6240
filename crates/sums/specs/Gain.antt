-- What the run from one amount asks and promises. Definitions only.
use Rattle.std.specs.Prelude.{List, ◌≡◌, ℕ, ◌<◌, eqb, Float, length, get_or, replicate}
use Rattle.fifo.specs.Machine.{Net, among}
use Rattle.rules.specs.Sizes.{count}
use Rattle.rules.specs.Sums.{gaining_one, gaining_of, gain}
use Rattle.rules.specs.Values.{Carried}
use Rattle.spread.specs.declared.search.Search.{Search}
use Rattle.spread.specs.Steps.{Terrain, numbers_of, time_or_quarter_numbers}
use Rattle.spread.specs.Buffers.{Buffers}
use Rattle.spread.specs.Loop.{taken_at, Ready, Running, Ran}

-- The mark of a cell that has gained the amount.
abbrev pub added_mark : ℕ
added_mark = 1

-- The cells listed have gained the amount, and are marked so.
pub record Gained (amount : Float) (start answer : List Float) (added cells : List ℕ) : Type 0 where
  pub answer_is : answer ≡ gain amount start cells
  pub marked : (c : ℕ) → c < length added → eqb (get_or added c 0) added_mark ≡ among c cells

-- A cell of the answer was taken.
pub record InAnswer (cell : ℕ) (answer : List Float) (added : List ℕ) : Type 0 where
  pub in_answer : cell < length answer
  pub in_added : cell < length added

-- It is among the cells that have gained if it is within the budget.
pub record GainedCell (cell : ℕ) (distance budget amount : Float) (answer : List Float) (added : List ℕ) (answer' : List Float) (added' : List ℕ) : Type 0 where
  pub answer_length : length answer' ≡ length answer
  pub added_length : length added' ≡ length added
  pub gained :
      (start : List Float) (cells : List ℕ) → Gained amount start answer added cells
      → Gained amount start answer' added' (gaining_one budget cells (cell, distance))

-- The run is to begin, by times that may be nodata: nothing has gained.
pub record Gaining (search : Search) (ground : Terrain) (answer : List Float) (added : List ℕ) (b : Buffers) : Type 0 where
  pub running : Running search ground b
  pub numbered : time_or_quarter_numbers ≡ numbers_of search.rule
  pub answer_length : length answer ≡ count search.size
  pub added_length : length added ≡ count search.size
  pub none_added : added ≡ replicate (length added) 0

-- The run has ended, and of the taken cells those within the budget have gained the amount, in whatever net the buffers were ready for.
pub record GainedAll
    (search : Search) (ground : Terrain) (amount : Float) (answer : List Float) (before : Buffers)
    (answer' distances' carried' : List Float) (marks' added' queue' : List ℕ) (r : ℕ)
    : Type 0 where
  pub ran : Ran search ground before distances' carried' marks' queue' r
  pub answer_length : length answer' ≡ count search.size
  pub added_length : length added' ≡ count search.size
  pub gained : (net : Net Carried) → Ready search ground net before → answer' ≡ gain amount answer (gaining_of search.limit (taken_at net r))
