-- Document 01, "Sizes and refusals": grids, their bounds, and the tests by which a call is refused. Definitions only.
use Rattle.std.specs.Prelude.{Bool, false, not, cond, ◌&&◌, ◌||◌, List, [], ◌∷◌, ◌++◌, ℕ, suc, ◌*◌, leb, eqb, ℤ, pos, Float}
use Rattle.std.specs.Int.Signed.{mag, le_z}
use Rattle.std.specs.Float.Ieee.{is_nan, lt, le}
use Rattle.std.specs.Float.Ieee.Scale.{finite}
use Rattle.binary32.specs.Numbers.{plus_zero}
pub use Rattle.rules.specs.declared.Size.{Size}
pub use Rattle.rules.specs.declared.Spacing.{Spacing}

-- ---- sizes

-- A grid: its size, and its cells in row-major order.
pub record Grid (A : Type 0) : Type 0 where
  pub size : Size
  pub cells : List A

-- A slice as a grid of a size.
abbrev pub grid : {A : Type 0} → Size → List A → Grid A
grid size cells = record { size = size; cells = cells }

-- The most rows or columns that a grid may have.
abbrev pub side_max : ℕ
side_max = 32767

-- The most cells that a grid may have.
abbrev pub cells_max : ℕ
cells_max = 1048576

-- Each side is 0 to 32,767.
abbrev pub side_fits : ℤ → Bool
side_fits k = le_z (pos 0) k && le_z k (pos side_max)

-- n = rows times columns.
abbrev pub count : Size → ℕ
count s = mag s.rows * mag s.cols

-- The bounds: each side fits, and n is at most 1,048,576.
abbrev pub in_bounds : Size → Bool
in_bounds s = side_fits s.rows && side_fits s.cols && leb (count s) cells_max

abbrev pub same_number : ℤ → ℤ → Bool
same_number k l = le_z k l && le_z l k

-- Two sizes with the same rows and the same columns.
abbrev pub same_size : Size → Size → Bool
same_size a b = same_number a.rows b.rows && same_number a.cols b.cols

-- ---- what a call is given and what it answers

-- The lengths of the lent answer and work buffers, in the order in which the call takes them, and that of the queue.
pub record Lent : Type 0 where
  pub lengths : List ℕ
  pub queue_length : ℕ

-- A refusal's number, alone or with its index.
pub data Refusal : Type 0 where
  number : ℕ → Refusal
  number_at : ℕ → ℕ → Refusal

-- What a call answers: a refusal, or the takes and the answer grid.
pub data Outcome : Type 0 where
  refused : Refusal → Outcome
  accepted : ℕ → List Float → Outcome

-- ---- refusals

-- What tests come to.
pub data Judged : Type 0 where
  passes : Judged
  stops : Refusal → Judged

-- The refusal that was given, or else what the search answers.
abbrev pub unless : Judged → (Unit {0} → Outcome) → Outcome
unless (stops refusal) search = refused refusal
unless passes search = search tt

-- Of an ordered list of tests the first that holds is given.
unfoldable pub first_that_holds : List (Bool × Refusal) → Judged
first_that_holds [] = passes
first_that_holds ((holds, refusal) ∷ tests) = cond holds (stops refusal) (first_that_holds tests)

-- Of two judgements the first that refuses.
abbrev pub or_else : Judged → Judged → Judged
or_else passes later = later
or_else (stops refusal) later = stops refusal

-- Whether any in a list passes the test.
unfoldable pub any : {A : Type 0} → (A → Bool) → List A → Bool
any test [] = false
any test (a ∷ rest) = test a || any test rest

-- The index of the first that passes the test.
unfoldable pub first_index : {A : Type 0} → (A → Bool) → List A → ℕ
first_index test [] = 0
first_index test (a ∷ rest) = cond (test a) 0 (suc (first_index test rest))

-- 1: an input grid's size breaks the bounds.
abbrev pub out_of_bounds : Size → Bool
out_of_bounds size = not (in_bounds size)

-- 2: two input grids differ in rows or columns.
abbrev pub differs : Size → Size → Bool
differs a b = not (same_size a b)

abbrev pub other_than : ℕ → ℕ → Bool
other_than n length = not (eqb length n)

-- 3: a lent slice has not its length: n, or n + 1 for the queue.
abbrev pub wrong_length : Size → List ℕ → Lent → Bool
wrong_length size inputs lent = any (other_than (count size)) (inputs ++ lent.lengths) || other_than (suc (count size)) lent.queue_length

-- These three, then the search's own tests. The first grid's size, those of the others, the lengths of the input slices, and what else is lent.
unfoldable pub shape : Size → List Size → List ℕ → Lent → List (Bool × Refusal) → List (Bool × Refusal)
shape size others inputs lent more =
    (any out_of_bounds (size ∷ others), number 1) ∷
    (any (differs size) others, number 2) ∷
    (wrong_length size inputs lent, number 3) ∷ more

-- 4: the cell size is not finite or not above 0.
abbrev pub bad_cell_size : Float → Bool × Refusal
bad_cell_size x = (not (finite x && lt plus_zero x), number 4)

-- 5: the limit is NaN.
abbrev pub nan_limit : Float → Bool × Refusal
nan_limit limit = (is_nan limit, number 5)

-- 5 in searches 7 and 8: also limit <= 0.
abbrev pub bad_budget : Float → Bool × Refusal
bad_budget limit = (is_nan limit || le limit plus_zero, number 5)

-- -0.0 is no negative time, and NaN is nodata.
abbrev pub below_zero : Float → Bool
below_zero time = lt time plus_zero

-- 6: a time with data is below 0, with the first such index.
abbrev pub negative_time : List Float → Bool × Refusal
negative_time times = (any below_zero times, number_at 6 (first_index below_zero times))
