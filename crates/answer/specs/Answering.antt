-- Document 01, "Grid file and program": what the program answers to a file. Definitions only.
use Rattle.std.specs.Prelude.{Bool, cond, List, [], ℕ, suc, ◌+◌, ◌*◌, ◌≤◌, leb, eqb, Float, length, replicate}
use Rattle.rules.specs.declared.BarrierDiagonals.{BarrierDiagonals}
use Rattle.rules.specs.declared.Size.{Size}
use Rattle.rules.specs.declared.Spacing.{Spacing}
use Rattle.rules.specs.Sizes.{grid, Lent, Outcome, refused, count}
use Rattle.rules.specs.Distances.{outcome_1, outcome_2, outcome_3}
use Rattle.rules.specs.Values.{outcome_4, outcome_5, outcome_6}
use Rattle.rules.specs.Sums.{outcome_7, outcome_8}
use Rattle.calls.specs.Given.{lent}
use Rattle.gridfile.specs.Request.{most_file_cells}
use Rattle.gridfile.specs.Contents.{Asked, refuses, asks, asked}
use Rattle.gridfile.specs.Answers.{Written, answer_file}

-- The program lends the answer and the work buffers of a search, so many slices, at the length n each, and the queue at n + 1.
abbrev pub lent_for : ℕ → Size → Lent
lent_for slices size = lent (replicate slices (count size)) (suc (count size))

-- The outcome of the search with this number, 1 to 8. Every grid of a file has the file's one size.
unfoldable pub searched : ℕ → BarrierDiagonals → Bool → Size → Spacing → (targets obstacles : List ℕ) → (times values : List Float) → Outcome
searched search diagonals adjacent size spacing targets obstacles times values =
    cond (eqb search 1) (outcome_1 (grid size targets) spacing (lent_for 2 size))
    (cond (eqb search 2) (outcome_2 (grid size targets) (grid size obstacles) spacing diagonals (lent_for 2 size))
    (cond (eqb search 3) (outcome_3 (grid size targets) (grid size times) spacing.limit (lent_for 2 size))
    (cond (eqb search 4) (outcome_4 (grid size targets) (grid size values) (lent_for 3 size))
    (cond (eqb search 5) (outcome_5 (grid size targets) (grid size times) (grid size values) (lent_for 3 size))
    (cond (eqb search 6) (outcome_6 (grid size targets) (grid size times) (grid size values) spacing.limit (lent_for 3 size))
    (cond (eqb search 7) (outcome_7 (grid size targets) (grid size times) (grid size values) spacing.limit adjacent (lent_for 5 size))
    (outcome_8 (grid size times) (grid size values) spacing.limit (lent_for 4 size))))))))

-- The program judges the file form first: 8 is given before anything else is looked at.
abbrev pub outcome_of : Asked → Outcome
outcome_of (refuses refusal) = refused refusal
outcome_of (asks search diagonals adjacent size spacing targets obstacles times values) = searched search diagonals adjacent size spacing targets obstacles times values

-- The bytes that the program writes for the bytes that it reads.
abbrev pub answer_to : List ℕ → List ℕ
answer_to input = answer_file (outcome_of (asked input))

-- The longest answer has 4,114 bytes: the status, the takes, and a grid of 1,024 cells.
abbrev pub longest : ℕ
longest = 4 + 11 + 3 + 4 * most_file_cells

-- An output that is shorter than the longest answer gets nothing, whatever the answer is.
abbrev pub bytes_for : List ℕ → ℕ → List ℕ
bytes_for input available = cond (leb longest available) (answer_to input) []

-- The bytes are at the front of the output, which is unchanged after them; their number is given, and is at most that of the longest answer.
pub record Sent (bytes before after : List ℕ) (count : ℕ) : Type 0 where
  pub written : Written bytes before after count
  pub short : count ≤ longest

-- What a call with an input and an output gives, and leaves in the output.
abbrev pub Answered : (input before after : List ℕ) → ℕ → Type 0
Answered input before after count = Sent (bytes_for input (length before)) before after count
