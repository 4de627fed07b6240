-- What the code's answers say in document 01's numbers, and what a call leaves in the lent slices. Definitions only.
use Rattle.std.specs.Prelude.{Bool, false, cond, List, ℕ, eqb, length, replicate, Float}
use Rattle.std.specs.Float.{nan}
use Rattle.rules.specs.Sizes as rules
use Rattle.rules.specs.Sizes.{number, number_at, passes, stops, Outcome, refused, accepted}
pub use Rattle.calls.specs.declared.answer.Refusal.{Refusal}
pub use Rattle.calls.specs.declared.answer.Refusal.TheVariants.{SizeOutOfBounds, SizesDiffer, WrongLength, BadCellSize, BadLimit, NegativeTime, OverBudget}
use Rattle.calls.specs.declared.answer.Counts.{Counts}
use Rattle.std.specs.declared.result.Result.{Result}
pub use Rattle.std.specs.Prelude.{Ok, Err}

-- ---- the code's results

-- What the tests of a call come to: they pass, or the first that holds refuses.
abbrev pub Judged : Type 0
Judged = Result (Unit {0}) Refusal

-- What a search answers.
abbrev pub Answer : Type 0
Answer = Result Counts Refusal

-- Document 01's number for each refusal, with the index for 6 and 7. Every promise goes through this definition.
abbrev pub refusal_number : Refusal → rules.Refusal
refusal_number SizeOutOfBounds = number 1
refusal_number SizesDiffer = number 2
refusal_number WrongLength = number 3
refusal_number BadCellSize = number 4
refusal_number BadLimit = number 5
refusal_number (NegativeTime i) = number_at 6 i
refusal_number (OverBudget i) = number_at 7 i

-- The same of what the tests come to.
abbrev pub judged_as : Judged → rules.Judged
judged_as (Ok passed) = passes
judged_as (Err refusal) = stops (refusal_number refusal)

-- What a call says: a refusal, or the takes.
pub data Told : Type 0 where
  refusal : rules.Refusal → Told
  takes : ℕ → Told

-- What the code's answer says.
abbrev pub told : Answer → Told
told (Ok counts) = takes counts.takes
told (Err r) = refusal (refusal_number r)

-- What an outcome of the rules says.
abbrev pub tell : Outcome → Told
tell (refused r) = refusal r
tell (accepted t grid) = takes t

-- ---- the lent slices

-- Each number but 7 writes to no lent slice.
abbrev pub writes : rules.Refusal → Bool
writes (number k) = false
writes (number_at k i) = eqb k 7

-- The answer slice: after 7 it is NaN in each cell.
abbrev pub answer_after : Outcome → List Float → List Float
answer_after (refused r) before = cond (writes r) (replicate (length before) nan) before
answer_after (accepted t grid) before = grid

-- A work buffer: after 7 and after acceptance it is all zero.
abbrev pub buffer_after : {A : Type 0} → A → Outcome → List A → List A
buffer_after zero (refused r) before = cond (writes r) (replicate (length before) zero) before
buffer_after zero (accepted t grid) before = replicate (length before) zero
