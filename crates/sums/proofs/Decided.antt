-- From the promises alone: they decide the calls, and the takes of each start are within the square. Assumes nothing.
use mathlib.Core.Bool.{Bool}
use mathlib.Core.List.{List}
use mathlib.Core.Path.{◌≡◌, refl, sym, ◌∙◌}
use Prim.Native.Nat.{ℕ}
use lib.Dec.{T}
use lib.Ieee.{Float, nan, binary32, fits}
use lib.ListN.{get_or}
use Rattle.rules.specs.declared.Size.{Size}
use Rattle.rules.specs.Sizes.{grid, Judged, passes, stops, accepted, unless}
use Rattle.rules.specs.Sums.{total_takes, from_mask_cell, runs_7, sums, refusals_7, refusal_7, outcome_7, from_amount, runs_8, gains, refusals_8, outcome_8}
use Rattle.rules.proofs.Decided.{equation_decides}
use Rattle.rules.proofs.Tests.{never}
use Rattle.rules.proofs.Inputs.{AcceptedTimes, AcceptedBudget}
use Rattle.rules.proofs.Accepted.{accepted_7, accepted_8}
use Rattle.rules.proofs.Squares.{mask_cell_ends, amount_ends}
use Rattle.rules.proofs.Totals.{total_takes_7, total_takes_8}
use Rattle.calls.specs.Answer.{Answer}
use Rattle.calls.specs.Answer.{takes, told, tell}
use Rattle.calls.specs.Promise.{Slice, slice, Same}
use Rattle.calls.proofs.Promises.{promise_decides, accepted_found}
use Rattle.sums.specs.Squares.{WithinSquares}
use Rattle.sums.specs.Promise.{lengths_7, SumWithinTravelDistance, lengths_8, SumTargetsWithinTravelDistance}

-- ---- search 7

-- Two calls answer the same, and leave the same also in the buffers of distances, of the listed cells and of the marks (`adjacent`).
pub record SameSums (r s : Answer) (answer₁ answer₂ distances₁ distances₂ : List Float) (marks₁ marks₂ listed₁ listed₂ adjacent₁ adjacent₂ queue₁ queue₂ : List ℕ) : Type 0 where
  pub same : Same r s answer₁ answer₂ marks₁ marks₂ queue₁ queue₂
  pub distances : distances₁ ≡ distances₂
  pub listed : listed₁ ≡ listed₂
  pub adjacent : adjacent₁ ≡ adjacent₂

-- Where the takes are told, neither the tests nor refusal 7 applied.
told_past : (first second : Judged) (found : ℕ) (answer : List Float) (t : ℕ) → takes t ≡ tell (unless first (λ _. unless second (λ _. accepted found answer))) → (first ≡ passes) × (t ≡ found)
told_past passes passes found answer t e = (refl, cc)
told_past passes (stops refusal) found answer t e = never cc
told_past (stops refusal) second found answer t e = never cc

module _ (mask_size : Size) (mask : List ℕ) (times_size : Size) (times : List Float) (values_size : Size) (values : List Float) (limit : Float) (include_adjacent : Bool) where
  pub sum_within_decided :
      {r s : Answer} {answer answer₁ answer₂ distances distances₁ distances₂ : List Float}
      {marks marks₁ marks₂ listed listed₁ listed₂ adjacent adjacent₁ adjacent₂ queue queue₁ queue₂ : List ℕ}
      → SumWithinTravelDistance mask_size mask times_size times values_size values limit include_adjacent
      (slice answer answer₁) (slice distances distances₁) (slice marks marks₁) (slice listed listed₁) (slice adjacent adjacent₁) (slice queue queue₁) r
      → SumWithinTravelDistance mask_size mask times_size times values_size values limit include_adjacent
      (slice answer answer₂) (slice distances distances₂) (slice marks marks₂) (slice listed listed₂) (slice adjacent adjacent₂) (slice queue queue₂) s
      → SameSums r s answer₁ answer₂ distances₁ distances₂ marks₁ marks₂ listed₁ listed₂ adjacent₁ adjacent₂ queue₁ queue₂
  sum_within_decided p q = record {
    same = promise_decides _ p.promised q.promised;
    distances = equation_decides p.distances_left q.distances_left;
    listed = equation_decides p.listed_left q.listed_left;
    adjacent = equation_decides p.adjacent_left q.adjacent_left;
  }

  pub sum_within_squares :
      (answer distances : Slice Float) (marks listed adjacent queue : Slice ℕ) (r : Answer) (t : ℕ)
      → ((c : ℕ) → T (fits binary32 (get_or times c nan)))
      → SumWithinTravelDistance mask_size mask times_size times values_size values limit include_adjacent answer distances marks listed adjacent queue r → told r ≡ takes t
      → WithinSquares (runs_7 (grid mask_size mask) (grid times_size times)) (from_mask_cell (grid times_size times)) t
  unfolding outcome_7 from_mask_cell
  sum_within_squares answer distances marks listed adjacent queue r t times_held promise said =
      let of_mask = grid mask_size mask in
      let of_times = grid times_size times in
      let of_values = grid values_size values in
      let runs = runs_7 of_mask of_times in
      let (passed, same) = told_past (refusals_7 of_mask of_times of_values limit (lengths_7 answer distances marks listed adjacent queue)) (refusal_7 of_times limit runs)
      (total_takes runs) (sums of_times of_values limit include_adjacent runs) t (sym said ∙ promise.promised.says) in
      let (mask_bounds, bounds, number, above, none_negative) = accepted_7 of_mask of_times of_values limit (lengths_7 answer distances marks listed adjacent queue) passed in
      let times_good : AcceptedTimes of_times = record { held = times_held; none_negative = none_negative } in
      record {
        together = same ∙ total_takes_7 of_times bounds times_good of_mask mask_bounds;
        each = λ start. (mask_cell_ends of_times start times_good).takes_within_square;
      }

-- ---- search 8

-- Two calls answer the same, and leave the same also in the buffers of distances and of the cells that have gained.
pub record SameGains (r s : Answer) (answer₁ answer₂ distances₁ distances₂ : List Float) (marks₁ marks₂ added₁ added₂ queue₁ queue₂ : List ℕ) : Type 0 where
  pub same : Same r s answer₁ answer₂ marks₁ marks₂ queue₁ queue₂
  pub distances : distances₁ ≡ distances₂
  pub added : added₁ ≡ added₂

module _ (times_size : Size) (times : List Float) (amounts_size : Size) (amounts : List Float) (limit : Float) where
  pub sum_targets_decided :
      {r s : Answer} {answer answer₁ answer₂ distances distances₁ distances₂ : List Float} {marks marks₁ marks₂ added added₁ added₂ queue queue₁ queue₂ : List ℕ}
      → SumTargetsWithinTravelDistance times_size times amounts_size amounts limit (slice answer answer₁) (slice distances distances₁) (slice marks marks₁) (slice added added₁) (slice queue queue₁) r
      → SumTargetsWithinTravelDistance times_size times amounts_size amounts limit (slice answer answer₂) (slice distances distances₂) (slice marks marks₂) (slice added added₂) (slice queue queue₂) s
      → SameGains r s answer₁ answer₂ distances₁ distances₂ marks₁ marks₂ added₁ added₂ queue₁ queue₂
  sum_targets_decided p q = record {
    same = promise_decides _ p.promised q.promised;
    distances = equation_decides p.distances_left q.distances_left;
    added = equation_decides p.added_left q.added_left;
  }

  pub sum_targets_within_squares :
      (answer distances : Slice Float) (marks added queue : Slice ℕ) (r : Answer) (t : ℕ)
      → ((c : ℕ) → T (fits binary32 (get_or times c nan))) → T (fits binary32 limit)
      → SumTargetsWithinTravelDistance times_size times amounts_size amounts limit answer distances marks added queue r → told r ≡ takes t
      → WithinSquares (runs_8 (grid times_size times) (grid amounts_size amounts) limit) (from_amount (grid times_size times) limit) t
  unfolding outcome_8 from_amount
  sum_targets_within_squares answer distances marks added queue r t times_held limit_held promise said =
      let of_times = grid times_size times in
      let of_amounts = grid amounts_size amounts in
      let refusals = refusals_8 of_times of_amounts limit (lengths_8 answer distances marks added queue) in
      let runs = runs_8 of_times of_amounts limit in
      let found = accepted_found refusals (total_takes runs) (gains of_times of_amounts limit runs) t promise.promised said in
      let (bounds, number, above, none_negative) = accepted_8 of_times of_amounts limit (lengths_8 answer distances marks added queue) found.passed in
      let times_good : AcceptedTimes of_times = record { held = times_held; none_negative = none_negative } in
      let limit_good : AcceptedBudget limit = record { held = limit_held; not_nan = number; above_zero = above } in
      record {
        together = found.takes_are ∙ total_takes_8 of_times bounds times_good limit limit_good of_amounts;
        each = λ start. (amount_ends of_times limit start times_good limit_good).takes_within_square;
      }
