-- What the searches for sums promise. Definitions only.
use Rattle.std.specs.Prelude.{Bool, List, [], ◌∷◌, ◌≡◌, ℕ, Float, length}
use Rattle.binary32.specs.Numbers.{plus_zero}
use Rattle.rules.specs.declared.Size.{Size}
use Rattle.rules.specs.Sizes.{grid, Lent, Outcome, count}
use Rattle.rules.specs.Sums.{outcome_7, found_8, outcome_8}
use Rattle.calls.specs.Answer.{Answer}
use Rattle.calls.specs.Answer.{buffer_after}
use Rattle.calls.specs.Given.{lent}
use Rattle.calls.specs.Promise.{Slice, Promised}
use Rattle.sums.specs.FromAmounts.{Searching}

-- ---- 7: sum_within_travel_distance

-- What every search promises, and the same of the buffers of distances, of the listed cells, and of the marks for these and for the cells added
-- beside them (`adjacent`).
pub record PromisedSums (r : Answer) (answer distances : Slice Float) (marks listed adjacent queue : Slice ℕ) (outcome : Outcome) : Type 0 where
  pub promised : Promised r answer marks queue outcome
  pub distances_left : distances.after ≡ buffer_after plus_zero outcome distances.before
  pub listed_left : listed.after ≡ buffer_after 0 outcome listed.before
  pub adjacent_left : adjacent.after ≡ buffer_after 0 outcome adjacent.before

-- The lengths of what search 7 is lent.
abbrev pub lengths_7 : Slice Float → Slice Float → Slice ℕ → Slice ℕ → Slice ℕ → Slice ℕ → Lent
lengths_7 answer distances marks listed adjacent queue =
    lent (length answer.before ∷ length distances.before ∷ length marks.before ∷ length listed.before ∷ length adjacent.before ∷ []) (length queue.before)

abbrev pub SumWithinTravelDistance : Size → List ℕ → Size → List Float → Size → List Float → Float → Bool → Slice Float → Slice Float → Slice ℕ → Slice ℕ → Slice ℕ → Slice ℕ → Answer → Type 0
SumWithinTravelDistance mask_size mask times_size times values_size values limit include_adjacent answer distances marks listed adjacent queue r =
    PromisedSums r answer distances marks listed adjacent queue (outcome_7 (grid mask_size mask) (grid times_size times) (grid values_size values) limit include_adjacent (lengths_7 answer distances marks listed adjacent queue))

-- ---- 8: sum_targets_within_travel_distance

-- What every search promises, and the same of the buffers of distances and of the cells that have gained.
pub record PromisedGains (r : Answer) (answer distances : Slice Float) (marks added queue : Slice ℕ) (outcome : Outcome) : Type 0 where
  pub promised : Promised r answer marks queue outcome
  pub distances_left : distances.after ≡ buffer_after plus_zero outcome distances.before
  pub added_left : added.after ≡ buffer_after 0 outcome added.before

-- The lengths of what search 8 is lent.
abbrev pub lengths_8 : Slice Float → Slice Float → Slice ℕ → Slice ℕ → Slice ℕ → Lent
lengths_8 answer distances marks added queue =
    lent (length answer.before ∷ length distances.before ∷ length marks.before ∷ length added.before ∷ []) (length queue.before)

abbrev pub SumTargetsWithinTravelDistance : Size → List Float → Size → List Float → Float → Slice Float → Slice Float → Slice ℕ → Slice ℕ → Slice ℕ → Answer → Type 0
SumTargetsWithinTravelDistance times_size times amounts_size amounts limit answer distances marks added queue r =
    PromisedGains r answer distances marks added queue (outcome_8 (grid times_size times) (grid amounts_size amounts) limit (lengths_8 answer distances marks added queue))

-- Search 8 once no test refuses.
pub record Sums (size : Size) (times amounts : List Float) (limit : Float) (answer distances : List Float) (marks added queue : List ℕ) : Type 0 where
  pub asked : Searching size times limit answer distances marks added queue
  pub amounts_length : length amounts ≡ count size

-- The takes and the gains of all runs.
unfoldable pub summed : Size → List Float → List Float → Float → Outcome
summed size times amounts limit = found_8 (grid size times) (grid size amounts) limit
