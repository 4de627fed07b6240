-- What an export writes and gives for what a search tells. Definitions only.
use Rattle.std.specs.Prelude.{Bool, not, List, ◌≡◌, ℕ, eqb, ℤ, Float}
use Rattle.binary32.specs.Numbers.{plus_zero}
use Rattle.rules.specs.declared.Size.{Size}
use Rattle.rules.specs.declared.Spacing.{Spacing}
use Rattle.rules.specs.Sizes.{number, number_at}
use Rattle.calls.specs.Answer.{Answer}
use Rattle.calls.specs.Answer.{Told, refusal, takes, told}
use Rattle.calls.specs.Promise.{Slice}
use Rattle.distances.specs.Promise.{DistancesUpTo, DistanceWithObstacles, TravelDistancesUpTo}
use Rattle.values.specs.Promise.{ValueAtClosestTarget, ValueAtClosestTravelTarget, ValueAtClosestLessThanTravelTarget}
use Rattle.sums.specs.Promise.{SumWithinTravelDistance, SumTargetsWithinTravelDistance}
use Rattle.gridfile.specs.Request.{diagonals_of}

-- 0, or the refusal's number.
abbrev pub status : Told → ℕ
status (takes t) = 0
status (refusal (number k)) = k
status (refusal (number_at k i)) = k

-- The takes are written on acceptance only.
abbrev pub takes_after : Told → ℕ → ℕ
takes_after (takes t) before = t
takes_after (refusal r) before = before

-- The index is written only with a refusal that has one.
abbrev pub index_after : Told → ℕ → ℕ
index_after (takes t) before = before
index_after (refusal (number k)) before = before
index_after (refusal (number_at k i)) before = i

-- What the search tells is in the status, the takes and the index.
pub record Reported (told : Told) (takes takes' index index' r : ℕ) : Type 0 where
  pub status_is : r ≡ status told
  pub takes_are : takes' ≡ takes_after told takes
  pub index_is : index' ≡ index_after told index

-- The search kept its promise with some answer, and that answer was reported.
pub record Exported (Promise : Answer → Type 0) (takes takes' index index' r : ℕ) : Type 0 where
  pub answer : Answer
  pub promised : Promise answer
  pub reported : Reported (told answer) takes takes' index index' r

-- The size, and the spacing, of numbers that an export is passed.
abbrev pub size : ℤ → ℤ → Size
size rows columns = record { rows = rows; cols = columns }

abbrev pub spacing : Float → Float → Spacing
spacing cell_size limit = record { cell_size = cell_size; limit = limit }

-- 0 is no, any other number yes.
abbrev pub yes : ℕ → Bool
yes flag = not (eqb flag 0)

-- ---- the eight exports: each keeps the promise of its search, for the grids and slices that it is passed, and reports the answer

-- 1: haul_distances_up_to.
abbrev pub ExportedUpTo : ℤ → ℤ → List ℕ → Float → Float → Slice Float → Slice ℕ → Slice ℕ → ℕ → ℕ → ℕ → ℕ → ℕ → Type 0
ExportedUpTo rows columns targets cell_size limit answer marks queue =
    Exported (DistancesUpTo (size rows columns) targets (spacing cell_size limit) answer marks queue)

-- 2: haul_distance_with_obstacles. It is passed no limit, as the search never reads it.
abbrev pub ExportedObstacles : ℤ → ℤ → List ℕ → ℤ → ℤ → List ℕ → Float → ℕ → Slice Float → Slice ℕ → Slice ℕ → ℕ → ℕ → ℕ → ℕ → ℕ → Type 0
ExportedObstacles rows columns targets obstacle_rows obstacle_columns obstacles cell_size diagonals answer marks queue =
    Exported (DistanceWithObstacles (size rows columns) targets (size obstacle_rows obstacle_columns) obstacles (spacing cell_size plus_zero) (diagonals_of diagonals) answer marks queue)

-- 3: haul_travel_distances_up_to.
abbrev pub ExportedTravelUpTo : ℤ → ℤ → List ℕ → ℤ → ℤ → List Float → Float → Slice Float → Slice ℕ → Slice ℕ → ℕ → ℕ → ℕ → ℕ → ℕ → Type 0
ExportedTravelUpTo rows columns targets time_rows time_columns times limit answer marks queue =
    Exported (TravelDistancesUpTo (size rows columns) targets (size time_rows time_columns) times limit answer marks queue)

-- 4: haul_value_at_closest_target.
abbrev pub ExportedClosest : ℤ → ℤ → List ℕ → ℤ → ℤ → List Float → Slice Float → Slice Float → Slice ℕ → Slice ℕ → ℕ → ℕ → ℕ → ℕ → ℕ → Type 0
ExportedClosest rows columns targets value_rows value_columns values answer distances marks queue =
    Exported (ValueAtClosestTarget (size rows columns) targets (size value_rows value_columns) values answer distances marks queue)

-- 5: haul_value_at_closest_travel_target.
abbrev pub ExportedClosestTravel : ℤ → ℤ → List ℕ → ℤ → ℤ → List Float → ℤ → ℤ → List Float → Slice Float → Slice Float → Slice ℕ → Slice ℕ → ℕ → ℕ → ℕ → ℕ → ℕ → Type 0
ExportedClosestTravel rows columns targets time_rows time_columns times value_rows value_columns values answer distances marks queue =
    Exported (ValueAtClosestTravelTarget (size rows columns) targets (size time_rows time_columns) times (size value_rows value_columns) values answer distances marks queue)

-- 6: haul_value_at_closest_less_than_travel_target.
abbrev pub ExportedClosestLessThan : ℤ → ℤ → List ℕ → ℤ → ℤ → List Float → ℤ → ℤ → List Float → Float → Slice Float → Slice Float → Slice ℕ → Slice ℕ → ℕ → ℕ → ℕ → ℕ → ℕ → Type 0
ExportedClosestLessThan rows columns targets time_rows time_columns times value_rows value_columns values limit answer distances marks queue =
    Exported (ValueAtClosestLessThanTravelTarget (size rows columns) targets (size time_rows time_columns) times (size value_rows value_columns) values limit answer distances marks queue)

-- 7: haul_sum_within_travel_distance.
abbrev pub ExportedSumWithin : ℤ → ℤ → List ℕ → ℤ → ℤ → List Float → ℤ → ℤ → List Float → Float → ℕ → Slice Float → Slice Float → Slice ℕ → Slice ℕ → Slice ℕ → Slice ℕ → ℕ → ℕ → ℕ → ℕ → ℕ → Type 0
ExportedSumWithin rows columns mask time_rows time_columns times value_rows value_columns values limit include_adjacent answer distances marks listed adjacent queue =
    Exported (SumWithinTravelDistance (size rows columns) mask (size time_rows time_columns) times (size value_rows value_columns) values limit (yes include_adjacent) answer distances marks listed adjacent queue)

-- 8: haul_sum_targets_within_travel_distance.
abbrev pub ExportedSumTargets : ℤ → ℤ → List Float → ℤ → ℤ → List Float → Float → Slice Float → Slice Float → Slice ℕ → Slice ℕ → Slice ℕ → ℕ → ℕ → ℕ → ℕ → ℕ → Type 0
ExportedSumTargets rows columns times amount_rows amount_columns amounts limit answer distances marks added queue =
    Exported (SumTargetsWithinTravelDistance (size rows columns) times (size amount_rows amount_columns) amounts limit answer distances marks added queue)
