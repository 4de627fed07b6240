-- Each export is decided: two calls that are given and lent the same report the same and leave the same. Assumes nothing.
use mathlib.Core.Path.{◌≡◌, ap, ◌∙◌}
use mathlib.Core.List.{List}
use Prim.Native.Nat.{ℕ}
use lib.IntN.{ℤ}
use lib.Ieee.{Float}
use Rattle.binary32.specs.Numbers.{plus_zero}
use Rattle.rules.proofs.Decided.{equation_decides}
use Rattle.calls.specs.Answer.{Answer}
use Rattle.calls.specs.Answer.{Told, told}
use Rattle.calls.specs.Promise.{slice, Same}
use Rattle.distances.proofs.Decided.{distances_up_to_decided, distance_with_obstacles_decided, travel_distances_up_to_decided}
use Rattle.values.proofs.Decided.{SameValues, value_at_closest_target_decided, value_at_closest_travel_target_decided, value_at_closest_less_than_travel_target_decided}
use Rattle.sums.proofs.Decided.{SameSums, sum_within_decided, SameGains, sum_targets_decided}
use Rattle.gridfile.specs.Request.{diagonals_of}
use Rattle.haul_c.specs.Export.{status, takes_after, index_after, Exported, size, spacing, yes, ExportedUpTo, ExportedObstacles, ExportedTravelUpTo, ExportedClosest, ExportedClosestTravel, ExportedClosestLessThan, ExportedSumWithin, ExportedSumTargets}

-- Two exports report the same: the status, the takes and the index, and what the searches that they report left, which with what these answered is
-- the search's own `Same`.
pub record SameReport (Left : Answer → Answer → Type 0) (takes₁ takes₂ index₁ index₂ r s : ℕ) : Type 0 where
  pub status : r ≡ s
  pub takes : takes₁ ≡ takes₂
  pub index : index₁ ≡ index₂
  pub first : Answer
  pub second : Answer
  pub left : Left first second

-- Where the search's promise decides its call, it decides the report. Proof: the answers are one, so that both reports are of what it tells.
exported_decides :
    {P Q : Answer → Type 0} {Left : Answer → Answer → Type 0} {takes takes₁ takes₂ index index₁ index₂ r s : ℕ}
    (p : Exported P takes takes₁ index index₁ r) (q : Exported Q takes takes₂ index index₂ s) → Left p.answer q.answer → p.answer ≡ q.answer
    → SameReport Left takes₁ takes₂ index₁ index₂ r s
exported_decides {takes = takes} {index = index} p q left said =
    let same = ap told said in
    record {
      status = equation_decides (p.reported.status_is ∙ ap status same) q.reported.status_is;
      takes = equation_decides (p.reported.takes_are ∙ ap (λ (t : Told). takes_after t takes) same) q.reported.takes_are;
      index = equation_decides (p.reported.index_is ∙ ap (λ (t : Told). index_after t index) same) q.reported.index_is;
      first = p.answer;
      second = q.answer;
      left = left;
    }

-- ---- searches 1, 2 and 3

module _
    {answer answer₁ answer₂ : List Float} {marks marks₁ marks₂ queue queue₁ queue₂ : List ℕ} {takes takes₁ takes₂ index index₁ index₂ r s : ℕ}
    (rows columns : ℤ) (targets : List ℕ)
  where
    pub exported_up_to_decides :
        (cell_size limit : Float)
        → ExportedUpTo rows columns targets cell_size limit (slice answer answer₁) (slice marks marks₁) (slice queue queue₁) takes takes₁ index index₁ r
        → ExportedUpTo rows columns targets cell_size limit (slice answer answer₂) (slice marks marks₂) (slice queue queue₂) takes takes₂ index index₂ s
        → SameReport (λ a b. Same a b answer₁ answer₂ marks₁ marks₂ queue₁ queue₂) takes₁ takes₂ index₁ index₂ r s
    exported_up_to_decides cell_size limit p q =
        let left = distances_up_to_decided (size rows columns) targets (spacing cell_size limit) p.promised q.promised in
        exported_decides p q left left.said

    pub exported_obstacles_decides :
        (obstacle_rows obstacle_columns : ℤ) (obstacles : List ℕ) (cell_size : Float) (diagonals : ℕ)
        → ExportedObstacles rows columns targets obstacle_rows obstacle_columns obstacles cell_size diagonals (slice answer answer₁) (slice marks marks₁) (slice queue queue₁) takes takes₁ index index₁ r
        → ExportedObstacles rows columns targets obstacle_rows obstacle_columns obstacles cell_size diagonals (slice answer answer₂) (slice marks marks₂) (slice queue queue₂) takes takes₂ index index₂ s
        → SameReport (λ a b. Same a b answer₁ answer₂ marks₁ marks₂ queue₁ queue₂) takes₁ takes₂ index₁ index₂ r s
    exported_obstacles_decides obstacle_rows obstacle_columns obstacles cell_size diagonals p q =
        let left = distance_with_obstacles_decided (size rows columns) targets (size obstacle_rows obstacle_columns) obstacles (spacing cell_size plus_zero) (diagonals_of diagonals) p.promised q.promised in
        exported_decides p q left left.said

    pub exported_travel_up_to_decides :
        (time_rows time_columns : ℤ) (times : List Float) (limit : Float)
        → ExportedTravelUpTo rows columns targets time_rows time_columns times limit (slice answer answer₁) (slice marks marks₁) (slice queue queue₁) takes takes₁ index index₁ r
        → ExportedTravelUpTo rows columns targets time_rows time_columns times limit (slice answer answer₂) (slice marks marks₂) (slice queue queue₂) takes takes₂ index index₂ s
        → SameReport (λ a b. Same a b answer₁ answer₂ marks₁ marks₂ queue₁ queue₂) takes₁ takes₂ index₁ index₂ r s
    exported_travel_up_to_decides time_rows time_columns times limit p q =
        let left = travel_distances_up_to_decided (size rows columns) targets (size time_rows time_columns) times limit p.promised q.promised in
        exported_decides p q left left.said

-- ---- searches 4, 5 and 6

module _
    {answer answer₁ answer₂ distances distances₁ distances₂ : List Float} {marks marks₁ marks₂ queue queue₁ queue₂ : List ℕ} {takes takes₁ takes₂ index index₁ index₂ r s : ℕ}
    (rows columns : ℤ) (targets : List ℕ) (value_rows value_columns : ℤ) (values : List Float)
  where
    pub exported_closest_decides :
        ExportedClosest rows columns targets value_rows value_columns values (slice answer answer₁) (slice distances distances₁) (slice marks marks₁) (slice queue queue₁) takes takes₁ index index₁ r
        → ExportedClosest rows columns targets value_rows value_columns values (slice answer answer₂) (slice distances distances₂) (slice marks marks₂) (slice queue queue₂) takes takes₂ index index₂ s
        → SameReport (λ a b. SameValues a b answer₁ answer₂ distances₁ distances₂ marks₁ marks₂ queue₁ queue₂) takes₁ takes₂ index₁ index₂ r s
    exported_closest_decides p q =
        let left = value_at_closest_target_decided (size rows columns) targets (size value_rows value_columns) values p.promised q.promised in
        exported_decides p q left left.same.said

    pub exported_closest_travel_decides :
        (time_rows time_columns : ℤ) (times : List Float)
        → ExportedClosestTravel rows columns targets time_rows time_columns times value_rows value_columns values (slice answer answer₁) (slice distances distances₁) (slice marks marks₁) (slice queue queue₁) takes takes₁ index index₁ r
        → ExportedClosestTravel rows columns targets time_rows time_columns times value_rows value_columns values (slice answer answer₂) (slice distances distances₂) (slice marks marks₂) (slice queue queue₂) takes takes₂ index index₂ s
        → SameReport (λ a b. SameValues a b answer₁ answer₂ distances₁ distances₂ marks₁ marks₂ queue₁ queue₂) takes₁ takes₂ index₁ index₂ r s
    exported_closest_travel_decides time_rows time_columns times p q =
        let left = value_at_closest_travel_target_decided (size rows columns) targets (size time_rows time_columns) times (size value_rows value_columns) values p.promised q.promised in
        exported_decides p q left left.same.said

    pub exported_closest_less_than_decides :
        (time_rows time_columns : ℤ) (times : List Float) (limit : Float)
        → ExportedClosestLessThan rows columns targets time_rows time_columns times value_rows value_columns values limit (slice answer answer₁) (slice distances distances₁) (slice marks marks₁) (slice queue queue₁) takes takes₁ index index₁ r
        → ExportedClosestLessThan rows columns targets time_rows time_columns times value_rows value_columns values limit (slice answer answer₂) (slice distances distances₂) (slice marks marks₂) (slice queue queue₂) takes takes₂ index index₂ s
        → SameReport (λ a b. SameValues a b answer₁ answer₂ distances₁ distances₂ marks₁ marks₂ queue₁ queue₂) takes₁ takes₂ index₁ index₂ r s
    exported_closest_less_than_decides time_rows time_columns times limit p q =
        let left = value_at_closest_less_than_travel_target_decided (size rows columns) targets (size time_rows time_columns) times (size value_rows value_columns) values limit p.promised q.promised in
        exported_decides p q left left.same.said

-- ---- search 7

module _
    {answer answer₁ answer₂ distances distances₁ distances₂ : List Float} {marks marks₁ marks₂ listed listed₁ listed₂ adjacent adjacent₁ adjacent₂ queue queue₁ queue₂ : List ℕ} {takes takes₁ takes₂ index index₁ index₂ r s : ℕ}
    (rows columns : ℤ) (mask : List ℕ) (time_rows time_columns : ℤ) (times : List Float) (value_rows value_columns : ℤ) (values : List Float) (limit : Float) (include_adjacent : ℕ)
  where
    pub exported_sum_within_decides :
        ExportedSumWithin rows columns mask time_rows time_columns times value_rows value_columns values limit include_adjacent (slice answer answer₁) (slice distances distances₁) (slice marks marks₁) (slice listed listed₁) (slice adjacent adjacent₁) (slice queue queue₁) takes takes₁ index index₁ r
        → ExportedSumWithin rows columns mask time_rows time_columns times value_rows value_columns values limit include_adjacent (slice answer answer₂) (slice distances distances₂) (slice marks marks₂) (slice listed listed₂) (slice adjacent adjacent₂) (slice queue queue₂) takes takes₂ index index₂ s
        → SameReport (λ a b. SameSums a b answer₁ answer₂ distances₁ distances₂ marks₁ marks₂ listed₁ listed₂ adjacent₁ adjacent₂ queue₁ queue₂) takes₁ takes₂ index₁ index₂ r s
    exported_sum_within_decides p q =
        let left = sum_within_decided (size rows columns) mask (size time_rows time_columns) times (size value_rows value_columns) values limit (yes include_adjacent) p.promised q.promised in
        exported_decides p q left left.same.said

-- ---- search 8

module _
    {answer answer₁ answer₂ distances distances₁ distances₂ : List Float} {marks marks₁ marks₂ added added₁ added₂ queue queue₁ queue₂ : List ℕ} {takes takes₁ takes₂ index index₁ index₂ r s : ℕ}
    (rows columns : ℤ) (times : List Float) (amount_rows amount_columns : ℤ) (amounts : List Float) (limit : Float)
  where
    pub exported_sum_targets_decides :
        ExportedSumTargets rows columns times amount_rows amount_columns amounts limit (slice answer answer₁) (slice distances distances₁) (slice marks marks₁) (slice added added₁) (slice queue queue₁) takes takes₁ index index₁ r
        → ExportedSumTargets rows columns times amount_rows amount_columns amounts limit (slice answer answer₂) (slice distances distances₂) (slice marks marks₂) (slice added added₂) (slice queue queue₂) takes takes₂ index index₂ s
        → SameReport (λ a b. SameGains a b answer₁ answer₂ distances₁ distances₂ marks₁ marks₂ added₁ added₂ queue₁ queue₂) takes₁ takes₂ index₁ index₂ r s
    exported_sum_targets_decides p q =
        let left = sum_targets_decided (size rows columns) times (size amount_rows amount_columns) amounts limit p.promised q.promised in
        exported_decides p q left left.same.said
