-- Each promise decides the call: two calls that are given and lent the same answer the same and leave the same. Assumes nothing.
use mathlib.Core.List.{List}
use mathlib.Core.Path.{◌≡◌}
use Prim.Native.Nat.{ℕ}
use lib.Ieee.{Float}
use Rattle.rules.specs.declared.Size.{Size}
use Rattle.rules.specs.Sizes.{Outcome}
use Rattle.rules.proofs.Decided.{equation_decides}
use Rattle.calls.specs.Answer.{Answer}
use Rattle.calls.specs.Promise.{slice, Same}
use Rattle.calls.proofs.Promises.{promise_decides}
use Rattle.values.specs.Promise.{PromisedValues, ValueAtClosestTarget, ValueAtClosestTravelTarget, ValueAtClosestLessThanTravelTarget}

-- Two calls answer the same, and leave the same also in the buffer of distances.
pub record SameValues (r s : Answer) (answer₁ answer₂ distances₁ distances₂ : List Float) (marks₁ marks₂ queue₁ queue₂ : List ℕ) : Type 0 where
  pub same : Same r s answer₁ answer₂ marks₁ marks₂ queue₁ queue₂
  pub distances : distances₁ ≡ distances₂

-- Two calls that are given and lent the same, and keep the promise, are the same.
values_decided :
    (outcome : Outcome) {r s : Answer} {answer answer₁ answer₂ distances distances₁ distances₂ : List Float} {marks marks₁ marks₂ queue queue₁ queue₂ : List ℕ}
    → PromisedValues r (slice answer answer₁) (slice distances distances₁) (slice marks marks₁) (slice queue queue₁) outcome
    → PromisedValues s (slice answer answer₂) (slice distances distances₂) (slice marks marks₂) (slice queue queue₂) outcome
    → SameValues r s answer₁ answer₂ distances₁ distances₂ marks₁ marks₂ queue₁ queue₂
values_decided outcome p q = record { same = promise_decides outcome p.promised q.promised; distances = equation_decides p.distances_left q.distances_left }

-- ---- search 4

module _ (targets_size : Size) (targets : List ℕ) (values_size : Size) (values : List Float) where
  pub value_at_closest_target_decided :
      {r s : Answer} {answer answer₁ answer₂ distances distances₁ distances₂ : List Float} {marks marks₁ marks₂ queue queue₁ queue₂ : List ℕ}
      → ValueAtClosestTarget targets_size targets values_size values (slice answer answer₁) (slice distances distances₁) (slice marks marks₁) (slice queue queue₁) r
      → ValueAtClosestTarget targets_size targets values_size values (slice answer answer₂) (slice distances distances₂) (slice marks marks₂) (slice queue queue₂) s
      → SameValues r s answer₁ answer₂ distances₁ distances₂ marks₁ marks₂ queue₁ queue₂
  value_at_closest_target_decided = values_decided _

-- ---- searches 5 and 6

module _ (targets_size : Size) (targets : List ℕ) (times_size : Size) (times : List Float) (values_size : Size) (values : List Float) where
  pub value_at_closest_travel_target_decided :
      {r s : Answer} {answer answer₁ answer₂ distances distances₁ distances₂ : List Float} {marks marks₁ marks₂ queue queue₁ queue₂ : List ℕ}
      → ValueAtClosestTravelTarget targets_size targets times_size times values_size values (slice answer answer₁) (slice distances distances₁) (slice marks marks₁) (slice queue queue₁) r
      → ValueAtClosestTravelTarget targets_size targets times_size times values_size values (slice answer answer₂) (slice distances distances₂) (slice marks marks₂) (slice queue queue₂) s
      → SameValues r s answer₁ answer₂ distances₁ distances₂ marks₁ marks₂ queue₁ queue₂
  value_at_closest_travel_target_decided = values_decided _

  pub value_at_closest_less_than_travel_target_decided :
      (limit : Float) {r s : Answer} {answer answer₁ answer₂ distances distances₁ distances₂ : List Float} {marks marks₁ marks₂ queue queue₁ queue₂ : List ℕ}
      → ValueAtClosestLessThanTravelTarget targets_size targets times_size times values_size values limit (slice answer answer₁) (slice distances distances₁) (slice marks marks₁) (slice queue queue₁) r
      → ValueAtClosestLessThanTravelTarget targets_size targets times_size times values_size values limit (slice answer answer₂) (slice distances distances₂) (slice marks marks₂) (slice queue queue₂) s
      → SameValues r s answer₁ answer₂ distances₁ distances₂ marks₁ marks₂ queue₁ queue₂
  value_at_closest_less_than_travel_target_decided limit = values_decided _
