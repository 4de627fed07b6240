-- Each promise decides the call: two calls that are given and lent the same answer the same and leave the same. Assumes nothing.
use mathlib.Core.List.{List}
use Prim.Native.Nat.{ℕ}
use lib.Ieee.{Float}
use Rattle.rules.specs.declared.BarrierDiagonals.{BarrierDiagonals}
use Rattle.rules.specs.declared.Size.{Size}
use Rattle.rules.specs.declared.Spacing.{Spacing}
use Rattle.calls.specs.Answer.{Answer}
use Rattle.calls.specs.Promise.{slice, Same}
use Rattle.calls.proofs.Promises.{promise_decides}
use Rattle.distances.specs.Promise.{DistancesUpTo, Distance, DistanceWithObstacles, TravelDistancesUpTo, TravelDistance}

module _
    {r s : Answer} {answer answer₁ answer₂ : List Float} {marks marks₁ marks₂ queue queue₁ queue₂ : List ℕ}
    (size : Size) (targets : List ℕ)
  where
    pub distances_up_to_decided :
        (spacing : Spacing) → DistancesUpTo size targets spacing (slice answer answer₁) (slice marks marks₁) (slice queue queue₁) r
        → DistancesUpTo size targets spacing (slice answer answer₂) (slice marks marks₂) (slice queue queue₂) s
        → Same r s answer₁ answer₂ marks₁ marks₂ queue₁ queue₂
    distances_up_to_decided spacing = promise_decides _

    pub distance_decided :
        (cell_size : Float) → Distance size targets cell_size (slice answer answer₁) (slice marks marks₁) (slice queue queue₁) r
        → Distance size targets cell_size (slice answer answer₂) (slice marks marks₂) (slice queue queue₂) s
        → Same r s answer₁ answer₂ marks₁ marks₂ queue₁ queue₂
    distance_decided cell_size = promise_decides _

    pub distance_with_obstacles_decided :
        (obstacles_size : Size) (obstacles : List ℕ) (spacing : Spacing) (diagonals : BarrierDiagonals)
        → DistanceWithObstacles size targets obstacles_size obstacles spacing diagonals (slice answer answer₁) (slice marks marks₁) (slice queue queue₁) r
        → DistanceWithObstacles size targets obstacles_size obstacles spacing diagonals (slice answer answer₂) (slice marks marks₂) (slice queue queue₂) s
        → Same r s answer₁ answer₂ marks₁ marks₂ queue₁ queue₂
    distance_with_obstacles_decided obstacles_size obstacles spacing diagonals = promise_decides _

    pub travel_distances_up_to_decided :
        (times_size : Size) (times : List Float) (cap : Float)
        → TravelDistancesUpTo size targets times_size times cap (slice answer answer₁) (slice marks marks₁) (slice queue queue₁) r
        → TravelDistancesUpTo size targets times_size times cap (slice answer answer₂) (slice marks marks₂) (slice queue queue₂) s
        → Same r s answer₁ answer₂ marks₁ marks₂ queue₁ queue₂
    travel_distances_up_to_decided times_size times cap = promise_decides _

    pub travel_distance_decided :
        (times_size : Size) (times : List Float)
        → TravelDistance size targets times_size times (slice answer answer₁) (slice marks marks₁) (slice queue queue₁) r
        → TravelDistance size targets times_size times (slice answer answer₂) (slice marks marks₂) (slice queue queue₂) s
        → Same r s answer₁ answer₂ marks₁ marks₂ queue₁ queue₂
    travel_distance_decided times_size times = promise_decides _
