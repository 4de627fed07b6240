-- What the searches over distances promise. Definitions only.
use Rattle.std.specs.Prelude.{false, List, [], ◌∷◌, map, ◌≡◌, ℕ, Float, length}
use Rattle.fifo.specs.Machine.{finish, takes_of}
use Rattle.binary32.specs.Numbers.{plus_zero}
use Rattle.rules.specs.declared.Size.{Size}
use Rattle.rules.specs.declared.Spacing.{Spacing}
use Rattle.rules.specs.declared.BarrierDiagonals.{BarrierDiagonals}
use Rattle.rules.specs.Sizes.{grid, Lent, Outcome, accepted}
use Rattle.rules.specs.Numbers.{infinity}
use Rattle.rules.specs.Distances.{scaled, outcome_1, outcome_2, outcome_3}
use Rattle.calls.specs.Answer.{Answer}
use Rattle.calls.specs.Given.{lent}
use Rattle.calls.specs.Promise.{Slice, Promised}
use Rattle.spread.specs.declared.search.Search.{Search}
use Rattle.spread.specs.Nets.{Grids, net_of, carries}
use Rattle.spread.specs.Promise.{Spreads}

-- The lengths of what these searches are lent: the answer and the marks, and the queue.
abbrev pub lengths : Slice Float → Slice ℕ → Slice ℕ → Lent
lengths answer marks queue = lent (length answer.before ∷ length marks.before ∷ []) (length queue.before)

-- 1: distances_up_to.
abbrev pub DistancesUpTo : Size → List ℕ → Spacing → Slice Float → Slice ℕ → Slice ℕ → Answer → Type 0
DistancesUpTo size targets spacing answer marks queue r =
    Promised r answer marks queue (outcome_1 (grid size targets) spacing (lengths answer marks queue))

-- distance: the same, where the limit is infinity.
abbrev pub Distance : Size → List ℕ → Float → Slice Float → Slice ℕ → Slice ℕ → Answer → Type 0
Distance size targets cell_size = DistancesUpTo size targets (record { cell_size = cell_size; limit = infinity })

-- 2: distance_with_obstacles.
abbrev pub DistanceWithObstacles : Size → List ℕ → Size → List ℕ → Spacing → BarrierDiagonals → Slice Float → Slice ℕ → Slice ℕ → Answer → Type 0
DistanceWithObstacles targets_size targets obstacles_size obstacles spacing diagonals answer marks queue r =
    Promised r answer marks queue (outcome_2 (grid targets_size targets) (grid obstacles_size obstacles) spacing diagonals (lengths answer marks queue))

-- 3: travel_distances_up_to.
abbrev pub TravelDistancesUpTo : Size → List ℕ → Size → List Float → Float → Slice Float → Slice ℕ → Slice ℕ → Answer → Type 0
TravelDistancesUpTo targets_size targets times_size times cap answer marks queue r =
    Promised r answer marks queue (outcome_3 (grid targets_size targets) (grid times_size times) cap (lengths answer marks queue))

-- travel_distance: the same, where the cap is infinity.
abbrev pub TravelDistance : Size → List ℕ → Size → List Float → Slice Float → Slice ℕ → Slice ℕ → Answer → Type 0
TravelDistance targets_size targets times_size times = TravelDistancesUpTo targets_size targets times_size times infinity

-- ---- the search once no test refuses

-- What is lent for a grid of values, or of times, that the rule never reads.
abbrev pub unread : List Float
unread = plus_zero ∷ []

-- It can be spread, and no value goes along.
pub record Searches (search : Search) (of : Grids) (answer : List Float) (marks queue : List ℕ) : Type 0 where
  pub alone : carries search.rule ≡ false
  pub spreads : (carried : List Float) → Spreads search of answer carried marks queue

-- The takes of the net, and its distances.
unfoldable pub found : Search → Grids → Outcome
found search of =
    let net = net_of search of in
    accepted (takes_of net) (map (λ l. l.0) (finish net).labels)

-- The same, and the distances are multiplied by the cell size.
unfoldable pub searched : Search → Grids → Spacing → Outcome
searched search of spacing =
    let net = net_of search of in
    accepted (takes_of net) (scaled spacing.cell_size (map (λ l. l.0) (finish net).labels))
