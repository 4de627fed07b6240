-- What the searches for values promise. Definitions only.
use Rattle.std.specs.Prelude.{true, List, [], ◌∷◌, ◌≡◌, ℕ, Float, length}
use Rattle.binary32.specs.Numbers.{plus_zero}
use Rattle.fifo.specs.Machine.{finish, takes_of}
use Rattle.rules.specs.declared.Size.{Size}
use Rattle.rules.specs.Sizes.{grid, Lent, Outcome, accepted}
use Rattle.rules.specs.Values.{values_of, outcome_4, outcome_5, outcome_6}
use Rattle.calls.specs.Answer.{Answer}
use Rattle.calls.specs.Answer.{buffer_after}
use Rattle.calls.specs.Given.{lent}
use Rattle.calls.specs.Promise.{Slice, Promised}
use Rattle.spread.specs.declared.search.Search.{Search}
use Rattle.spread.specs.Nets.{Grids, net_of, carries}
use Rattle.spread.specs.Promise.{Spreads}

-- What every search promises, and the same of the buffer of distances.
pub record PromisedValues (r : Answer) (answer distances : Slice Float) (marks queue : Slice ℕ) (outcome : Outcome) : Type 0 where
  pub promised : Promised r answer marks queue outcome
  pub distances_left : distances.after ≡ buffer_after plus_zero outcome distances.before

-- The lengths of what these searches are lent: the answer, the distances and the marks, and the queue.
abbrev pub lengths : Slice Float → Slice Float → Slice ℕ → Slice ℕ → Lent
lengths answer distances marks queue = lent (length answer.before ∷ length distances.before ∷ length marks.before ∷ []) (length queue.before)

-- 4: value_at_closest_target.
abbrev pub ValueAtClosestTarget : Size → List ℕ → Size → List Float → Slice Float → Slice Float → Slice ℕ → Slice ℕ → Answer → Type 0
ValueAtClosestTarget targets_size targets values_size values answer distances marks queue r =
    PromisedValues r answer distances marks queue (outcome_4 (grid targets_size targets) (grid values_size values) (lengths answer distances marks queue))

-- 5: value_at_closest_travel_target.
abbrev pub ValueAtClosestTravelTarget : Size → List ℕ → Size → List Float → Size → List Float → Slice Float → Slice Float → Slice ℕ → Slice ℕ → Answer → Type 0
ValueAtClosestTravelTarget targets_size targets times_size times values_size values answer distances marks queue r =
    PromisedValues r answer distances marks queue (outcome_5 (grid targets_size targets) (grid times_size times) (grid values_size values) (lengths answer distances marks queue))

-- 6: value_at_closest_less_than_travel_target.
abbrev pub ValueAtClosestLessThanTravelTarget : Size → List ℕ → Size → List Float → Size → List Float → Float → Slice Float → Slice Float → Slice ℕ → Slice ℕ → Answer → Type 0
ValueAtClosestLessThanTravelTarget targets_size targets times_size times values_size values limit answer distances marks queue r =
    PromisedValues r answer distances marks queue (outcome_6 (grid targets_size targets) (grid times_size times) (grid values_size values) limit (lengths answer distances marks queue))

-- ---- the search once no test refuses

-- It can be spread, and a value goes along.
pub record Searches (search : Search) (of : Grids) (answer distances : List Float) (marks queue : List ℕ) : Type 0 where
  pub carrying : carries search.rule ≡ true
  pub spreads : Spreads search of distances answer marks queue

-- The takes of the net, and the values that its labels carry.
unfoldable pub searched : Search → Grids → Outcome
searched search of =
    let net = net_of search of in
    accepted (takes_of net) (values_of (finish net).labels)
