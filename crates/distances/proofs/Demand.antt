-- Demand 3, from the promises alone: it holds of whatever keeps them. Assumes nothing.
use mathlib.Core.Bool.{Bool, false, not, ◌||◌}
use mathlib.Core.List.{List, map, map-id}
use mathlib.Core.Path.{◌≡◌, refl, sym, ap, ◌∙◌}
use Prim.Native.Nat.{ℕ}
use native.Mathlib.Omega.{arith}
use lib.Dec.{T}
use lib.Ieee.{Float, nan, binary32, fits}
use lib.ListN.{length, get_or}
use lib.Ieee.Fits.{inf-fits}
use Rattle.fifo.specs.Machine.{Net, finish, takes_of}
use Rattle.fifo.specs.Laws.{Laws, room}
use Rattle.fifo.proofs.Search.{read_length, read_at}
use Rattle.rules.specs.declared.BarrierDiagonals.{BarrierDiagonals}
use Rattle.rules.specs.declared.Size.{Size}
use Rattle.rules.specs.declared.Spacing.{Spacing}
use Rattle.rules.specs.Numbers.{infinity}
use Rattle.rules.specs.Sizes.{grid, Judged, count}
use Rattle.rules.specs.Distances.{scaled, target, target_data, plain, free, with_obstacles, both_data, travel, refusals_1, refusals_2, refusals_3, outcome_1, outcome_2, outcome_3}
use Rattle.rules.specs.Paths.{HoldsLeastSums}
use Rattle.rules.proofs.Inputs.{AcceptedTimes}
use Rattle.rules.proofs.Accepted.{accepted_1, accepted_3}
use Rattle.rules.proofs.Nets.{plain_laws, obstacles_laws, travel_laws}
use Rattle.rules.proofs.LeastSums.{least_sums_1, least_sums_2, least_sums_3}
use Rattle.calls.specs.Answer.{Answer}
use Rattle.calls.specs.Answer.{takes, told}
use Rattle.calls.specs.Promise.{Slice}
use Rattle.calls.proofs.Promises.{Found, accepted_found}
use Rattle.distances.specs.Promise.{lengths, DistancesUpTo, Distance, DistanceWithObstacles, TravelDistancesUpTo, TravelDistance}
use Rattle.distances.specs.Demand.{number_of, times_cell_size, Demand3, Demand3Plain, Demand3Obstacles, Demand3Travel}

module _ {net : Net Float} (laws : Laws net) (answered : Float → Float) where
  -- Demand 3 of a call that found the takes of this net's search, and answers its labels, where those labels are the least sums.
  demanded :
      (size : Size) (enterable marked : ℕ → Bool) {Allowed : ℕ → ℕ → Float → Type 0} {cap : Float} {refusals : Judged} {grid answer : List Float} {t : ℕ}
      → net.cells ≡ count size → room net ≡ number_of size enterable → HoldsLeastSums net marked Allowed cap
      → grid ≡ map answered (finish net).labels → Found refusals (takes_of net) t grid answer
      → Demand3 size net (HoldsLeastSums net marked Allowed cap) enterable answered answer t
  demanded size enterable marked counted entered least labelled found = record {
    all_cells = ap length (found.answer_is ∙ labelled) ∙ read_length laws answered ∙ counted;
    cell_answered = λ c inside. ap (λ l. get_or l c nan) (found.answer_is ∙ labelled) ∙ read_at laws answered nan c (omega (arith, counted));
    least_sums = least;
    takes_within_square = rw (found.takes_are, ← entered) least.takes_within_square;
  }

-- The promise says takes t only if no test refuses. Then the answer is the search's labels, scaled, and t is its takes. The labels are the least
-- sums, as those of every search over this net are.
pub demand_3_plain :
    (size : Size) (targets : List ℕ) (spacing : Spacing) (answer : Slice Float) (marks queue : Slice ℕ) (r : Answer) (t : ℕ)
    → T (fits binary32 spacing.limit) → DistancesUpTo size targets spacing answer marks queue r → told r ≡ takes t
    → Demand3Plain (grid size targets) spacing answer.after t
unfolding outcome_1 plain room scaled
demand_3_plain size targets spacing answer marks queue r t held promise said =
    let of = grid size targets in
    let found = accepted_found (refusals_1 of spacing (lengths answer marks queue)) _ _ t promise said in
    let number = accepted_1 of spacing (lengths answer marks queue) found.passed in
    demanded (plain_laws of spacing.limit held number) (times_cell_size spacing) size (target_data of) (λ c. not (target_data of c)) refl refl
    (least_sums_1 of spacing.limit held number) refl found

-- A distance without a limit has infinity as its cap.
pub demand_3_uncapped :
    (size : Size) (targets : List ℕ) (cell_size : Float) (answer : Slice Float) (marks queue : Slice ℕ) (r : Answer) (t : ℕ)
    → Distance size targets cell_size answer marks queue r → told r ≡ takes t
    → Demand3Plain (grid size targets) (record { cell_size = cell_size; limit = infinity }) answer.after t
demand_3_uncapped size targets cell_size answer marks queue r t promise said =
    demand_3_plain size targets (record { cell_size = cell_size; limit = infinity }) answer marks queue r t (inf-fits binary32 false) promise said

pub demand_3_obstacles :
    (size : Size) (targets : List ℕ) (obstacles_size : Size) (obstacles : List ℕ) (spacing : Spacing) (diagonals : BarrierDiagonals) (answer : Slice Float) (marks queue : Slice ℕ)
    (r : Answer) (t : ℕ) → DistanceWithObstacles size targets obstacles_size obstacles spacing diagonals answer marks queue r → told r ≡ takes t
    → Demand3Obstacles (grid size targets) (grid obstacles_size obstacles) spacing diagonals answer.after t
unfolding outcome_2 with_obstacles room scaled
demand_3_obstacles size targets obstacles_size obstacles spacing diagonals answer marks queue r t promise said =
    let of = grid size targets in
    let avoided = grid obstacles_size obstacles in
    let found = accepted_found (refusals_2 of avoided spacing (lengths answer marks queue)) _ _ t promise said in
    demanded (obstacles_laws of avoided diagonals) (times_cell_size spacing) size (λ c. target of c || free avoided c) (λ c. false) refl refl
    (least_sums_2 of avoided diagonals) refl found

-- The times of a call are values of binary32, as those of every slice of the code are.
pub demand_3_travel :
    (size : Size) (targets : List ℕ) (times_size : Size) (times : List Float) (cap : Float) (answer : Slice Float) (marks queue : Slice ℕ) (r : Answer) (t : ℕ)
    → ((c : ℕ) → T (fits binary32 (get_or times c nan))) → T (fits binary32 cap)
    → TravelDistancesUpTo size targets times_size times cap answer marks queue r → told r ≡ takes t
    → Demand3Travel (grid size targets) (grid times_size times) cap answer.after t
unfolding outcome_3 travel room
demand_3_travel size targets times_size times cap answer marks queue r t times_held held promise said =
    let of = grid size targets in
    let timed = grid times_size times in
    let found = accepted_found (refusals_3 of timed cap (lengths answer marks queue)) _ _ t promise said in
    let (number, none_negative) = accepted_3 of timed cap (lengths answer marks queue) found.passed in
    let times_good : AcceptedTimes timed = record { held = times_held; none_negative = none_negative } in
    demanded (travel_laws of timed cap times_good held number) (λ d. d) size (both_data of timed) (λ c. not (both_data of timed c)) refl refl
    (least_sums_3 of timed cap times_good held number) (sym (map-id _)) found

-- Without a limit the cap is infinity.
pub demand_3_travel_uncapped :
    (size : Size) (targets : List ℕ) (times_size : Size) (times : List Float) (answer : Slice Float) (marks queue : Slice ℕ) (r : Answer) (t : ℕ)
    → ((c : ℕ) → T (fits binary32 (get_or times c nan))) → TravelDistance size targets times_size times answer marks queue r → told r ≡ takes t
    → Demand3Travel (grid size targets) (grid times_size times) infinity answer.after t
demand_3_travel_uncapped size targets times_size times answer marks queue r t times_held promise said =
    demand_3_travel size targets times_size times infinity answer marks queue r t times_held (inf-fits binary32 false) promise said
