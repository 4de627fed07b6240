-- From the promises alone: each value of an accepted call is that of a closest target, and the takes are within the square. Assumes nothing.
use mathlib.Core.Bool.{false}
use mathlib.Core.List.{List}
use mathlib.Core.Path.{◌≡◌, refl, ap, ◌∙◌}
use Prim.Native.Nat.{ℕ, ◌*◌, ◌≤◌}
use native.Mathlib.Omega.{arith}
use lib.Dec.{T}
use lib.Ieee.{Float, nan, binary32, fits}
use lib.ListN.{length, get_or}
use lib.Ieee.Fits.{inf-fits}
use Rattle.binary32.proofs.NotANumber.{infinity_not_nan}
use Rattle.fifo.specs.Machine.{Net, finish, takes_of}
use Rattle.fifo.specs.Laws.{Laws, room}
use Rattle.fifo.proofs.Search.{read_length, read_at}
use Rattle.rules.specs.declared.Size.{Size}
use Rattle.rules.specs.Numbers.{infinity}
use Rattle.rules.specs.Sizes.{grid, Judged, count}
use Rattle.rules.specs.Values.{Carried, values_of, closest, closest_by_time, refusals_4, refusals_5, refusals_6, outcome_4, outcome_5, outcome_6}
use Rattle.rules.proofs.Inputs.{AcceptedTimes}
use Rattle.rules.proofs.Accepted.{accepted_5, accepted_6}
use Rattle.rules.proofs.Nets.{closest_laws, closest_by_time_laws}
use Rattle.rules.proofs.ClosestTargets.{closest_targets_4, closest_targets_by_time}
use Rattle.calls.specs.Answer.{Answer}
use Rattle.calls.specs.Answer.{takes, told}
use Rattle.calls.specs.Promise.{Slice}
use Rattle.calls.proofs.Promises.{Found, accepted_found}
use Rattle.values.specs.Promise.{lengths, ValueAtClosestTarget, ValueAtClosestTravelTarget, ValueAtClosestLessThanTravelTarget}
use Rattle.values.specs.Demand.{AnswersClosest, AnswersClosest4, AnswersClosestByTime}

-- A call that found the takes and the values of a net's search answers with what that search holds.
answers :
    {net : Net Carried} (laws : Laws net) (size : Size) {ClosestTargets : Type 0} {refusals : Judged} {answer : List Float} {t : ℕ} → net.cells ≡ count size
    → ClosestTargets → takes_of net ≤ room net * room net → Found refusals (takes_of net) t (values_of (finish net).labels) answer
    → AnswersClosest size net ClosestTargets answer t
answers laws size counted closest_ones square found = record {
  all_cells = ap length found.answer_is ∙ read_length laws (λ l. l.1) ∙ counted;
  cell_answered = λ c inside. ap (λ l. get_or l c nan) found.answer_is ∙ read_at laws (λ l. l.1) nan c (omega (arith, counted));
  closest_targets = closest_ones;
  takes_within_square = rw found.takes_are square;
}

pub answers_closest_4 :
    (size : Size) (targets : List ℕ) (values_size : Size) (values : List Float) (answer distances : Slice Float) (marks queue : Slice ℕ) (r : Answer) (t : ℕ)
    → ValueAtClosestTarget size targets values_size values answer distances marks queue r → told r ≡ takes t
    → AnswersClosest4 (grid size targets) (grid values_size values) answer.after t
unfolding outcome_4 closest
answers_closest_4 size targets values_size values answer distances marks queue r t promise said =
    let of = grid size targets in
    let valued = grid values_size values in
    let found = accepted_found (refusals_4 of valued (lengths answer distances marks queue)) _ _ t promise.promised said in
    let closest_ones = closest_targets_4 of valued in
    answers (closest_laws of valued) size refl closest_ones closest_ones.takes_within_square found

-- The times of a call are values of binary32, as those of every slice of the code are.
module _
    (size : Size) (targets : List ℕ) (times_size : Size) (times : List Float) (values_size : Size) (values : List Float) (times_held : (c : ℕ) → T (fits binary32 (get_or times c nan)))
    (answer distances : Slice Float) (marks queue : Slice ℕ) (r : Answer) (t : ℕ)
  where
    pub answers_closest_5 :
        ValueAtClosestTravelTarget size targets times_size times values_size values answer distances marks queue r → told r ≡ takes t
        → AnswersClosestByTime (grid size targets) (grid times_size times) (grid values_size values) infinity answer.after t
    unfolding outcome_5 closest_by_time
    answers_closest_5 promise said =
        let of = grid size targets in
        let timed = grid times_size times in
        let valued = grid values_size values in
        let found = accepted_found (refusals_5 of timed valued (lengths answer distances marks queue)) _ _ t promise.promised said in
        let none_negative = accepted_5 of timed valued (lengths answer distances marks queue) found.passed in
        let times_good : AcceptedTimes timed = record { held = times_held; none_negative = none_negative } in
        let closest_ones = closest_targets_by_time of timed valued infinity times_good (inf-fits binary32 false) infinity_not_nan in
        answers (closest_by_time_laws of timed valued infinity times_good (inf-fits binary32 false) infinity_not_nan) size refl closest_ones closest_ones.takes_within_square found

    pub answers_closest_6 :
        (limit : Float) → T (fits binary32 limit)
        → ValueAtClosestLessThanTravelTarget size targets times_size times values_size values limit answer distances marks queue r → told r ≡ takes t
        → AnswersClosestByTime (grid size targets) (grid times_size times) (grid values_size values) limit answer.after t
    unfolding outcome_6 closest_by_time
    answers_closest_6 limit held promise said =
        let of = grid size targets in
        let timed = grid times_size times in
        let valued = grid values_size values in
        let found = accepted_found (refusals_6 of timed valued limit (lengths answer distances marks queue)) _ _ t promise.promised said in
        let (number, none_negative) = accepted_6 of timed valued limit (lengths answer distances marks queue) found.passed in
        let times_good : AcceptedTimes timed = record { held = times_held; none_negative = none_negative } in
        let closest_ones = closest_targets_by_time of timed valued limit times_good held number in
        answers (closest_by_time_laws of timed valued limit times_good held number) size refl closest_ones closest_ones.takes_within_square found
