-- Search 8 from its tests to its promise. Assumes nothing.
use mathlib.Core.Bool.{false}
use mathlib.Core.List.{List, [], ◌∷◌}
use mathlib.Core.Logic.{⊎_elim}
use mathlib.Core.Path.{◌≡◌, ap, ◌∙◌}
use Prim.Native.Nat.{ℕ, ◌*◌, zero-le}
use lib.Dec.{T}
use lib.Ieee.{Float, nan, binary32, fits}
use lib.ListN.{length, get_or, replicate, length-replicate}
use Rattle.binary32.specs.Numbers.{plus_zero}
use Rattle.fifo.specs.Machine.{initial}
use Rattle.fifo.specs.Simulation.{Within}
use Rattle.fifo.proofs.Lists.{tested, holds}
use Rattle.fifo.proofs.Induction.{takes_stopped}
use Rattle.fifo.proofs.Ends.{laws_within}
use Rattle.rules.specs.declared.Size.{Size}
use Rattle.rules.specs.Sizes.{Grid, grid, Judged, Lent, Outcome, passes, stops, unless, count}
use Rattle.rules.specs.Distances.{has_data}
use Rattle.rules.specs.Sums.{from_amount, refusals_8, found_8}
use Rattle.rules.proofs.Inputs.{AcceptedTimes, AcceptedBudget}
use Rattle.rules.proofs.Accepted.{accepted_8}
use Rattle.rules.proofs.Nets.{amount_laws}
use Rattle.rules.proofs.Squares.{amount_idle}
use Rattle.calls.specs.Answer.{Ok, Err}
use Rattle.calls.specs.declared.answer.Refusal.{Refusal}
use Rattle.calls.specs.Answer.{Answer, refusal_number}
use Rattle.calls.specs.Answer as told
use Rattle.calls.specs.Given.{lent}
use Rattle.calls.specs.Promise.{slice}
use Rattle.calls.proofs.Shapes.{shaped}
use Rattle.calls.proofs.Untouched.{judged_writes, buffer_untouched}
use Rattle.calls.proofs.Promises.{promised_refused, still_zero}
use Rattle.sums.specs.FromAmounts.{SearchingAll, SearchedAll}
use Rattle.sums.specs.Promise.{PromisedGains, Sums, summed}

-- ---- before the search

-- The answer is zeroed first.
pub sums_search :
    {size : Size} {times amounts : List Float} {limit : Float} {answer distances : List Float} {marks added queue : List ℕ}
    → Sums size times amounts limit answer distances marks added queue → {answer₀ : List Float} → answer₀ ≡ replicate (length answer) plus_zero
    → SearchingAll size times amounts limit answer₀ distances marks added queue
sums_search {answer = answer} asked zeroed =
    let lengths = asked.asked.lengths in
    let none = zeroed ∙ ap (λ n. replicate n plus_zero) lengths.answer_length in
    record {
      asked = record {
        ways = asked.asked.ways;
        lengths = record {
          answer_length = ap length zeroed ∙ length-replicate (length answer) plus_zero ∙ lengths.answer_length;
          distances_length = lengths.distances_length;
          marks_length = lengths.marks_length;
          added_length = lengths.added_length;
          queue_length = lengths.queue_length;
        };
      };
      amounts_length = asked.amounts_length;
      none_gained = none;
    }

-- ---- after it

-- What it gained is the answer, and the zeroed buffers have the lengths that they had.
pub summed_promised :
    {size : Size} {times amounts : List Float} {limit : Float} {answer distances : List Float} {marks added queue : List ℕ}
    {answer₁ distances₁ answer₂ distances₂ : List Float} {marks₁ added₁ queue₁ marks₂ added₂ queue₂ : List ℕ} {t : ℕ}
    → Sums size times amounts limit answer distances marks added queue → SearchedAll size times amounts limit answer₁ distances₁ marks₁ added₁ queue₁ t
    → answer₂ ≡ answer₁ → distances₂ ≡ replicate (length distances₁) plus_zero → marks₂ ≡ replicate (length marks₁) 0
    → added₂ ≡ replicate (length added₁) 0 → queue₂ ≡ replicate (length queue₁) 0
    → PromisedGains (Ok (record { takes = t })) (slice answer answer₂) (slice distances distances₂) (slice marks marks₂) (slice added added₂) (slice queue queue₂) (summed size times amounts limit)
unfolding summed
summed_promised asked found settled distances_zeroed marks_zeroed added_zeroed queue_zeroed =
    let before = asked.asked.lengths in
    let after = found.lengths in
    record {
      promised = record {
        says = ap told.takes found.counted;
        answer_left = settled ∙ found.gained;
        marks_left = still_zero 0 marks_zeroed after.marks_length before.marks_length;
        queue_left = still_zero 0 queue_zeroed after.queue_length before.queue_length;
      };
      distances_left = still_zero plus_zero distances_zeroed after.distances_length before.distances_length;
      added_left = still_zero 0 added_zeroed after.added_length before.added_length;
    }

-- ---- a refused call

module _ {refusals : Judged} (search : Unit {0} → Outcome) (refusal : Refusal) (stopped : stops (refusal_number refusal) ≡ refusals) where
  pub gains_refused :
      {r : Answer} → r ≡ Err refusal → judged_writes refusals ≡ false → (answer distances : List Float) (marks added queue : List ℕ)
      → PromisedGains r (slice answer answer) (slice distances distances) (slice marks marks) (slice added added) (slice queue queue) (unless refusals search)
  gains_refused gives quiet answer distances marks added queue = record {
    promised = promised_refused search refusal stopped gives quiet answer marks queue;
    distances_left = buffer_untouched search refusal stopped quiet plus_zero distances;
    added_left = buffer_untouched search refusal stopped quiet 0 added;
  }

-- ---- the tests

-- From whatever start the search takes no more than the square: it keeps the laws, or nothing starts.
pub amount_within :
    (times : Grid Float) (limit : Float) (start : ℕ) → AcceptedTimes times → AcceptedBudget limit
    → Within (count times.size * count times.size) (from_amount times limit start)
unfolding from_amount
amount_within times limit start times_good limit_good =
    ⊎_elim (λ has. laws_within (amount_laws times limit start times_good limit_good (holds has)))
    (λ none k. rw (takes_stopped (from_amount times limit start) k (initial (from_amount times limit start)) (amount_idle times limit start none)) zero-le)
    (tested (has_data times start))

module _ (size : Size) (times : List Float) (amounts_size : Size) (amounts : List Float) (limit : Float) where
  pub sums_ask :
      (answer distances : List Float) (marks added queue : List ℕ) → ((c : ℕ) → T (fits binary32 (get_or times c nan))) → T (fits binary32 limit)
      → refusals_8 (grid size times) (grid amounts_size amounts) limit (lent (length answer ∷ length distances ∷ length marks ∷ length added ∷ []) (length queue)) ≡ passes
      → Sums size times amounts limit answer distances marks added queue
  unfolding refusals_8
  sums_ask answer distances marks added queue times_held limit_held pass =
      let known = shaped _ pass in
      let (bounds, number, above, none_negative) = accepted_8 (grid size times) (grid amounts_size amounts) limit _ pass in
      record {
        asked = record {
          ways = record {
            bounds = known.within;
            times_length = known.long.0;
            within = λ start.
                amount_within (grid size times) limit start (record { held = times_held; none_negative = none_negative }) (record { held = limit_held; not_nan = number; above_zero = above });
          };
          lengths = record {
            answer_length = known.long.1.1.0;
            distances_length = known.long.1.1.1.0;
            marks_length = known.long.1.1.1.1.0;
            added_length = known.long.1.1.1.1.1.0;
            queue_length = known.queue_long;
          };
        };
        amounts_length = known.long.1.0;
      }

  -- What the search answers, in the rules' words.
  pub sums_are :
      (lent : Lent) → refusals_8 (grid size times) (grid amounts_size amounts) limit lent ≡ passes
      → summed size times amounts limit ≡ found_8 (grid size times) (grid amounts_size amounts) limit
  unfolding summed refusals_8
  sums_are lent pass =
      let known = shaped _ pass in
      rw known.alike.0
