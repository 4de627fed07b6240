-- From the tests to the search, and from its labels to the promise. Assumes nothing.
use mathlib.Core.Bool.{true, false, true≢false}
use mathlib.Core.List.{List, [], ◌∷◌}
use mathlib.Core.Path.{◌≡◌, refl, sym, ap, ◌∙◌}
use Prim.Native.Nat.{ℕ, suc}
use lib.Dec.{T}
use lib.Ieee.{Float, nan, binary32, fits, is_nan}
use lib.ListN.{length, get_or, replicate}
use lib.Ieee.Fits.{inf-fits}
use Rattle.binary32.specs.Numbers.{plus_zero}
use Rattle.binary32.proofs.NotANumber.{infinity_not_nan}
use Rattle.fifo.specs.Machine.{finish, takes_of}
use Rattle.fifo.proofs.Ends.{laws_within}
use Rattle.rules.specs.declared.Size.{Size}
use Rattle.rules.specs.Sizes.{grid, Judged, Lent, Outcome, accepted, passes, stops, unless, in_bounds, any, below_zero, count}
use Rattle.rules.specs.Numbers.{infinity}
use Rattle.rules.specs.Values.{values_of, closest, closest_by_time, refusals_4, refusals_5, refusals_6}
use Rattle.rules.proofs.Accepted.{accepted_5, accepted_6}
use Rattle.rules.proofs.Nets.{closest_laws, closest_by_time_laws}
use Rattle.calls.specs.Answer.{Ok, Err}
use Rattle.calls.specs.declared.answer.Refusal.{Refusal}
use Rattle.calls.specs.Answer.{Answer, refusal_number, takes}
use Rattle.calls.specs.Given.{lent}
use Rattle.calls.specs.Promise.{slice}
use Rattle.calls.proofs.Shapes.{Shaped, shaped}
use Rattle.calls.proofs.Untouched.{judged_writes, buffer_untouched}
use Rattle.calls.proofs.Promises.{promised_refused, still_zero}
use Rattle.spread.specs.declared.search.Rule.TheVariants.{Closest, ByTime}
use Rattle.spread.specs.declared.search.Search.{Search}
use Rattle.spread.specs.Nets.{avoids, Grids, carries, reads_times}
use Rattle.spread.specs.Promise.{grids, Spread}
use Rattle.spread.proofs.Agrees.{closest_same, by_time_agrees, by_time_labels}
use Rattle.spread.proofs.Results.{WithinSquare, spreads_where, values_are}
use Rattle.values.specs.Promise.{PromisedValues, Searches, searched}

-- The lengths of what these searches are lent.
abbrev pub lent_of : List Float → List Float → List ℕ → List ℕ → Lent
lent_of answer distances marks queue = lent (length answer ∷ length distances ∷ length marks ∷ []) (length queue)

-- ---- after the search

-- The values that its labels carry are the answer, and the zeroed buffers have the lengths that they had.
pub searched_promised :
    {search : Search} {of : Grids} {answer distances answer₁ distances₁ answer₂ distances₂ : List Float} {marks marks₁ marks₂ queue queue₁ queue₂ : List ℕ} {t : ℕ}
    → Searches search of answer distances marks queue → Spread search of answer distances₁ answer₁ marks₁ queue₁ t
    → answer₂ ≡ answer₁ → distances₂ ≡ replicate (length distances₁) plus_zero → marks₂ ≡ replicate (length marks₁) 0 → queue₂ ≡ replicate (length queue₁) 0
    → PromisedValues (Ok (record { takes = t })) (slice answer answer₂) (slice distances distances₂) (slice marks marks₂) (slice queue queue₂) (searched search of)
unfolding searched
searched_promised asked found settled distances_zeroed marks_zeroed queue_zeroed =
    let before = asked.spreads.lengths in
    let after = found.lengths in
    record {
      promised = record {
        says = ap takes found.counted;
        answer_left = settled ∙ values_are found asked.carrying;
        marks_left = still_zero 0 marks_zeroed after.marks_length before.marks_length;
        queue_left = still_zero 0 queue_zeroed after.queue_length before.queue_length;
      };
      distances_left = still_zero plus_zero distances_zeroed after.distances_length before.distances_length;
    }

-- ---- a refused call

module _ {refusals : Judged} (search : Unit {0} → Outcome) (refusal : Refusal) (stopped : stops (refusal_number refusal) ≡ refusals) where
  pub values_refused :
      {r : Answer} → r ≡ Err refusal → judged_writes refusals ≡ false → (answer distances : List Float) (marks queue : List ℕ)
      → PromisedValues r (slice answer answer) (slice distances distances) (slice marks marks) (slice queue queue) (unless refusals search)
  values_refused gives quiet answer distances marks queue = record {
    promised = promised_refused search refusal stopped gives quiet answer marks queue;
    distances_left = buffer_untouched search refusal stopped quiet plus_zero distances;
  }

-- ---- before the search

-- A rule that carries a value and avoids nothing can be searched by where every slice has its length, and the rules' net keeps within the square.
can_search :
    {search : Search} {targets : List ℕ} {times values answer distances : List Float} {marks queue : List ℕ}
    → carries search.rule ≡ true → avoids search.rule ≡ false → T (in_bounds search.size)
    → length targets ≡ count search.size → (reads_times search.rule ≡ true → length times ≡ count search.size) → length values ≡ count search.size
    → length answer ≡ count search.size → length distances ≡ count search.size → length marks ≡ count search.size → length queue ≡ suc (count search.size)
    → WithinSquare search (grids targets targets times values) → Searches search (grids targets targets times values) answer distances marks queue
can_search carried open_everywhere bounds targets_long times_long values_long answer_long distances_long marks_long queue_long within = record {
  carrying = carried;
  spreads =
      spreads_where (record { bounds = bounds; targets_length = λ reads. targets_long; times_length = times_long; values_length = λ reads. values_long })
      (λ avoided. absurd (true≢false (sym avoided ∙ open_everywhere)))
      (record { distances_length = distances_long; carried_length = λ reads. answer_long; marks_length = marks_long; queue_length = queue_long }) within;
}

-- ---- search 4

module _ (size : Size) (targets : List ℕ) (values_size : Size) (values : List Float) (limit : Float) where
  abbrev pub closest_search : Search
  closest_search = record { rule = Closest; size = size; limit = limit }

  pub closest_searches :
      (answer distances : List Float) (marks queue : List ℕ)
      → refusals_4 (grid size targets) (grid values_size values) (lent_of answer distances marks queue) ≡ passes
      → Searches closest_search (grids targets targets values values) answer distances marks queue
  unfolding refusals_4 closest
  closest_searches answer distances marks queue pass =
      let known = shaped _ pass in
      can_search {search = closest_search} refl refl known.within known.long.0 (λ reads. known.long.1.0) known.long.1.0
      known.long.1.1.0 known.long.1.1.1.0 known.long.1.1.1.1.0 known.queue_long
      (laws_within (closest_laws (grid size targets) (grid size values)))

  -- What the search answers, in the rules' words.
  pub closest_searched :
      (lent : Lent) → refusals_4 (grid size targets) (grid values_size values) lent ≡ passes
      → searched closest_search (grids targets targets values values)
      ≡ accepted (takes_of (closest (grid size targets) (grid values_size values))) (values_of (finish (closest (grid size targets) (grid values_size values))).labels)
  unfolding searched refusals_4
  closest_searched lent pass =
      let known = shaped _ pass in
      rw (known.alike.0, closest_same closest_search (grids targets targets values values) refl)

-- ---- searches 5 and 6

module _ (size : Size) (targets : List ℕ) (times_size : Size) (times : List Float) (values_size : Size) (values : List Float) (limit : Float) where
  abbrev pub by_time_search : Search
  by_time_search = record { rule = ByTime; size = size; limit = limit }

  -- The takes and the values of the rules' net.
  abbrev pub by_time_outcome : Outcome
  by_time_outcome =
      let net = closest_by_time (grid size targets) (grid times_size times) (grid values_size values) limit in
      accepted (takes_of net) (values_of (finish net).labels)

  -- What is known after the tests of the shape, and of the search's own.
  module _
      {lent : Lent}
      (known : Shaped size (times_size ∷ values_size ∷ []) (length targets ∷ length times ∷ length values ∷ []) lent)
    where
      by_time_searches :
          {answer distances : List Float} {marks queue : List ℕ} → lent ≡ lent_of answer distances marks queue
          → ((c : ℕ) → T (fits binary32 (get_or times c nan))) → T (fits binary32 limit) → is_nan limit ≡ false → any below_zero times ≡ false
          → Searches by_time_search (grids targets targets times values) answer distances marks queue
      unfolding closest_by_time
      by_time_searches same times_held held number none_negative =
          let known = rw same at known in
          can_search {search = by_time_search} refl refl known.within known.long.0 (λ reads. known.long.1.0) known.long.1.1.0
          known.long.1.1.1.0 known.long.1.1.1.1.0 known.long.1.1.1.1.1.0 known.queue_long
          (laws_within (closest_by_time_laws (grid size targets) (grid size times) (grid size values) limit (record { held = times_held; none_negative = none_negative }) held number))

      by_time_searched : searched by_time_search (grids targets targets times values) ≡ by_time_outcome
      unfolding searched
      by_time_searched =
          let given = grids targets targets times values in
          rw (known.alike.0, known.alike.1.0, (by_time_agrees by_time_search given refl).takes_at_end, by_time_labels by_time_search given refl)

  -- From the tests of 6.
  module _ (answer distances : List Float) (marks queue : List ℕ) (pass : refusals_6 (grid size targets) (grid times_size times) (grid values_size values) limit (lent_of answer distances marks queue) ≡ passes) where
    pub searches_6 :
        ((c : ℕ) → T (fits binary32 (get_or times c nan))) → T (fits binary32 limit) → Searches by_time_search (grids targets targets times values) answer distances marks queue
    unfolding refusals_6
    searches_6 times_held held =
        let (number, none_negative) = accepted_6 (grid size targets) (grid times_size times) (grid values_size values) limit (lent_of answer distances marks queue) pass in
        by_time_searches (shaped _ pass) refl times_held held number none_negative

    pub searched_6 : searched by_time_search (grids targets targets times values) ≡ by_time_outcome
    unfolding refusals_6
    searched_6 = by_time_searched (shaped _ pass)

-- From the tests of 5, where the limit is infinity.
module _
    (size : Size) (targets : List ℕ) (times_size : Size) (times : List Float) (values_size : Size) (values : List Float) {limit : Float} (unlimited : limit ≡ infinity)
    (answer distances : List Float) (marks queue : List ℕ)
    (pass : refusals_5 (grid size targets) (grid times_size times) (grid values_size values) (lent_of answer distances marks queue) ≡ passes)
  where
    pub searches_5 :
        ((c : ℕ) → T (fits binary32 (get_or times c nan)))
        → Searches (by_time_search size targets times_size times values_size values limit) (grids targets targets times values) answer distances marks queue
    unfolding refusals_5
    searches_5 times_held =
        let none_negative = accepted_5 (grid size targets) (grid times_size times) (grid values_size values) (lent_of answer distances marks queue) pass in
        by_time_searches size targets times_size times values_size values limit (shaped _ pass) refl times_held
        (rw unlimited (inf-fits binary32 false)) (rw unlimited infinity_not_nan) none_negative

    pub searched_5 :
        searched (by_time_search size targets times_size times values_size values limit) (grids targets targets times values)
        ≡ by_time_outcome size targets times_size times values_size values infinity
    unfolding refusals_5
    searched_5 =
        by_time_searched size targets times_size times values_size values limit (shaped _ pass)
        ∙ ap (by_time_outcome size targets times_size times values_size values) unlimited
