-- From the tests to the search, and from its labels to the promise. Assumes nothing.
use mathlib.Core.Bool.{true, false, true≢false, false≢true}
use mathlib.Core.List.{List, [], ◌∷◌}
use mathlib.Core.Path.{◌≡◌, refl, sym, ap, ◌∙◌}
use Prim.Native.Nat.{ℕ, suc}
use lib.Dec.{T}
use lib.Ieee.{Float, nan, binary32, fits}
use lib.ListN.{length, get_or, replicate}
use Rattle.fifo.specs.Machine.{finish, takes_of}
use Rattle.fifo.proofs.Ends.{laws_within}
use Rattle.rules.specs.declared.BarrierDiagonals.{BarrierDiagonals}
use Rattle.rules.specs.declared.Size.{Size}
use Rattle.rules.specs.declared.Spacing.{Spacing}
use Rattle.rules.specs.Sizes.{grid, Lent, accepted, passes, in_bounds, count}
use Rattle.rules.specs.Distances.{scaled, plain, with_obstacles, travel, refusals_1, refusals_2, refusals_3}
use Rattle.rules.proofs.Accepted.{accepted_1, accepted_3}
use Rattle.rules.proofs.Nets.{plain_laws, obstacles_laws, travel_laws}
use Rattle.calls.specs.Answer.{Answer}
use Rattle.calls.specs.Answer.{Ok}
use Rattle.calls.specs.Answer.{takes}
use Rattle.calls.specs.Given.{lent}
use Rattle.calls.specs.Promise.{Slice, slice, Promised}
use Rattle.calls.proofs.Shapes.{shaped}
use Rattle.calls.proofs.Promises.{still_zero}
use Rattle.spread.specs.declared.search.Rule.TheVariants.{Plain, Obstacles, HalfSum}
use Rattle.spread.specs.declared.search.Search.{Search}
use Rattle.spread.specs.Nets.{avoids, Grids, carries, reads_times}
use Rattle.spread.specs.Promise.{grids, Spreads, Spread}
use Rattle.spread.proofs.Agrees.{plain_agrees, obstacles_agrees, half_sum_agrees}
use Rattle.spread.proofs.Results.{WithinSquare, spreads_where, distances_are}
use Rattle.distances.specs.Promise.{unread, Searches, found, searched}

-- ---- after the search

-- The labels of the search are its distances, and the zeroed buffers have the lengths that they had.
pub found_promised :
    {search : Search} {of : Grids} {distances carried distances₁ carried₁ : List Float} {marks marks₁ marks₂ queue queue₁ queue₂ : List ℕ} {t : ℕ}
    → Spreads search of distances carried marks queue → Spread search of carried distances₁ carried₁ marks₁ queue₁ t
    → marks₂ ≡ replicate (length marks₁) 0 → queue₂ ≡ replicate (length queue₁) 0
    → Promised (Ok (record { takes = t })) (slice distances distances₁) (slice marks marks₂) (slice queue queue₂) (found search of)
unfolding found
found_promised asked spreads marks_zeroed queue_zeroed = record {
  says = ap takes spreads.counted;
  answer_left = distances_are spreads;
  marks_left = still_zero 0 marks_zeroed spreads.lengths.marks_length asked.lengths.marks_length;
  queue_left = still_zero 0 queue_zeroed spreads.lengths.queue_length asked.lengths.queue_length;
}

-- The distances, scaled, are the answer; or they are the answer as they are.
module _ (search : Search) (of : Grids) {r : Answer} {answer answer₁ answer₂ : List Float} {marks queue : Slice ℕ} (promised : Promised r (slice answer answer₁) marks queue (found search of)) where
  pub scaled_promised : (spacing : Spacing) → answer₂ ≡ scaled spacing.cell_size answer₁ → Promised r (slice answer answer₂) marks queue (searched search of spacing)
  unfolding found searched
  scaled_promised spacing scales = record {
    says = promised.says;
    answer_left = scales ∙ ap (scaled spacing.cell_size) promised.answer_left;
    marks_left = promised.marks_left;
    queue_left = promised.queue_left;
  }

  pub settled_promised : answer₂ ≡ answer₁ → Promised r (slice answer answer₂) marks queue (found search of)
  settled_promised settled = record {
    says = promised.says;
    answer_left = settled ∙ promised.answer_left;
    marks_left = promised.marks_left;
    queue_left = promised.queue_left;
  }

-- ---- before the search

-- A rule that carries no value can be searched by where every slice has its length, and the rules' net keeps within the square.
can_search :
    {search : Search} {targets obstacles : List ℕ} {times answer : List Float} {marks queue : List ℕ} → carries search.rule ≡ false → T (in_bounds search.size)
    → length targets ≡ count search.size → (avoids search.rule ≡ true → length obstacles ≡ count search.size)
    → (reads_times search.rule ≡ true → length times ≡ count search.size) → length answer ≡ count search.size
    → length marks ≡ count search.size → length queue ≡ suc (count search.size)
    → WithinSquare search (grids targets obstacles times unread) → Searches search (grids targets obstacles times unread) answer marks queue
can_search {search} alone bounds targets_long obstacles_long times_long answer_long marks_long queue_long within = record {
  alone = alone;
  spreads = λ carried.
      spreads_where (record { bounds = bounds; targets_length = λ reads. targets_long; times_length = times_long; values_length = none }) obstacles_long
      (record { distances_length = answer_long; carried_length = none; marks_length = marks_long; queue_length = queue_long }) within;
}
  where
    none : {A : Type 0} → carries search.rule ≡ true → A
    none carried = absurd (true≢false (sym carried ∙ alone))

-- ---- search 1

module _ (size : Size) (targets : List ℕ) (spacing : Spacing) where
  abbrev pub plain_search : Search
  plain_search = record { rule = Plain; size = size; limit = spacing.limit }

  pub plain_searches :
      (answer : List Float) (marks queue : List ℕ) → T (fits binary32 spacing.limit)
      → refusals_1 (grid size targets) spacing (lent (length answer ∷ length marks ∷ []) (length queue)) ≡ passes
      → Searches plain_search (grids targets targets unread unread) answer marks queue
  unfolding refusals_1 plain
  plain_searches answer marks queue held pass =
      let known = shaped _ pass in
      let number = accepted_1 (grid size targets) spacing (lent (length answer ∷ length marks ∷ []) (length queue)) pass in
      can_search {search = plain_search} refl known.within known.long.0 (λ reads. known.long.0) (λ reads. absurd (false≢true reads)) known.long.1.0 known.long.1.1.0 known.queue_long
      (laws_within (plain_laws (grid size targets) spacing.limit held number))

  -- What the search answers, in the rules' words.
  pub plain_searched :
      searched plain_search (grids targets targets unread unread) spacing
      ≡ accepted (takes_of (plain (grid size targets) spacing.limit)) (scaled spacing.cell_size (finish (plain (grid size targets) spacing.limit)).labels)
  unfolding searched
  plain_searched =
      let agrees = plain_agrees plain_search (grids targets targets unread unread) refl in
      rw (agrees.takes_at_end, agrees.labels_at_end)

-- ---- search 2

module _ (size : Size) (targets obstacles : List ℕ) (spacing : Spacing) (diagonals : BarrierDiagonals) (limit : Float) where
  abbrev pub obstacles_search : Search
  obstacles_search = record { rule = Obstacles diagonals; size = size; limit = limit }

  pub obstacles_searches :
      (obstacles_size : Size) (answer : List Float) (marks queue : List ℕ)
      → refusals_2 (grid size targets) (grid obstacles_size obstacles) spacing (lent (length answer ∷ length marks ∷ []) (length queue)) ≡ passes
      → Searches obstacles_search (grids targets obstacles unread unread) answer marks queue
  unfolding refusals_2 with_obstacles
  obstacles_searches obstacles_size answer marks queue pass =
      let known = shaped _ pass in
      can_search {search = obstacles_search} refl known.within known.long.0 (λ reads. known.long.1.0) (λ reads. absurd (false≢true reads)) known.long.1.1.0 known.long.1.1.1.0 known.queue_long
      (laws_within (obstacles_laws (grid size targets) (grid size obstacles) diagonals))

  pub obstacles_searched :
      (obstacles_size : Size) (lent : Lent) → refusals_2 (grid size targets) (grid obstacles_size obstacles) spacing lent ≡ passes
      → searched obstacles_search (grids targets obstacles unread unread) spacing
      ≡ accepted (takes_of (with_obstacles (grid size targets) (grid obstacles_size obstacles) diagonals))
      (scaled spacing.cell_size (finish (with_obstacles (grid size targets) (grid obstacles_size obstacles) diagonals)).labels)
  unfolding searched refusals_2
  obstacles_searched obstacles_size lent pass =
      let known = shaped _ pass in
      let agrees = obstacles_agrees obstacles_search (grids targets obstacles unread unread) diagonals refl in
      rw (known.alike.0, agrees.takes_at_end, agrees.labels_at_end)

-- ---- search 3

module _ (size : Size) (targets : List ℕ) (times_size : Size) (times : List Float) (cap : Float) where
  abbrev pub travel_search : Search
  travel_search = record { rule = HalfSum; size = size; limit = cap }

  pub travel_searches :
      (answer : List Float) (marks queue : List ℕ) → ((c : ℕ) → T (fits binary32 (get_or times c nan))) → T (fits binary32 cap)
      → refusals_3 (grid size targets) (grid times_size times) cap (lent (length answer ∷ length marks ∷ []) (length queue)) ≡ passes
      → Searches travel_search (grids targets targets times unread) answer marks queue
  unfolding refusals_3 travel
  travel_searches answer marks queue times_held held pass =
      let known = shaped _ pass in
      let (number, none_negative) = accepted_3 (grid size targets) (grid times_size times) cap (lent (length answer ∷ length marks ∷ []) (length queue)) pass in
      can_search {search = travel_search} refl known.within known.long.0 (λ reads. absurd (false≢true reads)) (λ reads. known.long.1.0)
      known.long.1.1.0 known.long.1.1.1.0 known.queue_long
      (laws_within (travel_laws (grid size targets) (grid size times) cap (record { held = times_held; none_negative = none_negative }) held number))

  pub travel_found :
      (lent : Lent) → refusals_3 (grid size targets) (grid times_size times) cap lent ≡ passes
      → found travel_search (grids targets targets times unread)
      ≡ accepted (takes_of (travel (grid size targets) (grid times_size times) cap)) (finish (travel (grid size targets) (grid times_size times) cap)).labels
  unfolding found refusals_3
  travel_found lent pass =
      let known = shaped _ pass in
      let agrees = half_sum_agrees travel_search (grids targets targets times unread) refl in
      rw (known.alike.0, agrees.takes_at_end, agrees.labels_at_end)
