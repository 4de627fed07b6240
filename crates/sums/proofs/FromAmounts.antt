-- The searches from the amounts: one, and all of them in row order. Assumes nothing.
use mathlib.Core.Bool.{true, false, cond}
use mathlib.Core.List.{List, foldl}
use mathlib.Core.Path.{◌≡◌, refl, sym, ap, ◌∙◌}
use Prim.Native.Nat.{ℕ, ◌+◌, ◌<◌}
use lib.Ieee.{Float}
use lib.ListN.{length, replicate, length-replicate}
use mir.Syntax.{w64}
use mir.Val.{Fits}
use Rattle.binary32.specs.Numbers.{plus_zero}
use Rattle.fifo.specs.Machine.{passing, takes_of}
use Rattle.rules.specs.declared.Size.{Size}
use Rattle.rules.specs.Sizes.{grid, count}
use Rattle.rules.specs.Distances.{float}
use Rattle.rules.specs.Sums.{Run, run_of, summed_takes, from_amount, counts, runs_8, gaining_of, gaining, gain, gains}
use Rattle.spread.specs.declared.search.Rule.TheVariants.{FromAmount}
use Rattle.spread.specs.declared.search.Search.{Search}
use Rattle.spread.specs.Steps.{terrain}
use Rattle.spread.specs.Buffers.{Buffers}
use Rattle.spread.specs.Begin.{Begins, BeganTo}
use Rattle.spread.specs.Promise.{grids, Spreads}
use Rattle.spread.proofs.Running.{begun_ready, begun_runs}
use Rattle.spread.proofs.Agrees.{amount_agrees}
use Rattle.sums.specs.Gain.{Gaining, GainedAll}
use Rattle.sums.specs.FromAmounts.{Lengths, Searching, SearchedAmount, SearchedCell, SearchingAll, SearchedAll}
use Rattle.sums.proofs.Endings.{spreads_by_times, spreads_begin, ends_as}
use Rattle.sums.proofs.Starts.{runs_to, fold_next, total_next, total_fits, total_of_runs}

-- ---- one amount

module _ (size : Size) (times : List Float) (limit : Float) (start : ℕ) where
  abbrev pub amount_search : Search
  amount_search = record { rule = FromAmount start; size = size; limit = limit }

  module _ {answer distances : List Float} {marks added queue : List ℕ} (asked : Searching size times limit answer distances marks added queue) where
    amount_spreads : (targets obstacles : List ℕ) (values carried : List Float) → Spreads amount_search (grids targets obstacles times values) distances carried marks queue
    amount_spreads targets obstacles values carried =
        spreads_by_times amount_search targets obstacles values carried refl refl refl asked.ways asked.lengths.distances_length asked.lengths.marks_length asked.lengths.queue_length (asked.ways.within start)

    pub amount_begins : (targets : List ℕ) (values carried : List Float) → Begins amount_search targets times values distances carried marks queue
    amount_begins targets values carried = spreads_begin (amount_spreads targets targets values carried)

    module _
        {targets obstacles : List ℕ} {values carried : List Float} {begun : Buffers}
        (began : BeganTo amount_search targets times values (count size) carried begun)
      where
        pub amount_gains : {added' : List ℕ} → added' ≡ replicate (length added) 0 → Gaining amount_search (terrain obstacles times) answer added' begun
        amount_gains cleared =
            let long = ap length cleared ∙ length-replicate (length added) 0 in
            record {
              running = begun_runs (amount_spreads targets obstacles values carried) began;
              numbered = refl;
              answer_length = asked.lengths.answer_length;
              added_length = long ∙ asked.lengths.added_length;
              none_added = cleared ∙ ap (λ n. replicate n 0) (sym long);
            }

        -- The taken cells are those of the rules' net, so that those that gained are too.
        pub amount_searched :
            {amount : Float} {answer' distances' carried' : List Float} {marks' added' queue' : List ℕ} {r : ℕ}
            → GainedAll amount_search (terrain obstacles times) amount answer begun answer' distances' carried' marks' added' queue' r
            → SearchedAmount size times limit start amount answer answer' distances' marks' added' queue' r
        unfolding gaining from_amount
        amount_searched {amount} found =
            let spreads = amount_spreads targets obstacles values carried in
            let ends = ends_as spreads began found.ran (from_amount (grid size times) limit start) refl (amount_agrees amount_search (grids targets obstacles times values) start refl) in
            record {
              lengths = record {
                answer_length = found.answer_length;
                distances_length = found.ran.lengths.distances_length;
                marks_length = found.ran.lengths.marks_length;
                added_length = found.added_length;
                queue_length = found.ran.lengths.queue_length;
              };
              gained = found.gained _ (begun_ready spreads began) ∙ ap (λ taken. gain amount answer (gaining_of limit taken)) (sym ends.traced);
              counted = ends.counted;
            }

-- ---- one cell

module _ {size : Size} {times amounts : List Float} {limit : Float} {cell : ℕ} {answer : List Float} where
  pub cell_searched :
      {answer' distances' : List Float} {marks' added' queue' : List ℕ} {r : ℕ} → counts (grid size amounts) cell ≡ true
      → SearchedAmount size times limit cell (float (grid size amounts) cell) answer answer' distances' marks' added' queue' r
      → SearchedCell size times amounts limit cell answer answer' distances' marks' added' queue' r
  cell_searched is found = record {
    lengths = found.lengths;
    gained = found.gained ∙ ap (λ b. cond b (gain (float (grid size amounts) cell) answer (gaining (grid size times) limit cell)) answer) (sym is);
    counted = found.counted ∙ ap (λ b. cond b (takes_of (from_amount (grid size times) limit cell)) 0) (sym is);
  }

  pub cell_passed :
      {distances : List Float} {marks added queue : List ℕ} → counts (grid size amounts) cell ≡ false → Lengths size answer distances marks added queue
      → SearchedCell size times amounts limit cell answer answer distances marks added queue 0
  cell_passed is lengths = record {
    lengths = lengths;
    gained = ap (λ b. cond b (gain (float (grid size amounts) cell) answer (gaining (grid size times) limit cell)) answer) (sym is);
    counted = ap (λ b. cond b (takes_of (from_amount (grid size times) limit cell)) 0) (sym is);
  }

-- ---- all cells

module _ (size : Size) (times amounts : List Float) (limit : Float) where
  -- What one run adds.
  abbrev pub gain_run : List Float → Run → List Float
  gain_run answer run = gain (float (grid size amounts) run.from) answer (gaining (grid size times) limit run.from)

  abbrev pub amount_runs : ℕ → List Run
  amount_runs i = runs_to (counts (grid size amounts)) (from_amount (grid size times) limit) i

  -- The runs from the first i cells are made.
  pub record SummedTo (i : ℕ) (answer distances : List Float) (marks added queue : List ℕ) (total : ℕ) : Type 0 where
    pub asked : Searching size times limit answer distances marks added queue
    pub gained : answer ≡ foldl gain_run (replicate (count size) plus_zero) (amount_runs i)
    pub counted : total ≡ summed_takes 0 (amount_runs i)

module _ {size : Size} {times amounts : List Float} {limit : Float} where
  pub none_summed :
      {answer distances : List Float} {marks added queue : List ℕ} → SearchingAll size times amounts limit answer distances marks added queue
      → SummedTo size times amounts limit 0 answer distances marks added queue 0
  unfolding passing
  none_summed asked = record { asked = asked.asked; gained = asked.none_gained; counted = refl }

  module _
      {i : ℕ} {answer distances : List Float} {marks added queue : List ℕ} {total : ℕ}
      (at : SummedTo size times amounts limit i answer distances marks added queue total)
      {answer' distances' : List Float} {marks' added' queue' : List ℕ} {r : ℕ}
      (found : SearchedCell size times amounts limit i answer answer' distances' marks' added' queue' r)
    where
      pub next_summed : SummedTo size times amounts limit (i + 1) answer' distances' marks' added' queue' (total + r)
      next_summed = record {
        asked = record { ways = at.asked.ways; lengths = found.lengths };
        gained =
            found.gained
            ∙ ap (λ l. cond (counts (grid size amounts) i) (gain_run size times amounts limit l (run_of (from_amount (grid size times) limit) i)) l) at.gained
            ∙ sym (fold_next (counts (grid size amounts)) (from_amount (grid size times) limit) (gain_run size times amounts limit) (replicate (count size) plus_zero) i);
        counted = total_next (counts (grid size amounts)) (from_amount (grid size times) limit) i at.counted found.counted;
      }

      pub sum_fits : i < count size → Fits w64 (total + r)
      sum_fits inside = total_fits (counts (grid size amounts)) (from_amount (grid size times) limit) at.asked.ways i inside at.counted found.counted

  pub all_summed :
      {answer distances : List Float} {marks added queue : List ℕ} {total : ℕ} → SummedTo size times amounts limit (count size) answer distances marks added queue total
      → SearchedAll size times amounts limit answer distances marks added queue total
  unfolding gains runs_8
  all_summed at = record {
    lengths = at.asked.lengths;
    gained = at.gained;
    counted = at.counted ∙ total_of_runs (counts (grid size amounts)) (from_amount (grid size times) limit) at.asked.ways;
  }
