-- The searches from the mask cells in row order, and refusal 7 at the first that is over the budget. Assumes nothing.
use mathlib.Core.Bool.{Bool, true, false, cond}
use mathlib.Core.List.{List, [], ◌∷◌, ◌++◌, map, map-append, foldl}
use mathlib.Core.Path.{◌≡◌, refl, sym, ap, ◌∙◌, subst}
use Prim.Native.Nat.{ℕ, ◌+◌, ◌<◌}
use lib.Ieee.{Float}
use lib.ListN.{length, set, replicate, length-set}
use mir.Syntax.{w64}
use mir.Val.{Fits}
use Rattle.std.specs.Prelude.{Result, Ok, Err}
use Rattle.binary32.specs.Numbers.{plus_zero}
use Rattle.fifo.specs.Machine.{passing}
use Rattle.rules.specs.declared.Size.{Size}
use Rattle.rules.specs.Numbers.{infinity}
use Rattle.rules.specs.Sizes.{Grid, grid, number_at, Judged, passes, stops, refused, accepted, unless, first_that_holds, count}
use Rattle.rules.specs.Distances.{target}
use Rattle.rules.specs.Sums.{Run, run_of, summed_takes, total_takes, from_mask_cell, runs_7, over_budget, sum_of, sums, refusal_7}
use Rattle.rules.proofs.Refusals.{later_decide}
use Rattle.spread.specs.Begin.{Clear}
use Rattle.sums.specs.declared.mask_cell.MaskSum.{MaskSum}
use Rattle.sums.specs.declared.mask_cell.OverBudget.{OverBudget}
use Rattle.sums.specs.Between.{BetweenStarts}
use Rattle.sums.specs.FromMask.{run_from, over_at, SummedFrom}
use Rattle.sums.specs.Mask.{Given, SearchedCell, SearchingMask, mask_outcome, SearchedMask}
use Rattle.sums.proofs.FromMaskCells.{mask_sum_of, between_lengths}
use Rattle.sums.proofs.Starts.{runs_to, runs_next, runs_split, fold_next, total_next, total_fits, total_of_runs}

-- ---- refusal 7

module _ (times : Grid Float) (limit : Float) where
  later_runs : (runs more : List Run) → refusal_7 times limit runs ≡ passes → refusal_7 times limit (runs ++ more) ≡ refusal_7 times limit more
  unfolding refusal_7
  later_runs runs more none =
      ap first_that_holds (map-append (over_budget times limit) runs more) ∙ later_decide (map (over_budget times limit) runs) (map (over_budget times limit) more) none

  -- A run that is over the budget is refused, with the index of its mask cell.
  first_over : (run : Run) (more : List Run) → (over_budget times limit run).0 ≡ true → refusal_7 times limit (run ∷ more) ≡ stops (number_at 7 run.from)
  unfolding refusal_7 first_that_holds
  first_over run more over = ap (λ b. cond b (stops (number_at 7 run.from)) (first_that_holds (map (over_budget times limit) more))) over

  module _ (test : ℕ → Bool) where
    abbrev runs : ℕ → List Run
    runs = runs_to test (from_mask_cell times)

    -- One cell more is not over the budget.
    none_over_next :
        (i : ℕ) → refusal_7 times limit (runs i) ≡ passes → cond (test i) (over_budget times limit (run_of (from_mask_cell times) i)).0 false ≡ false
        → refusal_7 times limit (runs (i + 1)) ≡ passes
    unfolding refusal_7 first_that_holds
    none_over_next i none within =
        ap (refusal_7 times limit) (runs_next test (from_mask_cell times) i)
        ∙ later_runs (runs i) (map (run_of (from_mask_cell times)) (cond (test i) (i ∷ []) [])) none
        ∙ one (test i) within
      where
        one :
            (b : Bool) → cond b (over_budget times limit (run_of (from_mask_cell times) i)).0 false ≡ false
            → refusal_7 times limit (map (run_of (from_mask_cell times)) (cond b (i ∷ []) [])) ≡ passes
        one true fine = ap (λ over. cond over (stops (number_at 7 i)) passes) fine
        one false fine = refl

    -- One that is, is the first in row order.
    over_at_first :
        (i n : ℕ) → i < n → refusal_7 times limit (runs i) ≡ passes → test i ≡ true → (over_budget times limit (run_of (from_mask_cell times) i)).0 ≡ true
        → refusal_7 times limit (runs n) ≡ stops (number_at 7 i)
    over_at_first i n below none selected over =
        let (rest, split) = runs_split test (from_mask_cell times) i n below selected in
        ap (refusal_7 times limit) split
        ∙ later_runs (runs i) (run_of (from_mask_cell times) i ∷ rest) none
        ∙ first_over (run_of (from_mask_cell times) i) rest over

-- ---- a result, by whether what it tells of is over the budget

module _ {A : Type 0} (over : OverBudget) (fine : A) where
  told_ok : (b : Bool) {told : A} → cond b (Err over) (Ok fine) ≡ Ok told → (b ≡ false) × (told ≡ fine)
  told_ok true same = let none : ⊥ = cc in absurd none
  told_ok false same = (refl, cc)

  told_err : (b : Bool) {told : OverBudget} → cond b (Err over) (Ok fine) ≡ Err told → (b ≡ true) × (told ≡ over)
  told_err true same = (refl, cc)
  told_err false same = let none : ⊥ = cc in absurd none

-- What the search from a cell comes to, and the answer that it leaves, by whether the mask selects the cell and whether it is over the budget.
abbrev pub came_to : ℕ → ℕ → Bool → Bool → Result ℕ OverBudget
came_to cell takes selected over = cond selected (cond over (Err (over_at cell)) (Ok takes)) (Ok 0)

abbrev pub left_at : List Float → List Float → Bool → Bool → List Float
left_at answer summed selected over = cond selected (cond over answer summed) answer

came_ok : (cell takes : ℕ) (b x : Bool) {told : ℕ} → came_to cell takes b x ≡ Ok told → (cond b x false ≡ false) × (told ≡ cond b takes 0)
came_ok cell takes true x same = told_ok (over_at cell) takes x same
came_ok cell takes false x same = (refl, cc)

came_err : (cell takes : ℕ) (b x : Bool) {told : OverBudget} → came_to cell takes b x ≡ Err told → (b ≡ true) × (x ≡ true) × (told ≡ over_at cell)
came_err cell takes true x same = let (over, equal) = told_err (over_at cell) takes x same in (refl, over, equal)
came_err cell takes false x same = let none : ⊥ = cc in absurd none

left_within : (answer summed : List Float) (b x : Bool) → cond b x false ≡ false → left_at answer summed b x ≡ cond b summed answer
left_within answer summed true x within = ap (left_at answer summed true) within
left_within answer summed false x within = refl

-- ---- one cell

module _
    (size : Size) (mask : List ℕ) (times values : List Float) (limit : Float) (include_adjacent : Bool) (cell : ℕ) (answer : List Float)
    (answer_long : length answer ≡ count size)
  where
    abbrev run : Run
    run = run_from size times cell

    abbrev over : Bool
    over = (over_budget (grid size times) limit run).0

    abbrev sum : Float
    sum = sum_of (grid size times) (grid size values) limit include_adjacent run

    module _
        {distances' : List Float} {marks' listed' met' queue' : List ℕ} {r : Result MaskSum OverBudget} (is : target (grid size mask) cell ≡ true)
        (found : SummedFrom size times values limit include_adjacent cell distances' marks' listed' met' queue' r)
      where
        pub mask_searched :
            {told : MaskSum} → r ≡ Ok told
            → SearchedCell size mask times values limit include_adjacent cell answer (set answer cell told.sum) distances' marks' listed' met' queue' (Ok told.takes)
        mask_searched {told} fine =
            let (within, same) = told_ok (over_at cell) (mask_sum_of run.takes sum) over (sym found.says ∙ fine) in
            record {
              answer_length = length-set answer cell told.sum ∙ answer_long;
              between = found.between;
              says = ap (λ (m : MaskSum). Ok m.takes) same ∙ sym (ap (λ b. came_to cell run.takes b over) is ∙ ap (came_to cell run.takes true) within);
              answered =
                  ap (λ (m : MaskSum). set answer cell m.sum) same
                  ∙ sym (ap (λ b. left_at answer (set answer cell sum) b over) is ∙ ap (left_at answer (set answer cell sum) true) within);
            }

        pub mask_beyond :
            {told : OverBudget} → r ≡ Err told
            → SearchedCell size mask times values limit include_adjacent cell answer answer distances' marks' listed' met' queue' (Err told)
        mask_beyond beyond =
            let (over_is, same) = told_err (over_at cell) (mask_sum_of run.takes sum) over (sym found.says ∙ beyond) in
            record {
              answer_length = answer_long;
              between = found.between;
              says = ap (λ (e : OverBudget). Err e) same ∙ sym (ap (λ b. came_to cell run.takes b over) is ∙ ap (came_to cell run.takes true) over_is);
              answered = sym (ap (λ b. left_at answer (set answer cell sum) b over) is ∙ ap (left_at answer (set answer cell sum) true) over_is);
            }

    pub mask_passed :
        {distances : List Float} {marks listed met queue : List ℕ} → target (grid size mask) cell ≡ false → BetweenStarts size infinity distances marks listed met queue
        → SearchedCell size mask times values limit include_adjacent cell answer answer distances marks listed met queue (Ok 0)
    mask_passed is between = record {
      answer_length = answer_long;
      between = between;
      says = sym (ap (λ b. came_to cell run.takes b over) is);
      answered = sym (ap (λ b. left_at answer (set answer cell sum) b over) is);
    }

-- ---- all cells

module _ (size : Size) (mask : List ℕ) (times values : List Float) (limit : Float) (include_adjacent : Bool) where
  -- What one run answers.
  abbrev pub answer_run : List Float → Run → List Float
  answer_run answer run = set answer run.from (sum_of (grid size times) (grid size values) limit include_adjacent run)

  abbrev pub mask_runs : ℕ → List Run
  mask_runs i = runs_to (target (grid size mask)) (from_mask_cell (grid size times)) i

  -- The runs from the first i cells are made, and none is over the budget.
  pub record MaskTo (i : ℕ) (answer distances : List Float) (marks listed met queue : List ℕ) (total : ℕ) : Type 0 where
    pub given : Given size mask times values answer distances marks listed met queue
    pub between : BetweenStarts size infinity distances marks listed met queue
    pub answered : answer ≡ foldl answer_run (replicate (count size) plus_zero) (mask_runs i)
    pub counted : total ≡ summed_takes 0 (mask_runs i)
    pub none_over : refusal_7 (grid size times) limit (mask_runs i) ≡ passes

module _ {size : Size} {mask : List ℕ} {times values : List Float} where
  -- The grids are lent still, whatever a search left in the buffers.
  still_given :
      {answer answer' distances distances' : List Float} {marks marks' listed listed' met met' queue queue' : List ℕ} → Given size mask times values answer distances marks listed met queue
      → length answer' ≡ count size → BetweenStarts size infinity distances' marks' listed' met' queue' → Given size mask times values answer' distances' marks' listed' met' queue'
  still_given given answer_long between = record {
    ways = given.ways;
    mask_length = given.mask_length;
    values_length = given.values_length;
    answer_length = answer_long;
    lengths = between_lengths between;
  }

  pub mask_clears : {answer distances : List Float} {marks listed met queue : List ℕ} → SearchingMask size mask times values answer distances marks listed met queue → length marks ≡ length distances
  mask_clears asked = asked.given.lengths.marks_length ∙ sym asked.given.lengths.distances_length

module _ {size : Size} {mask : List ℕ} {times values : List Float} {limit : Float} {include_adjacent : Bool} where
  -- Before the first start no cell is reached and none is met.
  module _ {answer distances : List Float} {marks listed met queue : List ℕ} (asked : SearchingMask size mask times values answer distances marks listed met queue) where
    pub none_searched :
        {cap : Float} {distances₁ : List Float} {marks₁ met₁ : List ℕ} → cap ≡ infinity → Clear (length distances) cap distances₁ marks₁ → met₁ ≡ replicate (length met) 0
        → MaskTo size mask times values limit include_adjacent 0 answer distances₁ marks₁ listed met₁ queue 0
    unfolding passing refusal_7 first_that_holds
    none_searched {cap} {distances₁} {marks₁} {met₁} is clear cleared =
        let long = asked.given.lengths in
        let between : BetweenStarts size infinity distances₁ marks₁ listed met₁ queue = record {
          clear = subst (λ n. Clear n infinity distances₁ marks₁) long.distances_length (subst (λ d. Clear (length distances) d distances₁ marks₁) is clear);
          none_met = cleared ∙ ap (λ n. replicate n 0) long.met_length;
          listed_length = long.listed_length;
          queue_length = long.queue_length;
        } in
        record { given = still_given asked.given asked.given.answer_length between; between = between; answered = asked.none_answered; counted = refl; none_over = refl }

  module _
      {i : ℕ} {answer distances : List Float} {marks listed met queue : List ℕ} {total : ℕ}
      (at : MaskTo size mask times values limit include_adjacent i answer distances marks listed met queue total)
      {answer' distances' : List Float} {marks' listed' met' queue' : List ℕ} {r : Result ℕ OverBudget}
      (found : SearchedCell size mask times values limit include_adjacent i answer answer' distances' marks' listed' met' queue' r)
    where
      module _ {takes : ℕ} (fine : r ≡ Ok takes) where
        came : (cond (target (grid size mask) i) (over_budget (grid size times) limit (run_from size times i)).0 false ≡ false) × (takes ≡ cond (target (grid size mask) i) (run_from size times i).takes 0)
        came = came_ok i (run_from size times i).takes (target (grid size mask) i) (over_budget (grid size times) limit (run_from size times i)).0 (sym found.says ∙ fine)

        pub next_searched : MaskTo size mask times values limit include_adjacent (i + 1) answer' distances' marks' listed' met' queue' (total + takes)
        next_searched = record {
          given = still_given at.given found.answer_length found.between;
          between = found.between;
          answered =
              found.answered
              ∙ left_within answer (answer_run size mask times values limit include_adjacent answer (run_from size times i)) (target (grid size mask) i) (over_budget (grid size times) limit (run_from size times i)).0 came.0
              ∙ ap (λ l. cond (target (grid size mask) i) (answer_run size mask times values limit include_adjacent l (run_from size times i)) l) at.answered
              ∙ sym (fold_next (target (grid size mask)) (from_mask_cell (grid size times)) (answer_run size mask times values limit include_adjacent) (replicate (count size) plus_zero) i);
          counted = total_next (target (grid size mask)) (from_mask_cell (grid size times)) i at.counted came.1;
          none_over = none_over_next (grid size times) limit (target (grid size mask)) i at.none_over came.0;
        }

        pub takes_fit : i < count size → Fits w64 (total + takes)
        takes_fit inside = total_fits (target (grid size mask)) (from_mask_cell (grid size times)) at.given.ways i inside at.counted came.1

      -- The search from this cell is over the budget, those before it were not.
      pub mask_over : i < count size → {over : OverBudget} → r ≡ Err over → SearchedMask size mask times values limit include_adjacent answer' distances' marks' listed' met' queue' (Err over)
      unfolding mask_outcome runs_7
      mask_over inside {over} beyond =
          let (selected, is_over, same) = came_err i (run_from size times i).takes (target (grid size mask) i) (over_budget (grid size times) limit (run_from size times i)).0 (sym found.says ∙ beyond) in
          record {
            answer_length = found.answer_length;
            lengths = between_lengths found.between;
            outcome =
                ap (λ (o : OverBudget). refused (number_at 7 o.cell)) same
                ∙ sym (ap (λ (j : Judged). unless j (λ search. accepted (total_takes (mask_runs size mask times values limit include_adjacent (count size))) (sums (grid size times) (grid size values) limit include_adjacent (mask_runs size mask times values limit include_adjacent (count size)))))
                (over_at_first (grid size times) limit (target (grid size mask)) i (count size) inside at.none_over selected is_over));
          }

  pub mask_all :
      {answer distances : List Float} {marks listed met queue : List ℕ} {total : ℕ}
      → MaskTo size mask times values limit include_adjacent (count size) answer distances marks listed met queue total
      → SearchedMask size mask times values limit include_adjacent answer distances marks listed met queue (Ok total)
  unfolding mask_outcome runs_7 sums
  mask_all {answer = answer} at =
      let all = mask_runs size mask times values limit include_adjacent (count size) in
      record {
        answer_length = at.given.answer_length;
        lengths = at.given.lengths;
        outcome =
            ap (λ t. accepted t answer) (at.counted ∙ total_of_runs (target (grid size mask)) (from_mask_cell (grid size times)) at.given.ways)
            ∙ ap (accepted (total_takes all)) at.answered
            ∙ sym (ap (λ (j : Judged). unless j (λ search. accepted (total_takes all) (sums (grid size times) (grid size values) limit include_adjacent all))) at.none_over);
      }
