-- The runs from the starts up to a cell, in row order: one cell more, and that the total of their takes fits 64 bits. Assumes nothing.
use mathlib.Core.Bool.{Bool, true, false, cond}
use mathlib.Core.List.{List, [], ◌∷◌, ◌++◌, map, map-append, foldl, foldl-append}
use mathlib.Core.Path.{◌≡◌, refl, sym, ap, ◌∙◌}
use Prim.Native.Nat.{ℕ, suc, ◌+◌, ◌-◌, ◌*◌, ◌≤◌, ◌<◌}
use native.Mathlib.Nat.{zero-add, le_refl, mul-le-mul, lt_of_le_of_lt}
use native.Mathlib.Omega.{arith}
use lib.Dec.{lit<}
use lib.Ieee.{Float}
use lib.ListN.{length}
use mir.Syntax.{w64}
use mir.Val.{Fits}
use Rattle.fifo.specs.Machine.{Net, passing, takes_of}
use Rattle.fifo.proofs.Ranges.{passing_append, passing_last, length_passing}
use Rattle.rules.specs.declared.Size.{Size}
use Rattle.rules.specs.Sizes.{cells_max, count}
use Rattle.rules.specs.Sums.{Run, run_of, summed_takes, total_takes}
use Rattle.rules.proofs.Inputs.{cells_at_most}
use Rattle.rules.proofs.Totals.{most_takes, within_most, summed_at_most, total_is_sum}
use Rattle.sums.specs.Ways.{Ways}

module _ (test : ℕ → Bool) (net : ℕ → Net Float) where
  -- The runs from those of the first i cells that pass the test.
  abbrev pub runs_to : ℕ → List Run
  runs_to i = map (run_of net) (passing test 0 i)

  -- One cell more is one run more, if it passes.
  pub runs_next : (i : ℕ) → runs_to (i + 1) ≡ runs_to i ++ map (run_of net) (cond (test i) (i ∷ []) [])
  runs_next i = ap (map (run_of net)) (passing_last test i) ∙ map-append (run_of net) (passing test 0 i) (cond (test i) (i ∷ []) [])

  -- The run from a cell that passes comes right after those from the cells before it.
  pub runs_split : (i n : ℕ) → i < n → test i ≡ true → (rest : List Run) × (runs_to n ≡ runs_to i ++ run_of net i ∷ rest)
  unfolding passing
  runs_split i n below is =
      let k = n - i - 1 in
      let sum : n ≡ i + suc k = omega arith in
      let later = passing test (suc i) k in (
        map (run_of net) later,
        ap (λ m. map (run_of net) (passing test 0 m)) sum
            ∙ ap (map (run_of net)) (passing_append test 0 i (suc k)
            ∙ ap (λ m. passing test 0 i ++ passing test m (suc k)) (zero-add i)
            ∙ ap (λ b. passing test 0 i ++ cond b (i ∷ later) later) is)
            ∙ map-append (run_of net) (passing test 0 i) (i ∷ later),
      )

  pub fold_next :
      {A : Type 0} (step : A → Run → A) (a : A) (i : ℕ)
      → foldl step a (runs_to (i + 1)) ≡ cond (test i) (step (foldl step a (runs_to i)) (run_of net i)) (foldl step a (runs_to i))
  fold_next {A} step a i =
      ap (foldl step a) (runs_next i)
      ∙ foldl-append step a (runs_to i) (map (run_of net) (cond (test i) (i ∷ []) []))
      ∙ one (test i) (foldl step a (runs_to i))
    where
      one : (b : Bool) (x : A) → foldl step x (map (run_of net) (cond b (i ∷ []) [])) ≡ cond b (step x (run_of net i)) x
      one true x = refl
      one false x = refl

  -- The total with one run more.
  pub total_next :
      (i : ℕ) {total r : ℕ} → total ≡ summed_takes 0 (runs_to i) → r ≡ cond (test i) (takes_of (net i)) 0 → total + r ≡ summed_takes 0 (runs_to (i + 1))
  total_next i {total} {r} so_far more =
      ap (λ t. t + r) so_far ∙ ap (λ t. summed_takes 0 (runs_to i) + t) more ∙ chosen (test i) (summed_takes 0 (runs_to i)) ∙ sym (fold_next _ 0 i)
    where
      chosen : (b : Bool) (sum : ℕ) → sum + cond b (takes_of (net i)) 0 ≡ cond b (sum + takes_of (net i)) sum
      chosen true sum = refl
      chosen false sum = omega arith

  module _ {size : Size} {times : List Float} (ways : Ways size times net) where
    few : count size ≤ cells_max
    few = cells_at_most size ways.bounds

    -- The search from one start takes at most the square.
    at_most : (start : ℕ) → takes_of (net start) ≤ most_takes
    unfolding takes_of
    at_most start = within_most (ways.within start ((net start).cells * (net start).cells)) few

    -- The total stays far below what 64 bits hold.
    pub total_fits :
        (i : ℕ) {total r : ℕ} → i < count size → total ≡ summed_takes 0 (runs_to i) → r ≡ cond (test i) (takes_of (net i)) 0 → Fits w64 (total + r)
    total_fits i {total} {r} inside so_far more =
        let sum = total_next i so_far more in
        let bound = summed_at_most net at_most 0 (passing test 0 (i + 1)) in
        let starts = length_passing test 0 (i + 1) in
        let cells = few in
        let starts_few : length (passing test 0 (i + 1)) ≤ cells_max = omega arith in
        let many : length (passing test 0 (i + 1)) * most_takes ≤ cells_max * most_takes = mul-le-mul starts_few (le_refl most_takes) in
        let together : total + r ≤ cells_max * most_takes = omega arith in
        record { fits = lt_of_le_of_lt together (lit< tt) }

    -- So the total of the rules is not cut off.
    pub total_of_runs : summed_takes 0 (runs_to (count size)) ≡ total_takes (runs_to (count size))
    total_of_runs = sym (total_is_sum net at_most test (count size) few)
