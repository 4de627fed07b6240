-- Small nets on which the checker computes the whole search.
use mathlib.Core.List.{[], ◌∷◌}
use mathlib.Core.Path.{◌≡◌, refl}
use Prim.Native.Nat.{◌+◌, ◌/◌, ◌%◌}
use Rattle.fifo.specs.Machine.{table, initial, trace, finish, takes_of, computing}
use Rattle.fifo.proofs.Nets.{net_of, row_steps, corrected_early, corrected_late, grid_steps}

pub row_finish : finish (net_of 10 row_steps) ≡ record { labels = 0 ∷ 1 ∷ 2 ∷ []; waiting = []; entered = 0 ∷ 1 ∷ 2 ∷ [] }
unfolding computing
row_finish = refl

pub row_takes : takes_of (net_of 10 row_steps) ≡ 3
unfolding computing
row_takes = refl

-- A candidate that equals the cap is not stored.
pub row_capped_takes : takes_of (net_of 2 row_steps) ≡ 2
unfolding computing
row_capped_takes = refl

-- A cell that is corrected while it waits is taken once.
pub corrected_early_trace : trace corrected_early 9 (initial corrected_early) ≡ (0, 0) ∷ (1, 1) ∷ (2, 2) ∷ []
unfolding computing
corrected_early_trace = refl

-- A cell that is corrected after it was taken is taken again, and stays where it was first entered.
pub corrected_late_trace : trace corrected_late 9 (initial corrected_late) ≡ (0, 0) ∷ (2, 5) ∷ (1, 1) ∷ (2, 2) ∷ []
unfolding computing
corrected_late_trace = refl

pub corrected_late_finish : finish corrected_late ≡ record { labels = 0 ∷ 1 ∷ 2 ∷ []; waiting = []; entered = 0 ∷ 2 ∷ 1 ∷ [] }
unfolding computing
corrected_late_finish = refl

pub eight_by_eight_takes : takes_of (net_of 100 (grid_steps 8 8)) ≡ 64
unfolding computing grid_steps
eight_by_eight_takes = refl

-- The label of each cell is its row plus its column.
pub eight_by_eight_labels : (finish (net_of 100 (grid_steps 8 8))).labels ≡ table (λ c. c / 8 + c % 8) 0 64
unfolding computing grid_steps
eight_by_eight_labels = refl
