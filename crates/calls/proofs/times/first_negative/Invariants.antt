use Prim.Native.Nat.{◌≤◌}
use lib.ListN.{length}
use Rattle.rules.specs.Sizes.{cells_max, below_zero}
use Rattle.calls.proofs.RowScans.{AtRow, AtColumn}
use Rattle.calls.proofs.times.first_negative.Given as goal

abbrev pub invariant-loop-col : goal.invariant-loop-col
invariant-loop-col l = AtColumn below_zero l.times l.rows l.cols l.row l.col × (length l.times ≤ cells_max)

abbrev pub invariant-loop-row : goal.invariant-loop-row
invariant-loop-row l = AtRow below_zero l.times l.rows l.cols l.row × (length l.times ≤ cells_max)
