use mathlib.Core.Bool.{false}
use mathlib.Core.Path.{◌≡◌}
use lib.ListN.{take}
use Rattle.rules.specs.Sizes.{any}
use Rattle.rules.specs.Sums.{above_budget}
use Rattle.reach.proofs.summing.Reach.is_over_budget.Given as goal

abbrev pub invariant-loop-cell : goal.invariant-loop-cell
invariant-loop-cell l = any (above_budget l.self.distances.now l.self.budget) (take l.cell-index l.listed) ≡ false
