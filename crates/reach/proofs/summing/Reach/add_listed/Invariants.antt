use mathlib.Core.Path.{◌≡◌}
use lib.ListN.{take}
use Rattle.binary32.specs.Numbers.{plus_zero}
use Rattle.rules.specs.Sums.{add_values}
use Rattle.reach.proofs.summing.Reach.add_listed.Given as goal

abbrev pub invariant-loop-cell : goal.invariant-loop-cell
invariant-loop-cell l = l.sum ≡ add_values l.self.values.now plus_zero (take l.cell-index l.listed)
