-- `summing::Reach::add_listed` meets its contract: before each turn the values of the cells that were passed are added. Assumes nothing.
use mathlib.Core.Path.{sym}
use Rattle.binary32.specs.Numbers.{plus_zero}
use Rattle.reach.proofs.Sums.{added_none, added_entry}
use Rattle.reach.proofs.summing.Reach.add_listed.Goals as goal

pub loop-cell-init : goal.loop-cell-init
loop-cell-init c = sym (added_none c.args.self.values.now plus_zero)

pub loop-cell-preserved : goal.loop-cell-preserved
loop-cell-preserved c = let at = c.loop-cell in added_entry c.args.self.values.now plus_zero c.args.listed.now at.cell-index c.loop-cell-test.true at.invariant c.add_value-sum.ensures
