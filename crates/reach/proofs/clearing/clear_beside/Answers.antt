-- `clearing::clear_beside` meets its contract: before each turn the cells beside those that were passed are put back. Assumes nothing.
use Rattle.reach.proofs.PutBack.{beside_none_back, beside_back}
use Rattle.reach.proofs.clearing.clear_beside.Goals as goal

pub loop-cell-init : goal.loop-cell-init
loop-cell-init c = beside_none_back c.args.size c.args.met.now c.args.listed.now

pub loop-cell-preserved : goal.loop-cell-preserved
loop-cell-preserved c = let at = c.loop-cell in beside_back c.args.size c.args.met.now c.args.listed.now at.cell-index c.loop-cell-test.true at.invariant c.clear_around.ensures
