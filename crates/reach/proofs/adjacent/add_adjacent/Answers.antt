-- `adjacent::add_adjacent` meets its contract: before each turn the cells beside those that were passed have been tried. Assumes nothing.
use lib.Seq.{take_all}
use Rattle.reach.proofs.Around.{beside_none, beside_more, all_added}
use Rattle.reach.proofs.adjacent.add_adjacent.Goals as goal

pub loop-cell-init : goal.loop-cell-init
loop-cell-init c = beside_none c.args.reach.size c.args.listed.now

pub loop-cell-preserved : goal.loop-cell-preserved
loop-cell-preserved c = let at = c.loop-cell in beside_more c.args.reach.size c.args.listed.now at.cell-index c.loop-cell-test.true at.invariant c.add_around-total.ensures

pub returns : goal.returns
returns c =
    let at = c.loop-cell in
    let past = c.loop-cell-test.false in
    all_added c.args.reach.budget c.args.sum c.requires (rw (take_all at.cell-index c.args.listed.now past) at at.invariant)
