-- `clearing::put_back` meets its contract: before each turn the cells that were passed are put back. Assumes nothing.
use mathlib.Core.Path.{sym}
use Rattle.reach.proofs.PutBack.{put_back_none, put_back_entry}
use Rattle.reach.proofs.clearing.put_back.Goals as goal

pub loop-cell-init : goal.loop-cell-init
loop-cell-init g c = sym (put_back_none c.args.value c.args.cells.now)

pub loop-cell-preserved : goal.loop-cell-preserved
loop-cell-preserved g c = let at = c.loop-cell in put_back_entry c.args.value c.args.cells.now c.args.listed.now at.cell-index c.loop-cell-test.true at.invariant
