-- `mask_cell::sum_reached` meets its contract. Assumes nothing.
use Rattle.sums.proofs.FromMaskCells.{sum_with, sum_without}
use Rattle.sums.proofs.mask_cell.sum_reached.Goals as goal

pub returns-then-include_adjacent : goal.returns-then-include_adjacent
returns-then-include_adjacent c = sum_with c.add_listed-sum.ensures c.if-include_adjacent.true c.add_adjacent.ensures

pub returns : goal.returns
returns c = sum_without c.add_listed-sum.ensures c.if-include_adjacent.false c.requires.marks
