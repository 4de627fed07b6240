-- `mask_cell::sum_from` meets its contract. Assumes nothing.
use Rattle.sums.proofs.FromMaskCells.{reached_cells, reached_beside, reached_clearing, summed_from}
use Rattle.sums.proofs.mask_cell.sum_from.Goals as goal

pub is_over_budget-over-requires : goal.is_over_budget-over-requires
is_over_budget-over-requires c = reached_cells c.requires c.reach_from-reached.ensures

pub sum_reached-sum-requires : goal.sum_reached-sum-requires
sum_reached-sum-requires c = reached_beside c.requires c.reach_from-reached.ensures

pub clear_distances-requires : goal.clear_distances-requires
clear_distances-requires c = reached_cells c.requires c.reach_from-reached.ensures

pub clear_met-requires : goal.clear_met-requires
clear_met-requires c = reached_clearing c.requires c.reach_from-reached.ensures c.sum_reached-sum.ensures.marks.long

pub returns-then-over : goal.returns-then-over
returns-then-over c = rw c.if-over.true at (summed_from c.requires c.reach_from-reached.ensures c.is_over_budget-over.ensures c.sum_reached-sum.ensures c.infinity.ensures c.clear_distances.ensures c.clear_met.ensures)

pub returns : goal.returns
returns c = rw c.if-over.false at (summed_from c.requires c.reach_from-reached.ensures c.is_over_budget-over.ensures c.sum_reached-sum.ensures c.infinity.ensures c.clear_distances.ensures c.clear_met.ensures)
