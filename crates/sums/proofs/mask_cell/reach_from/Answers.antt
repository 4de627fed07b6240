-- `mask_cell::reach_from` meets its contract. Assumes nothing.
use mathlib.Core.List.{[]}
use Rattle.sums.proofs.FromMaskCells.{mask_began, mask_lists, start_joins, mask_reached}
use Rattle.sums.proofs.mask_cell.reach_from.Goals as goal

pub run_listing-reached-requires : goal.run_listing-reached-requires
run_listing-reached-requires c = mask_lists _ _ _ _ c.requires (mask_began _ _ _ _ c.requires [] [] _ c.begin_at-ring.ensures)

pub list_cell-count-requires : goal.list_cell-count-requires
list_cell-count-requires c = start_joins _ _ _ _ c.requires (mask_began _ _ _ _ c.requires [] [] _ c.begin_at-ring.ensures) c.run_listing-reached.ensures

pub returns : goal.returns
returns c = mask_reached _ _ _ _ c.requires (mask_began _ _ _ _ c.requires [] [] _ c.begin_at-ring.ensures) c.run_listing-reached.ensures c.list_cell-count.ensures
