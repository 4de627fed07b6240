-- `begin::begin_cells` meets its contract. Assumes nothing.
use mathlib.Core.Path.{refl}
use Rattle.spread.proofs.Beginning.{begins_plain, begins_obstacles, begins_half_sum, begins_closest, begins_by_time}
use Rattle.spread.proofs.BeginningFrom.{began_mask_cell, began_amount}
use Rattle.spread.proofs.begin.begin_cells.Goals as goal

pub begin_each-requires : goal.begin_each-requires
begin_each-requires c = begins_plain c.requires c.in-Plain.is

pub begin_each-requires-in-Obstacles : goal.begin_each-requires-in-Obstacles
begin_each-requires-in-Obstacles c = begins_obstacles c.requires c.in-Obstacles.is c.infinity.ensures

pub begin_each-requires-in-HalfSum : goal.begin_each-requires-in-HalfSum
begin_each-requires-in-HalfSum c = begins_half_sum c.requires c.in-HalfSum.is

pub begin_each-requires-in-Closest : goal.begin_each-requires-in-Closest
begin_each-requires-in-Closest c = begins_closest c.requires c.in-Closest.is c.above_all.ensures

pub begin_each-requires-in-ByTime : goal.begin_each-requires-in-ByTime
begin_each-requires-in-ByTime c = begins_by_time c.requires c.in-ByTime.is

pub returns-in-FromMaskCell : goal.returns-in-FromMaskCell
returns-in-FromMaskCell c = began_mask_cell c.requires c.begin_from.ensures c.in-FromMaskCell.is c.infinity-in-FromMaskCell.ensures

pub returns-in-FromAmount : goal.returns-in-FromAmount
returns-in-FromAmount c = began_amount c.requires c.begin_from-in-FromAmount.ensures c.in-FromAmount.is refl
