-- `mask::search_mask` meets its contract: before each turn the runs from the cells passed are made, and none is over the budget. Assumes nothing.
use mathlib.Core.Path.{◌≡◌, ◌∙◌}
use native.Mathlib.Omega.{arith}
use Rattle.std.proofs.Common.{rules}
use Rattle.rules.specs.Sizes.{count}
use Rattle.sums.proofs.MaskRuns.{none_searched, next_searched, takes_fit, mask_over, mask_all}
use Rattle.sums.proofs.mask.search_mask.Goals as goal

pub loop-cell-init : goal.loop-cell-init
loop-cell-init c = none_searched c.requires c.infinity.ensures c.begin_clear.ensures c.fill.ensures

pub returns-in_err-takes : goal.returns-in_err-takes
returns-in_err-takes c =
    let over = c.in_err-takes.was in
    let made = c.from_residual.ensures in
    let same : c.from_residual.result ≡ c.search_cell.result = search rules in
    rw (same ∙ over) (mask_over c.loop-cell.invariant c.search_cell.ensures (rw c.cell_count-end.ensures at c.loop-cell-test.true) over)

pub overflow_add-total : goal.overflow_add-total
overflow_add-total c = takes_fit c.loop-cell.invariant c.search_cell.ensures c.in_ok-takes.was (rw c.cell_count-end.ensures at c.loop-cell-test.true)

pub loop-cell-preserved : goal.loop-cell-preserved
loop-cell-preserved c = next_searched c.loop-cell.invariant c.search_cell.ensures c.in_ok-takes.was

pub returns : goal.returns
returns c =
    let end = c.cell_count-end.ensures in
    let past = c.loop-cell-test.false in
    let all : c.loop-cell.cell ≡ count c.args.within.size = omega arith in
    mask_all (rw all at c.loop-cell.invariant)
