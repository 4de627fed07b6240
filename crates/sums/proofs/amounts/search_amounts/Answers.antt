-- `amounts::search_amounts` meets its contract: before each turn the runs from the cells passed are made. Assumes nothing.
use mathlib.Core.Path.{◌≡◌}
use native.Mathlib.Omega.{arith}
use Rattle.rules.specs.Sizes.{count}
use Rattle.sums.proofs.FromAmounts.{none_summed, next_summed, sum_fits, all_summed}
use Rattle.sums.proofs.amounts.search_amounts.Goals as goal

pub loop-cell-init : goal.loop-cell-init
loop-cell-init c = none_summed c.requires

pub overflow_add-total : goal.overflow_add-total
overflow_add-total c = sum_fits c.loop-cell.invariant c.search_cell-takes.ensures (rw c.cell_count-end.ensures at c.loop-cell-test.true)

pub loop-cell-preserved : goal.loop-cell-preserved
loop-cell-preserved c = next_summed c.loop-cell.invariant c.search_cell-takes.ensures

pub returns : goal.returns
returns c =
    let end = c.cell_count-end.ensures in
    let past = c.loop-cell-test.false in
    let all : c.loop-cell.cell ≡ count c.args.asked.size = omega arith in
    all_summed (rw all at c.loop-cell.invariant)
