-- `begin::begin_each` meets its contract: before each turn the cells that were passed have begun, for every search that begins so. Assumes nothing.
use mathlib.Core.Path.{◌≡◌}
use native.Mathlib.Omega.{arith}
use Rattle.rules.specs.Sizes.{count}
use Rattle.spread.proofs.Beginning.{begins_cell, cell_begun, none_begun, began_on}
use Rattle.spread.proofs.begin.begin_each.Goals as goal

pub loop-cell-init : goal.loop-cell-init
loop-cell-init g c = λ search all each. none_begun each.lengths c.new-ring.ensures

pub begin_cell-ring-requires : goal.begin_cell-ring-requires
begin_cell-ring-requires g c =
    let all = c.cell_count-end.ensures in
    begins_cell c.requires (c.loop-cell.invariant c.args.search all c.requires).begun (rw all at c.loop-cell-test.true)

pub loop-cell-preserved : goal.loop-cell-preserved
loop-cell-preserved g c = λ search all each. let began = c.loop-cell.invariant search all each in began_on began (cell_begun each began.begun (rw all at c.loop-cell-test.true) c.begin_cell-ring.ensures)

pub returns : goal.returns
returns g c =
    let began = c.loop-cell.invariant c.args.search c.cell_count-end.ensures c.requires in
    let least = c.loop-cell.auto.cell-end in
    let done = c.loop-cell-test.false in
    let counted = c.cell_count-end.ensures in
    let all : c.loop-cell.cell ≡ count c.args.search.size = omega arith in
    rw all at began
