-- `neighbours::neighbour_at` meets its contract. Assumes nothing.
use mathlib.Core.Path.{◌≡◌}
use mathlib.Core.Bool.{Bool, true}
use borrow.Author.Tests.{not-true, not-false}
use lib.IntN.{◌+ℤ◌}
use Rattle.rules.specs.Cells.{within}
use Rattle.cells.specs.Storing.{row_part, col_part}
use Rattle.cells.proofs.Storing.{to_col_fits, row_tested, col_tested, stepped_in_grid, stepped_index, row_outside, col_outside, leads_to}
use Rattle.cells.proofs.neighbours.neighbour_at.Goals as goal
use Rattle.cells.proofs.neighbours.neighbour_at.Goals.{After-inside, After-inside-2, Else-not-inside, Else-not-inside-2}

-- What the test of the rows says, and then that of the columns.
row_test : (c : After-inside) {tested : Bool} → c.inside.result ≡ tested → let a = c.args in within a.size.rows (a.place.row +ℤ row_part a.offset) ≡ tested
row_test c e = row_tested c.args.size c.args.place c.requires c.inside.ensures e

row_here : (c : Else-not-inside) → let a = c.args in within a.size.rows (a.place.row +ℤ row_part a.offset) ≡ true
row_here c = (row_tested c.args.size c.args.place c.requires c.inside.ensures (not-false c.inside.result c.if-not-inside.false-raw))

col_test : (c : After-inside-2) {tested : Bool} → c.inside-2.result ≡ tested → let a = c.args in within a.size.cols (a.place.col +ℤ col_part a.offset) ≡ tested
col_test c e = col_tested c.args.size c.args.place c.requires c.inside-2.ensures e

col_here : (c : Else-not-inside-2) → let a = c.args in within a.size.cols (a.place.col +ℤ col_part a.offset) ≡ true
col_here c = (col_tested c.args.size c.args.place c.requires c.inside-2.ensures (not-false c.inside-2.result c.if-not-inside-2.false-raw))

pub overflow_add-col : goal.overflow_add-col
overflow_add-col c = to_col_fits c.args.size c.args.place c.requires

pub returns-then-not-inside : goal.returns-then-not-inside
returns-then-not-inside c =
    let a = c.args in
    row_outside a.size a.place a.offset (row_test (goal.at.returns-then-not-inside c).After-inside (not-true c.inside.result c.if-not-inside.true-raw))

pub returns-then-not-inside-2 : goal.returns-then-not-inside-2
returns-then-not-inside-2 c =
    let a = c.args in
    col_outside a.size a.place a.offset (row_here (goal.at.returns-then-not-inside-2 c).Else-not-inside)
    (col_test (goal.at.returns-then-not-inside-2 c).After-inside-2 (not-true c.inside-2.result c.if-not-inside-2.true-raw))

pub index-requires : goal.index-requires
index-requires c =
    stepped_in_grid c.args.size c.args.place c.requires (row_here (goal.at.index-requires c).Else-not-inside) (col_here (goal.at.index-requires c).Else-not-inside-2)

pub returns : goal.returns
returns c =
    let a = c.args in
    leads_to a.size a.place a.offset (row_here (goal.at.returns c).Else-not-inside) (col_here (goal.at.returns c).Else-not-inside-2)
    (stepped_index a.size a.place c.requires c.index.ensures)
