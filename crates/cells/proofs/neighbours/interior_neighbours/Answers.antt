-- `neighbours::interior_neighbours` meets its contract. Before each turn the offsets that were passed lead to the cells in the array. Assumes nothing.
use native.Mathlib.Omega.{arith}
use Rattle.cells.proofs.NeighbourArray.{none_filled}
use Rattle.cells.proofs.Interior.{steps_from, row_inside, col_inside, one_more_inside, all_inside}
use Rattle.cells.proofs.Storing.{stepped_in_grid, stepped_index, leads_to}
use Rattle.cells.proofs.neighbours.interior_neighbours.Goals as goal

pub loop-i-init : goal.loop-i-init
loop-i-init c = none_filled c.args.size c.args.cell

pub index-requires : goal.index-requires
index-requires c =
    let p = c.place_of-place in
    let i = c.loop-i.i in
    stepped_in_grid c.args.size p.result (steps_from c.requires i p.ensures) (row_inside c.requires i p.ensures) (col_inside c.requires i p.ensures)

pub loop-i-preserved : goal.loop-i-preserved
loop-i-preserved c =
    let p = c.place_of-place in
    let i = c.loop-i.i in
    let size = c.args.size in
    let steps = steps_from c.requires i p.ensures in
    let to = leads_to size p.result _ (row_inside c.requires i p.ensures) (col_inside c.requires i p.ensures) (stepped_index size p.result steps c.index.ensures) in
    one_more_inside c.requires c.loop-i.invariant c.loop-i-test.true (to.leads c.args.cell p.ensures)

pub returns : goal.returns
returns c = let few = c.loop-i.invariant.tried in let past = c.loop-i-test.false in all_inside c.requires (omega arith) c.loop-i.invariant
