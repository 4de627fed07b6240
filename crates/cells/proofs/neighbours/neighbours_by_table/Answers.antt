-- `neighbours::neighbours_by_table` meets its contract: the straight neighbours are stored, and then the diagonal ones. Assumes nothing.
use native.Mathlib.Omega.{arith}
use lib.ListN.{take}
use Rattle.rules.specs.Cells.{offsets}
use Rattle.cells.specs.Storing.{none, more, stay, on, back}
use Rattle.cells.proofs.NeighbourLists.{at_most_each}
use Rattle.cells.proofs.NeighbourArray.{both_stored}
use Rattle.cells.proofs.Storing.{cell_in_grid}
use Rattle.cells.proofs.neighbours.neighbours_by_table.Goals as goal

pub store_neighbours-requires : goal.store_neighbours-requires
store_neighbours-requires c = record { stands = cell_in_grid c.args.size c.args.cell c.requires c.place_of-place.ensures; steps = search (none, more, stay, on, back); free = omega arith }

pub store_neighbours-requires-2 : goal.store_neighbours-requires-2
store_neighbours-requires-2 c =
    let straight = c.store_neighbours.ensures.counted c.args.cell c.place_of-place.ensures in
    let few = at_most_each c.args.size c.args.cell (take 4 offsets) in
    record { stands = cell_in_grid c.args.size c.args.cell c.requires c.place_of-place.ensures; steps = search (none, more, on, back); free = omega arith }

pub returns : goal.returns
returns c =
    let u = c.args.cell in
    let is = c.place_of-place.ensures in
    let straight = c.store_neighbours.ensures in
    let diagonal = c.store_neighbours-2.ensures in
    both_stored c.requires (straight.stored u is) (straight.counted u is) (diagonal.stored u is) (diagonal.counted u is) diagonal.straight_stays
