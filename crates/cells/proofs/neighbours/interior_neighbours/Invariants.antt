use Rattle.cells.proofs.NeighbourArray.{Filled}
use Rattle.cells.proofs.neighbours.interior_neighbours.Given as goal

abbrev pub invariant-loop-i : goal.invariant-loop-i
invariant-loop-i l = Filled l.size l.cell l.cells l.i l.i
