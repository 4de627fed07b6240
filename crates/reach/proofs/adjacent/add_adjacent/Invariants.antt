use lib.ListN.{take}
use Rattle.reach.specs.Adjacent.{beside, Adjoins}
use Rattle.reach.proofs.adjacent.add_adjacent.Given as goal

abbrev pub invariant-loop-cell : goal.invariant-loop-cell
invariant-loop-cell l = Adjoins l.reach.values.now l.reach.distances.now l.reach.budget (beside l.reach.size (take l.cell-index l.listed)) l.initial.met l.sum l.met l.total
