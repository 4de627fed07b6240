use lib.ListN.{take}
use Rattle.rules.specs.Cells.{neighbours}
use Rattle.rules.specs.Sums.{adjacent_offsets}
use Rattle.reach.specs.Adjacent.{Adjoins}
use Rattle.reach.proofs.adjacent.add_around.Given as goal

abbrev pub invariant-loop-offset : goal.invariant-loop-offset
invariant-loop-offset l = Adjoins l.reach.values.now l.reach.distances.now l.reach.budget (neighbours l.reach.size l.cell (take l.offset-index adjacent_offsets)) l.initial.met l.sum l.met l.total
