-- `neighbours::store_neighbours` meets its contract: before each turn the neighbours at the offsets that were passed are stored. Assumes nothing.
use native.Mathlib.Nat.{add-zero}
use native.Mathlib.Omega.{arith}
use Rattle.cells.proofs.Edges.{step_at}
use Rattle.cells.proofs.Storing.{none_stored, more_stored}
use Rattle.cells.proofs.neighbours.store_neighbours.Goals as goal
use Rattle.cells.proofs.neighbours.store_neighbours.Goals.{in-Some, in_default}

pub loop-offset-init : goal.loop-offset-init
loop-offset-init c = (none_stored c.args.offsets.now, omega arith)

pub neighbour_at-requires : goal.neighbour_at-requires
neighbour_at-requires c = let steps = step_at c.requires.steps c.loop-offset.offset-index in record { stands = c.requires.stands; row_step = steps.0; col_step = steps.1 }

pub loop-offset-preserved : goal.loop-offset-preserved
loop-offset-preserved c =
    let more = more_stored c.args.offsets.now c.loop-offset-test.true c.neighbour_at.ensures c.loop-offset.invariant.0 in
    elim c.match-neighbour_at.branch [
      | in-Some w ↦ (rw w.near-is (rw w.in-Some.is at more), rw w.near-is (let few = c.loop-offset.invariant.1 in omega arith))
      | in_default w ↦ (rw w.near-is (rw add-zero at (rw w.in_default.is at more)), rw w.near-is (let few = c.loop-offset.invariant.1 in omega arith))
    ]
