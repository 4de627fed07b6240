use Prim.Native.Nat.{◌+◌, ◌≤◌}
use lib.ListN.{take}
use Rattle.cells.specs.Storing.{Stored}
use Rattle.cells.proofs.neighbours.store_neighbours.Given as goal

abbrev pub invariant-loop-offset : goal.invariant-loop-offset
invariant-loop-offset l = Stored l.size l.place (take l.offset-index l.offsets) l.initial.near l.near × (l.near.count ≤ l.initial.near.count + l.offset-index)
