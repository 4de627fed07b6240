use Prim.Native.Nat.{◌+◌, ◌-◌, ◌*◌}
use Rattle.gridfile.specs.Contents.{floats_from}
use Rattle.gridfile.proofs.Stores.{Left}
use Rattle.gridfile.proofs.contents.read_floats.Given as goal

abbrev pub invariant-loop-i : goal.invariant-loop-i
invariant-loop-i l = Left l.initial.cell-items 0 (floats_from l.file l.part.start l.count) l.cell-items l.i (floats_from l.file (l.part.start + 4 * l.i) (l.count - l.i))
