use mathlib.Core.Path.{◌≡◌}
use Prim.Native.Nat.{◌+◌, ◌*◌}
use lib.ListN.{drop}
use Rattle.gridfile.specs.Answers.{float_bytes}
use Rattle.gridfile.proofs.Stores.{Left}
use Rattle.gridfile.proofs.answers.put_floats.Given as goal

abbrev pub invariant-loop-x : goal.invariant-loop-x
invariant-loop-x l = (l.next ≡ l.at + 4 * l.x-index) × Left l.initial.output l.at (float_bytes l.grid) l.output l.next (float_bytes (drop l.x-index l.grid))
