use Rattle.std.proofs.Common.{◌≡◌}
use Rattle.calls.proofs.scaling.settle.Given as goal

abbrev pub invariant-loop-cell : goal.invariant-loop-cell
invariant-loop-cell l = l.answer ≡ l.initial.answer
