use Rattle.calls.proofs.Turns.{MappedBelow}
use Rattle.calls.proofs.filling.fill.Given as goal

abbrev pub invariant-loop-cell : goal.invariant-loop-cell
invariant-loop-cell g l = MappedBelow (λ _. l.value) l.initial.cells l.cells l.cell-index
