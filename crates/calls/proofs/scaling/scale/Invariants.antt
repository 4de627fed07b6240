use lib.Ieee.{binary32, mul}
use Rattle.calls.proofs.Turns.{MappedBelow}
use Rattle.calls.proofs.scaling.scale.Given as goal

abbrev pub invariant-loop-distance : goal.invariant-loop-distance
invariant-loop-distance l = MappedBelow (λ d. mul binary32 d l.cell_size) l.initial.distances l.distances l.distance-index
