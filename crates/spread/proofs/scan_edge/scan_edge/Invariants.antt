use Rattle.spread.specs.Steps.{ground_of}
use Rattle.spread.specs.Buffers.{held, SameLoans, scanning, Does}
use Rattle.spread.specs.Loop.{left_label}
use Rattle.spread.proofs.EdgeScans.{first_steps}
use Rattle.spread.proofs.scan_edge.scan_edge.Given as goal

abbrev pub invariant-loop-k : goal.invariant-loop-k
invariant-loop-k g l = Does l.search (scanning (left_label l.search l.left) (first_steps l.search (ground_of l.ground) l.left.cell l.k)) (held l.initial.b) (held l.b) × SameLoans l.initial.b l.b
