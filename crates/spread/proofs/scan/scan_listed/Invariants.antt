use Rattle.spread.specs.Steps.{ground_of}
use Rattle.spread.specs.Buffers.{held, SameLoans, scanning, Does}
use Rattle.spread.specs.Loop.{left_label, listed_steps}
use Rattle.spread.proofs.Scans.{straights}
use Rattle.spread.proofs.scan.scan_listed.Given as goal

abbrev pub invariant-loop-k : goal.invariant-loop-k
invariant-loop-k g l = Does l.search (scanning (left_label l.search l.left) (listed_steps l.search (ground_of l.ground) l.left.cell l.cells (straights l.straight l.k) l.k)) (held l.initial.b) (held l.b)
    × SameLoans l.initial.b l.b
