use Prim.Native.Nat.{◌-◌}
use Rattle.spread.specs.Steps.{ground_of}
use Rattle.spread.specs.Buffers.{held, SameLoans}
use Rattle.spread.specs.Loop.{TookUpTo}
use Rattle.spread.proofs.run.run.Given as goal

abbrev pub invariant-loop-takes : goal.invariant-loop-takes
invariant-loop-takes g l = TookUpTo l.search (ground_of l.ground) l.most (held l.initial.b) (held l.b) l.takes × SameLoans l.initial.b l.b

abbrev pub decreases-loop-takes : goal.decreases-loop-takes
decreases-loop-takes g l = l.most - l.takes
