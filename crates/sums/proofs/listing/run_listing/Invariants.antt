use Prim.Native.Nat.{◌*◌, ◌-◌}
use Rattle.rules.specs.Sizes.{count}
use Rattle.spread.specs.Steps.{ground_of}
use Rattle.spread.specs.Buffers.{held, SameLoans}
use Rattle.sums.proofs.ListedRuns.{ListTurn}
use Rattle.sums.proofs.listing.run_listing.Given as goal

abbrev pub invariant-loop-ground : goal.invariant-loop-ground
invariant-loop-ground l = ListTurn l.search (ground_of l.ground) (held l.initial.b) (held l.b) l.listed l.met l.entries l.takes × SameLoans l.initial.b l.b

abbrev pub decreases-loop-ground : goal.decreases-loop-ground
decreases-loop-ground l = count l.search.size * count l.search.size - l.takes
