use Prim.Native.Nat.{◌*◌, ◌-◌}
use Rattle.rules.specs.Sizes.{count}
use Rattle.spread.specs.Steps.{ground_of}
use Rattle.spread.specs.Buffers.{held, SameLoans}
use Rattle.sums.proofs.Gains.{GainTurn}
use Rattle.sums.proofs.gain.run_gaining.Given as goal

abbrev pub invariant-loop-ground : goal.invariant-loop-ground
invariant-loop-ground l = GainTurn l.search (ground_of l.ground) l.amount l.initial.answer (held l.initial.b) (held l.b) l.answer l.added l.takes × SameLoans l.initial.b l.b

abbrev pub decreases-loop-ground : goal.decreases-loop-ground
decreases-loop-ground l = count l.search.size * count l.search.size - l.takes
