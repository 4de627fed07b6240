use Rattle.sums.proofs.FromAmounts.{SummedTo}
use Rattle.sums.proofs.amounts.search_amounts.Given as goal

abbrev pub invariant-loop-cell : goal.invariant-loop-cell
invariant-loop-cell l = let a = l.asked in SummedTo a.size a.times.now a.amounts.now a.limit l.cell l.answer l.distances l.marks l.added l.queue l.total
