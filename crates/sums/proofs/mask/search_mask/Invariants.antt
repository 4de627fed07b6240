use Rattle.sums.proofs.MaskRuns.{MaskTo}
use Rattle.sums.proofs.mask.search_mask.Given as goal

abbrev pub invariant-loop-cell : goal.invariant-loop-cell
invariant-loop-cell l = let w = l.within in MaskTo w.size w.mask.now w.times.now w.values.now w.limit w.include_adjacent l.cell l.answer l.distances l.marks l.listed l.met l.queue l.total
