-- `targets::sum_targets` meets its contract. Assumes nothing.
use Rattle.sums.proofs.TargetSums.{summed_promised}
use Rattle.sums.proofs.targets.sum_targets.Goals as goal

pub returns : goal.returns
returns c =
    summed_promised c.requires c.search_amounts-takes.ensures c.settle.ensures c.fill-2.ensures
    c.fill-3.ensures c.fill-4.ensures c.fill-5.ensures
