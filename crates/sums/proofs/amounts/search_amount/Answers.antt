-- `amounts::search_amount` meets its contract. Assumes nothing.
use Rattle.sums.proofs.FromAmounts.{amount_gains, amount_searched}
use Rattle.sums.proofs.amounts.search_amount.Goals as goal

pub run_gaining-requires : goal.run_gaining-requires
run_gaining-requires c = amount_gains _ _ _ _ c.requires c.begin_cells-ring.ensures c.fill.ensures

pub returns : goal.returns
returns c = amount_searched _ _ _ _ c.requires c.begin_cells-ring.ensures c.run_gaining.ensures
