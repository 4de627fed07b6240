-- `take::take_edge_cell` meets its contract. Assumes nothing.
use Rattle.spread.proofs.Taking.{took_all_from}
use Rattle.spread.proofs.take.take_edge_cell.Goals as goal

pub returns-clause-does : goal.returns-clause-does
returns-clause-does g c = took_all_from c.requires.takes c.take_first-cell.ensures.does c.requires.numbered c.leave-left.ensures c.scan_edge.ensures.does
