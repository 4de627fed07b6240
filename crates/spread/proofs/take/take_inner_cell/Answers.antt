-- `take::take_inner_cell` meets its contract. Assumes nothing.
use Rattle.spread.proofs.Taking.{took_listed_from}
use Rattle.spread.proofs.take.take_inner_cell.Goals as goal

pub returns-clause-does : goal.returns-clause-does
returns-clause-does g c =
    let asked = c.requires.asked in
    took_listed_from asked.takes c.take_first-cell.ensures.does asked.numbered c.leave-left.ensures c.requires.inner c.interior_neighbours-around.ensures c.scan_listed.ensures.does
