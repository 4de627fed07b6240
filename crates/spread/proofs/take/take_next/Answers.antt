-- `take::take_next` meets its contract. Assumes nothing.
use Rattle.spread.proofs.Making.{taking_inner}
use Rattle.spread.proofs.take.take_next.Goals as goal

pub take_inner_cell-requires : goal.take_inner_cell-requires
take_inner_cell-requires g c = let asked = c.requires.takes in taking_inner asked.good asked.setting c.requires.numbered c.is_next_inner.ensures c.if-is_next_inner.true
