-- `take::is_next_inner` meets its contract. Assumes nothing.
use Rattle.spread.proofs.Taking.{has_next, next_cell}
use Rattle.spread.proofs.take.is_next_inner.Goals as goal

pub is_interior-requires : goal.is_interior-requires
is_interior-requires c = next_cell c.requires c.first-next.ensures (has_next c.requires c.is_empty.ensures c.if-is_empty.false)
