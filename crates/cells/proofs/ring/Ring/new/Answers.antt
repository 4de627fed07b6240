-- `ring::Ring::new` meets its contract. Assumes nothing.
use Rattle.cells.proofs.RingContents.{new_empty}
use Rattle.cells.proofs.ring.Ring.new.Goals as goal

pub returns : goal.returns
returns c = new_empty
