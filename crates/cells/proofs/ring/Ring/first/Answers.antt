-- `ring::Ring::first` meets its contract. Assumes nothing.
use Rattle.cells.proofs.RingContents.{first_at_head}
use Rattle.cells.proofs.ring.Ring.first.Goals as goal

pub returns : goal.returns
returns c = first_at_head c.args.slots.now c.args.self.now c.requires
