-- `ring::Ring::push` meets its contract. Assumes nothing.
use Rattle.cells.proofs.RingContents.{push_adds}
use Rattle.cells.proofs.ring.Ring.push.Goals as goal

pub returns : goal.returns
returns c = rw c.slot_after-self.ensures (push_adds c.args.slots.now c.args.self.now c.requires c.args.cell)
