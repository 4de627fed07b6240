-- `ring::Ring::take` meets its contract. Assumes nothing.
use Rattle.cells.proofs.RingContents.{first_at_head, take_splits}
use Rattle.cells.proofs.ring.Ring.take.Goals as goal

pub returns : goal.returns
returns c =
    let slots = c.args.slots.now in
    let ring = c.args.self.now in
    rw (c.slot_after-self.ensures, c.first-cell.ensures, ← first_at_head slots ring c.requires) (take_splits slots ring c.requires)
