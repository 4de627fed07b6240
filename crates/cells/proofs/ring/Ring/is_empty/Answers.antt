-- `ring::Ring::is_empty` meets its contract. Assumes nothing.
use Rattle.cells.proofs.RingContents.{empty_where_met}
use Rattle.cells.proofs.ring.Ring.is_empty.Goals as goal

pub returns : goal.returns
returns c = record { says = λ slots. empty_where_met slots c.args.self.now }
