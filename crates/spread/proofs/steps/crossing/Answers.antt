-- `steps::crossing` meets its contract. Assumes nothing.
use Rattle.spread.proofs.Permits.{crossed}
use Rattle.spread.proofs.steps.crossing.Goals as goal

pub returns : goal.returns
returns c = crossed c.requires
