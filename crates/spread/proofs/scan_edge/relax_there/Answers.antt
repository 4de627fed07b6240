-- `scan_edge::relax_there` meets its contract. Assumes nothing.
use Rattle.spread.specs.Steps.{ground_of}
use Rattle.spread.proofs.EdgeScans.{none_there}
use Rattle.spread.proofs.scan_edge.relax_there.Goals as goal

pub returns-in-None-clause-does : goal.returns-in-None-clause-does
returns-in-None-clause-does g c = none_there c.args.search (ground_of c.args.ground) c.args.left c.args.diagonal c.in-None.is c.requires.scans.good
