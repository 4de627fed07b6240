-- `scan::scan_listed` meets its contract. Before each turn the cells that were passed have been tried. Assumes nothing.
use native.Mathlib.Omega.{arith}
use Rattle.spread.specs.Steps.{ground_of}
use Rattle.spread.proofs.Loans.{loans_same, loans_on}
use Rattle.spread.proofs.Scans.{none_scanned, one_scanned}
use Rattle.spread.proofs.scan.scan_listed.Goals as goal

pub loop-k-init : goal.loop-k-init
loop-k-init g c = (none_scanned c.args.search (ground_of c.args.ground) c.args.left c.args.cells.now c.args.straight c.requires.good, loans_same c.args.b.now)

pub loop-k-preserved : goal.loop-k-preserved
loop-k-preserved g c =
    let at = c.loop-k in
    let below = c.loop-k-test.true in
    let most = c.requires.end_most in
    let eight = c.requires.eight in
    (one_scanned c.args.search (ground_of c.args.ground) c.args.left c.args.cells.now c.args.straight at.k (omega arith) at.invariant.0 c.relax.ensures.does, loans_on at.invariant.1 c.relax.ensures.same)
