-- `scan_edge::scan_edge` meets its contract. Before each turn what the offsets that were passed lead to has been tried. Assumes nothing.
use Rattle.spread.specs.Steps.{ground_of}
use Rattle.spread.proofs.Loans.{loans_same, loans_on}
use Rattle.spread.proofs.EdgeScans.{none_led, one_led, from_place, led, enters_there}
use Rattle.spread.proofs.scan_edge.scan_edge.Goals as goal

pub loop-k-init : goal.loop-k-init
loop-k-init g c = (none_led c.args.search (ground_of c.args.ground) c.args.left c.requires.good, loans_same c.args.b.now)

pub neighbour_at-there-requires : goal.neighbour_at-there-requires
neighbour_at-there-requires g c = from_place c.requires c.requires.good c.place_of-place.ensures c.loop-k.k c.loop-k-test.true

pub relax_there-requires : goal.relax_there-requires
relax_there-requires g c = enters_there c.requires c.loop-k.invariant.0.good c.place_of-place.ensures c.loop-k.k c.loop-k-test.true c.neighbour_at-there.ensures

pub loop-k-preserved : goal.loop-k-preserved
loop-k-preserved g c =
    let at = c.loop-k in
    let below = c.loop-k-test.true in
    (one_led c.args.search (ground_of c.args.ground) c.args.left at.k below (led c.requires c.requires.good c.place_of-place.ensures at.k below c.neighbour_at-there.ensures) at.invariant.0 c.relax_there.ensures.does, loans_on at.invariant.1 c.relax_there.ensures.same)
