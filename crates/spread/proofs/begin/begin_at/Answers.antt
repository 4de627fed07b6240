-- `begin::begin_at` meets its contract. Assumes nothing.
use borrow.Author.Tests.{not-true, not-false}
use Rattle.spread.proofs.BeginningFrom.{origin_joins, origin_waits, began_idle, began_nowhere}
use Rattle.spread.proofs.begin.begin_at.Goals as goal

pub wait-requires : goal.wait-requires
wait-requires c = origin_joins c.args.origin c.requires c.new-ring.ensures c.if-at-distances.true

pub returns-then-not-is_nodata : goal.returns-then-not-is_nodata
returns-then-not-is_nodata c = origin_waits c.args.origin c.requires c.new-ring.ensures c.if-at-distances.true c.is_nodata.ensures (not-true c.is_nodata.result c.if-not-is_nodata.true-raw) c.wait.ensures

pub returns-else-not-is_nodata : goal.returns-else-not-is_nodata
returns-else-not-is_nodata c = began_idle c.args.origin c.requires c.new-ring.ensures c.if-at-distances.true c.is_nodata.ensures (not-false c.is_nodata.result c.if-not-is_nodata.false-raw)

pub returns-else-at-distances : goal.returns-else-at-distances
returns-else-at-distances c = began_nowhere c.args.origin c.requires c.new-ring.ensures c.if-at-distances.false
