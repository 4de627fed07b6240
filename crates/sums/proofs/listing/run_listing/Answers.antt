-- `listing::run_listing` meets its contract: before each turn the cells taken so far are listed. Assumes nothing.
use Rattle.std.proofs.Common.{rules}
use Rattle.spread.proofs.Loans.{loans_same, loans_on}
use Rattle.spread.proofs.Running.{take_counted}
use Rattle.sums.proofs.ListedRuns.{none_listed, next_listed, listed_all, listed_lent}
use Rattle.sums.proofs.listing.run_listing.Goals as goal

pub loop-ground-init : goal.loop-ground-init
loop-ground-init c = (none_listed c.requires, loans_same _)

pub loop-ground-smaller : goal.loop-ground-smaller
loop-ground-smaller c = (take_counted c.loop-ground.invariant.0.turn c.is_empty.ensures c.loop-ground-test.true-raw c.requires.running).1

pub loop-ground-preserved : goal.loop-ground-preserved
loop-ground-preserved c = (next_listed c.loop-ground.invariant.0 c.is_empty.ensures c.loop-ground-test.true-raw c.take_next-took.ensures.does c.list_cell-entries.ensures, loans_on c.loop-ground.invariant.1 c.take_next-took.ensures.same)

pub returns : goal.returns
returns c = listed_lent (search rules) (search rules) (search rules) (search rules) (listed_all c.loop-ground.invariant.0 c.is_empty.ensures c.loop-ground-test.false-raw)
