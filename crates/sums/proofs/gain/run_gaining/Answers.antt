-- `gain::run_gaining` meets its contract: before each turn, of the cells taken so far those within the budget have gained. Assumes nothing.
use Rattle.std.proofs.Common.{rules}
use Rattle.spread.proofs.Loans.{loans_same, loans_on}
use Rattle.spread.proofs.Running.{take_counted}
use Rattle.sums.proofs.Gains.{no_gain, next_gain, gained_all, gained_lent}
use Rattle.sums.proofs.gain.run_gaining.Goals as goal

pub loop-ground-init : goal.loop-ground-init
loop-ground-init c = (no_gain c.requires, loans_same _)

pub loop-ground-smaller : goal.loop-ground-smaller
loop-ground-smaller c = (take_counted c.loop-ground.invariant.0.turn c.is_empty.ensures c.loop-ground-test.true-raw c.requires.running).1

pub loop-ground-preserved : goal.loop-ground-preserved
loop-ground-preserved c = (next_gain c.loop-ground.invariant.0 c.is_empty.ensures c.loop-ground-test.true-raw c.take_next-took.ensures.does c.gain_cell.ensures, loans_on c.loop-ground.invariant.1 c.take_next-took.ensures.same)

pub returns : goal.returns
returns c = gained_lent (search rules) (search rules) (search rules) (search rules) (gained_all c.loop-ground.invariant.0 c.is_empty.ensures c.loop-ground-test.false-raw)
