-- `summing::Reach::is_over_budget` meets its contract: before each turn none of the cells that were passed is above the budget. Assumes nothing.
use mathlib.Core.Path.{sym, ap, ◌∙◌}
use native.Mathlib.Nat.{le_refl}
use lib.ListN.{length}
use lib.Seq.{take_all}
use Rattle.rules.specs.Sizes.{any}
use Rattle.rules.proofs.Any.{any_none, any_more, any_passes}
use Rattle.rules.specs.Sums.{above_budget}
use Rattle.reach.proofs.summing.Reach.is_over_budget.Goals as goal

pub loop-cell-init : goal.loop-cell-init
loop-cell-init c = any_none (above_budget c.args.self.distances.now c.args.self.budget)

pub returns-then-is_above : goal.returns-then-is_above
returns-then-is_above c =
    let above = above_budget c.args.self.distances.now c.args.self.budget in
    let listed = c.args.listed.now in
    let all = length listed in
    sym (ap (any above) (sym (take_all all listed (le_refl all))) ∙ any_passes above 0 all c.loop-cell.cell-index listed c.loop-cell-test.true (le_refl all) (sym c.is_above.ensures ∙ c.if-is_above.true))

pub loop-cell-preserved : goal.loop-cell-preserved
loop-cell-preserved c =
    let at = c.loop-cell in
    any_more (above_budget c.args.self.distances.now c.args.self.budget) 0 at.cell-index c.args.listed.now c.loop-cell-test.true at.invariant (sym c.is_above.ensures ∙ c.if-is_above.false)
