-- `obstacles::distance_with_obstacles` meets its contract: a call that a test refuses leaves every slice as it was. Assumes nothing.
use mathlib.Core.Path.{sym}
use borrow.Author.Rules.{rules}
use Rattle.binary32.specs.Numbers.{plus_zero}
use Rattle.rules.specs.Distances.{outcome_2}
use Rattle.calls.proofs.Untouched.{quiet_2}
use Rattle.calls.proofs.Promises.{promised_refused}
use Rattle.distances.proofs.Searching.{obstacles_searches}
use Rattle.distances.proofs.obstacles.distance_with_obstacles.Goals as goal

pub search_distances-requires : goal.search_distances-requires
search_distances-requires c =
    let a = c.args in
    obstacles_searches a.targets.size a.targets.cells.now a.obstacles.cells.now a.spacing _ plus_zero a.obstacles.size a.answer.now a.marks.now a.queue.now (sym c.in_ok-judge_2.ensures)

pub returns-in_err-judge_2 : goal.returns-in_err-judge_2
unfolding outcome_2
returns-in_err-judge_2 c = promised_refused _ _ c.in_err-judge_2.ensures (search rules) (quiet_2 _ _ _ _) _ _ _
