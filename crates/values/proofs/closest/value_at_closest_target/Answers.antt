-- `closest::value_at_closest_target` meets its contract: a call that a test refuses leaves every slice as it was. Assumes nothing.
use mathlib.Core.Path.{sym}
use borrow.Author.Rules.{rules}
use Rattle.binary32.specs.Numbers.{plus_zero}
use Rattle.rules.specs.Values.{outcome_4}
use Rattle.calls.proofs.Untouched.{quiet_4}
use Rattle.values.proofs.Searching.{closest_searches, values_refused}
use Rattle.values.proofs.closest.value_at_closest_target.Goals as goal

pub search_values-requires : goal.search_values-requires
search_values-requires c =
    let a = c.args in
    closest_searches a.targets.size a.targets.cells.now a.values.size a.values.cells.now plus_zero a.answer.now a.distances.now a.marks.now a.queue.now (sym c.in_ok-judge_4.ensures)

pub returns-in_err-judge_4 : goal.returns-in_err-judge_4
unfolding outcome_4
returns-in_err-judge_4 c = values_refused _ _ c.in_err-judge_4.ensures (search rules) (quiet_4 _ _ _) _ _ _ _
