-- `less_than::value_at_closest_less_than_travel_target` meets its contract: a call that a test refuses leaves every slice as it was. Assumes nothing.
use borrow.Author.Rules.{rules}
use Rattle.rules.specs.Values.{outcome_6}
use Rattle.calls.proofs.Untouched.{quiet_6}
use Rattle.values.proofs.Searching.{values_refused}
use Rattle.values.proofs.less_than.value_at_closest_less_than_travel_target.Goals as goal

pub returns-in_err-judge_6 : goal.returns-in_err-judge_6
unfolding outcome_6
returns-in_err-judge_6 c = values_refused _ _ c.in_err-judge_6.ensures.judged (search rules) (quiet_6 _ _ _ _ _) _ _ _ _
