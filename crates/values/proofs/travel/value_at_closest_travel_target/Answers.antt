-- `travel::value_at_closest_travel_target` meets its contract: a call that a test refuses leaves every slice as it was. Assumes nothing.
use borrow.Author.Rules.{rules}
use Rattle.rules.specs.Values.{outcome_5}
use Rattle.calls.proofs.Untouched.{quiet_5}
use Rattle.values.proofs.Searching.{values_refused}
use Rattle.values.proofs.travel.value_at_closest_travel_target.Goals as goal

pub returns-in_err-judge_5 : goal.returns-in_err-judge_5
unfolding outcome_5
returns-in_err-judge_5 c = values_refused _ _ c.in_err-judge_5.ensures.judged (search rules) (quiet_5 _ _ _ _) _ _ _ _
