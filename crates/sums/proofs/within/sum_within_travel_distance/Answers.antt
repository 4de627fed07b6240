-- `within::sum_within_travel_distance` meets its contract: a call that a test refuses leaves every slice as it was. Assumes nothing.
use borrow.Author.Rules.{rules}
use Rattle.rules.specs.Sums.{outcome_7}
use Rattle.calls.proofs.Untouched.{quiet_7}
use Rattle.sums.proofs.WithinSums.{sums_refused}
use Rattle.sums.proofs.within.sum_within_travel_distance.Goals as goal

pub returns-in_err-judge_7 : goal.returns-in_err-judge_7
unfolding outcome_7
returns-in_err-judge_7 c = sums_refused _ _ c.in_err-judge_7.ensures.judged (search rules) (quiet_7 _ _ _ _ _) _ _ _ _ _ _
