-- `targets::sum_targets_within_travel_distance` meets its contract: a call that a test refuses leaves every slice as it was. Assumes nothing.
use borrow.Author.Rules.{rules}
use Rattle.rules.specs.Sums.{outcome_8}
use Rattle.calls.proofs.Untouched.{quiet_8}
use Rattle.sums.proofs.TargetSums.{gains_refused}
use Rattle.sums.proofs.targets.sum_targets_within_travel_distance.Goals as goal

pub returns-in_err-judge_8 : goal.returns-in_err-judge_8
unfolding outcome_8
returns-in_err-judge_8 c = gains_refused _ _ c.in_err-judge_8.ensures.judged (search rules) (quiet_8 _ _ _ _) _ _ _ _ _
