-- `travel::travel_distances_up_to` meets its contract: a call that a test refuses leaves every slice as it was. Assumes nothing.
use borrow.Author.Rules.{rules}
use Rattle.rules.specs.Distances.{outcome_3}
use Rattle.calls.proofs.Untouched.{quiet_3}
use Rattle.calls.proofs.Promises.{promised_refused}
use Rattle.distances.proofs.travel.travel_distances_up_to.Goals as goal

pub returns-in_err-judge_3 : goal.returns-in_err-judge_3
unfolding outcome_3
returns-in_err-judge_3 c = promised_refused _ _ c.in_err-judge_3.ensures.judged (search rules) (quiet_3 _ _ _ _) _ _ _
