-- `plain::distances_up_to` meets its contract: a call that a test refuses leaves every slice as it was. Assumes nothing.
use borrow.Author.Rules.{rules}
use Rattle.rules.specs.Distances.{outcome_1}
use Rattle.calls.proofs.Untouched.{quiet_1}
use Rattle.calls.proofs.Promises.{promised_refused}
use Rattle.distances.proofs.plain.distances_up_to.Goals as goal

pub returns-in_err-judge_1 : goal.returns-in_err-judge_1
unfolding outcome_1
returns-in_err-judge_1 c = promised_refused _ _ c.in_err-judge_1.ensures (search rules) (quiet_1 _ _ _) _ _ _
