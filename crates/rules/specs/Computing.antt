-- What a proof unfolds to have the rules computed.
use Rattle.std.specs.Float.Ieee.{lt, le, eq, add, mul, div, neg, is_nan, of_int, of_bits}
use Rattle.fifo.specs.Machine.{computing}
use Rattle.rules.specs.Sizes.{any, first_index, first_that_holds, shape}
use Rattle.rules.specs.Cells.{neighbour, neighbours, keep, moves}
use Rattle.rules.specs.Distances.{plain, scaled, refusals_1, outcome_1, with_obstacles, refusals_2, outcome_2, travel, refusals_3, outcome_3}
use Rattle.rules.specs.Values.{closest, refusals_4, outcome_4, closest_by_time, refusals_5, outcome_5, refusals_6, outcome_6}
use Rattle.rules.specs.Sums.{total_takes, from_mask_cell, runs_7, add_values, adjoin, adjacent_cells, sum_listed, sum_of, sums, refusals_7, refusal_7, outcome_7, from_amount, runs_8, gaining, gain, gains, refusals_8, outcome_8}

-- `unfolding rules_computing` opens every definition of the rules, of the machine and of the float operations.
unfoldable pub rules_computing : Unit {0}
unfolding computing lt le eq add mul div neg is_nan of_int of_bits any first_index first_that_holds shape neighbour neighbours keep moves plain scaled refusals_1 outcome_1 with_obstacles refusals_2 outcome_2 travel refusals_3 outcome_3 closest refusals_4 outcome_4 closest_by_time refusals_5 outcome_5 refusals_6 outcome_6 total_takes from_mask_cell runs_7 add_values adjoin adjacent_cells sum_listed sum_of sums refusals_7 refusal_7 outcome_7 from_amount runs_8 gaining gain gains refusals_8 outcome_8
rules_computing = tt
