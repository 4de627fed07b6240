-- `search::run` meets its contract: each arm is the outcome of the request. Assumes nothing.
use mathlib.Core.Path.{◌∙◌}
use Rattle.answer.proofs.Sending.{stated_is}
use Rattle.answer.proofs.Choosing.{by_1, by_2, by_3, by_4, by_5, by_6, by_7, by_8}
use Rattle.answer.proofs.search.run.Goals as goal

pub returns-in-DistancesUpTo : goal.returns-in-DistancesUpTo
returns-in-DistancesUpTo c =
    let a = c.args in
    stated_is _ _ c.distances_up_to.ensures ∙ by_1 a.request a.targets.now a.obstacles.now a.times.now a.values.now c.requires c.in-DistancesUpTo.is

pub returns-in-DistanceWithObstacles : goal.returns-in-DistanceWithObstacles
returns-in-DistanceWithObstacles c =
    let a = c.args in
    stated_is _ _ c.distance_with_obstacles.ensures ∙ by_2 a.request a.targets.now a.obstacles.now a.times.now a.values.now c.requires c.in-DistanceWithObstacles.is

pub returns-in-TravelDistancesUpTo : goal.returns-in-TravelDistancesUpTo
returns-in-TravelDistancesUpTo c =
    let a = c.args in
    stated_is _ _ c.travel_distances_up_to.ensures ∙ by_3 a.request a.targets.now a.obstacles.now a.times.now a.values.now c.requires c.in-TravelDistancesUpTo.is

pub returns-in-ValueAtClosestTarget : goal.returns-in-ValueAtClosestTarget
returns-in-ValueAtClosestTarget c =
    let a = c.args in
    stated_is _ _ c.value_at_closest_target.ensures.promised ∙ by_4 a.request a.targets.now a.obstacles.now a.times.now a.values.now c.requires c.in-ValueAtClosestTarget.is

pub returns-in-ValueAtClosestTravelTarget : goal.returns-in-ValueAtClosestTravelTarget
returns-in-ValueAtClosestTravelTarget c =
    let a = c.args in
    stated_is _ _ c.value_at_closest_travel_target.ensures.promised ∙ by_5 a.request a.targets.now a.obstacles.now a.times.now a.values.now c.requires c.in-ValueAtClosestTravelTarget.is

pub returns-in-ValueAtClosestLessThanTravelTarget : goal.returns-in-ValueAtClosestLessThanTravelTarget
returns-in-ValueAtClosestLessThanTravelTarget c =
    let a = c.args in
    stated_is _ _ c.value_at_closest_less_than_travel_target.ensures.promised ∙ by_6 a.request a.targets.now a.obstacles.now a.times.now a.values.now c.requires c.in-ValueAtClosestLessThanTravelTarget.is

pub returns-in-SumWithinTravelDistance : goal.returns-in-SumWithinTravelDistance
returns-in-SumWithinTravelDistance c =
    let a = c.args in
    stated_is _ _ c.sum_within_travel_distance.ensures.promised ∙ by_7 a.request a.targets.now a.obstacles.now a.times.now a.values.now c.requires c.in-SumWithinTravelDistance.is

pub returns-in-SumTargetsWithinTravelDistance : goal.returns-in-SumTargetsWithinTravelDistance
returns-in-SumTargetsWithinTravelDistance c =
    let a = c.args in
    stated_is _ _ c.sum_targets_within_travel_distance.ensures.promised ∙ by_8 a.request a.targets.now a.obstacles.now a.times.now a.values.now c.requires c.in-SumTargetsWithinTravelDistance.is
