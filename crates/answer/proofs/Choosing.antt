-- Each arm of the code's choice is the outcome of the request. Assumes nothing.
use mathlib.Core.Path.{◌≡◌, sym, ap, ◌∙◌}
use mathlib.Core.List.{List, [], ◌∷◌}
use Prim.Native.Nat.{ℕ}
use lib.Ieee.{Float}
use lib.ListN.{length}
use Rattle.rules.specs.declared.Size.{Size}
use Rattle.rules.specs.Sizes.{grid, Outcome}
use Rattle.rules.specs.Distances.{outcome_1, outcome_2, outcome_3}
use Rattle.rules.specs.Values.{outcome_4, outcome_5, outcome_6}
use Rattle.rules.specs.Sums.{outcome_7, outcome_8}
use Rattle.calls.specs.Given.{lent}
use Rattle.gridfile.specs.declared.request.Request.{Request}
use Rattle.gridfile.specs.declared.searches.Search.{Search}
use Rattle.gridfile.specs.declared.searches.Search.TheVariants.{DistancesUpTo, DistanceWithObstacles, TravelDistancesUpTo, ValueAtClosestTarget, ValueAtClosestTravelTarget, ValueAtClosestLessThanTravelTarget, SumWithinTravelDistance, SumTargetsWithinTravelDistance}
use Rattle.gridfile.specs.Request.{search_number}
use Rattle.answer.specs.Answering.{searched}
use Rattle.answer.specs.Lending.{Lends, found}
use Rattle.answer.proofs.Lengths.{lent_for_2, lent_for_3, lent_for_4, lent_for_5}

module _ (r : Request) (targets obstacles : List ℕ) (times values : List Float) where
  -- The outcome of a search, on what the request asks for.
  abbrev by_search : Search → Outcome
  by_search search = searched (search_number search) r.diagonals r.adjacent r.size r.spacing targets obstacles times values

  asked_for : (s : Search) → r.search ≡ s → by_search s ≡ found r targets obstacles times values
  asked_for s is = ap by_search (sym is)

  module _ {cells distances : List Float} {marks listed adjacent added queue : List ℕ} (lends : Lends r.size cells distances marks listed adjacent added queue) where
    abbrev size : Size
    size = r.size

    pub by_1 : r.search ≡ DistancesUpTo → outcome_1 (grid size targets) r.spacing (lent (length cells ∷ length marks ∷ []) (length queue)) ≡ found r targets obstacles times values
    unfolding searched
    by_1 is = ap (outcome_1 (grid size targets) r.spacing) (lent_for_2 lends) ∙ asked_for DistancesUpTo is

    pub by_2 : r.search ≡ DistanceWithObstacles → outcome_2 (grid size targets) (grid size obstacles) r.spacing r.diagonals (lent (length cells ∷ length marks ∷ []) (length queue)) ≡ found r targets obstacles times values
    unfolding searched
    by_2 is = ap (outcome_2 (grid size targets) (grid size obstacles) r.spacing r.diagonals) (lent_for_2 lends) ∙ asked_for DistanceWithObstacles is

    pub by_3 : r.search ≡ TravelDistancesUpTo → outcome_3 (grid size targets) (grid size times) r.spacing.limit (lent (length cells ∷ length marks ∷ []) (length queue)) ≡ found r targets obstacles times values
    unfolding searched
    by_3 is = ap (outcome_3 (grid size targets) (grid size times) r.spacing.limit) (lent_for_2 lends) ∙ asked_for TravelDistancesUpTo is

    pub by_4 : r.search ≡ ValueAtClosestTarget → outcome_4 (grid size targets) (grid size values) (lent (length cells ∷ length distances ∷ length marks ∷ []) (length queue)) ≡ found r targets obstacles times values
    unfolding searched
    by_4 is = ap (outcome_4 (grid size targets) (grid size values)) (lent_for_3 lends) ∙ asked_for ValueAtClosestTarget is

    pub by_5 : r.search ≡ ValueAtClosestTravelTarget → outcome_5 (grid size targets) (grid size times) (grid size values) (lent (length cells ∷ length distances ∷ length marks ∷ []) (length queue)) ≡ found r targets obstacles times values
    unfolding searched
    by_5 is = ap (outcome_5 (grid size targets) (grid size times) (grid size values)) (lent_for_3 lends) ∙ asked_for ValueAtClosestTravelTarget is

    pub by_6 : r.search ≡ ValueAtClosestLessThanTravelTarget → outcome_6 (grid size targets) (grid size times) (grid size values) r.spacing.limit (lent (length cells ∷ length distances ∷ length marks ∷ []) (length queue)) ≡ found r targets obstacles times values
    unfolding searched
    by_6 is = ap (outcome_6 (grid size targets) (grid size times) (grid size values) r.spacing.limit) (lent_for_3 lends) ∙ asked_for ValueAtClosestLessThanTravelTarget is

    pub by_7 : r.search ≡ SumWithinTravelDistance
        → outcome_7 (grid size targets) (grid size times) (grid size values) r.spacing.limit r.adjacent (lent (length cells ∷ length distances ∷ length marks ∷ length listed ∷ length adjacent ∷ []) (length queue)) ≡ found r targets obstacles times values
    unfolding searched
    by_7 is = ap (outcome_7 (grid size targets) (grid size times) (grid size values) r.spacing.limit r.adjacent) (lent_for_5 lends) ∙ asked_for SumWithinTravelDistance is

    pub by_8 : r.search ≡ SumTargetsWithinTravelDistance → outcome_8 (grid size times) (grid size values) r.spacing.limit (lent (length cells ∷ length distances ∷ length marks ∷ length added ∷ []) (length queue)) ≡ found r targets obstacles times values
    unfolding searched
    by_8 is = ap (outcome_8 (grid size times) (grid size values) r.spacing.limit) (lent_for_4 lends) ∙ asked_for SumTargetsWithinTravelDistance is
