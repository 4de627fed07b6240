-- What the net of every rule has in common: its cells, its order, and its steps. One case for each rule. Assumes nothing.
use mathlib.Core.List.{List}
use mathlib.Core.Path.{◌≡◌, refl}
use Prim.Native.Nat.{ℕ}
use lib.Ieee.{Float}
use Rattle.rules.specs.declared.Size.{Size}
use Rattle.rules.specs.Sizes.{count}
use Rattle.rules.specs.Cells.{moves}
use Rattle.rules.specs.Distances.{plain, with_obstacles, travel}
use Rattle.rules.specs.Values.{closest, closest_by_time}
use Rattle.rules.specs.Sums.{from_mask_cell, from_amount}
use Rattle.spread.specs.declared.search.Rule.{Rule}
use Rattle.spread.specs.declared.search.Rule.TheVariants.{Plain, Obstacles, HalfSum, Closest, ByTime, FromMaskCell, FromAmount}
use Rattle.spread.specs.declared.search.Search.{Search}
use Rattle.spread.specs.Nets.{net_of}
use Rattle.spread.specs.Steps.{terrain, Follows, straight_steps, diagonal_steps}
use Rattle.spread.specs.First.{net_on}

module _ (targets obstacles : List ℕ) (times values : List Float) where
  made : Rule → Size → Float → Search
  made rule size limit = record { rule = rule; size = size; limit = limit }

  cells_by : (rule : Rule) (size : Size) (limit : Float) → (net_on (made rule size limit) targets obstacles times values).cells ≡ count size
  unfolding made net_of plain with_obstacles travel closest closest_by_time from_mask_cell from_amount
  cells_by Plain size limit = refl
  cells_by (Obstacles diagonals) size limit = refl
  cells_by HalfSum size limit = refl
  cells_by Closest size limit = refl
  cells_by ByTime size limit = refl
  cells_by (FromMaskCell origin) size limit = refl
  cells_by (FromAmount origin) size limit = refl

  follows_by : (rule : Rule) (size : Size) (limit : Float) → Follows (made rule size limit) (terrain obstacles times) (net_on (made rule size limit) targets obstacles times values)
  unfolding made net_of plain with_obstacles travel closest closest_by_time from_mask_cell from_amount moves straight_steps diagonal_steps
  follows_by Plain size limit = record { nearest = refl; steps = λ u. refl }
  follows_by (Obstacles diagonals) size limit = record { nearest = refl; steps = λ u. refl }
  follows_by HalfSum size limit = record { nearest = refl; steps = λ u. refl }
  follows_by Closest size limit = record { nearest = refl; steps = λ u. refl }
  follows_by ByTime size limit = record { nearest = refl; steps = λ u. refl }
  follows_by (FromMaskCell origin) size limit = record { nearest = refl; steps = λ u. refl }
  follows_by (FromAmount origin) size limit = record { nearest = refl; steps = λ u. refl }

  pub cells_are : (search : Search) → (net_on search targets obstacles times values).cells ≡ count search.size
  unfolding made
  cells_are search = cells_by search.rule search.size search.limit

  -- Its steps are the rule's, its order is by distance.
  pub follows : (search : Search) → Follows search (terrain obstacles times) (net_on search targets obstacles times values)
  unfolding made
  follows search = follows_by search.rule search.size search.limit
