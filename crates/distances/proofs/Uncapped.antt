-- What `distance` and `travel_distance` refuse, computed: the rules of searches 1 and 3 where the limit is infinity. Grids that they accept are
-- among those of the rules. Assumes nothing.
use mathlib.Core.Bool.{true}
use mathlib.Core.List.{List, [], ◌∷◌}
use mathlib.Core.Path.{◌≡◌, refl}
use lib.IntN.{pos}
use lib.Ieee.{nan, inf}
use Rattle.binary32.specs.Numbers.{plus_zero}
use Rattle.rules.specs.declared.Spacing.{Spacing}
use Rattle.rules.specs.Numbers.{infinity, whole}
use Rattle.rules.specs.Sizes.{number, number_at}
use Rattle.rules.specs.Computing.{rules_computing}
use Rattle.rules.specs.Distances.{outcome_1, outcome_3}
use Rattle.rules.proofs.Grids.{Entry, refusal, all_heard, all_said, row, grid, sized, lent}

-- A cell size of 0, and the limit that `distance` has.
abbrev cells_of_zero : Spacing
cells_of_zero = record { cell_size = plus_zero; limit = infinity }

unfoldable pub uncapped : List Entry
uncapped =
    -- `distance`: 1, 3, 4
    (outcome_1 (sized (pos 0) (pos 32768) []) cells_of_zero (lent 1 1), refusal (number 1)) ∷
    (outcome_1 (row (1 ∷ 0 ∷ [])) cells_of_zero (lent 3 1), refusal (number 3)) ∷
    (outcome_1 (row (1 ∷ [])) cells_of_zero (lent 1 1), refusal (number 4)) ∷
    -- `travel_distance`: 1, 2, 3, and 6 with the first index
    (outcome_3 (sized (pos 0) (pos 32768) []) (sized (pos 0) (pos 32768) []) infinity (lent 0 1), refusal (number 1)) ∷
    (outcome_3 (grid 0 3 []) (grid 3 0 []) infinity (lent 0 1), refusal (number 2)) ∷
    (outcome_3 (row (1 ∷ [])) (row (whole 1 ∷ [])) infinity (lent 2 1), refusal (number 3)) ∷
    (outcome_3 (row (1 ∷ 0 ∷ 0 ∷ [])) (row (nan ∷ inf true ∷ inf true ∷ [])) infinity (lent 3 1), refusal (number_at 6 1)) ∷ []

pub uncapped_refused : all_heard uncapped ≡ all_said uncapped
unfolding uncapped rules_computing
uncapped_refused = refl
