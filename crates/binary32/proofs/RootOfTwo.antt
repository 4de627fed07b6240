-- The diagonal step is the value of binary32 nearest to the root of 2. Assumes nothing.
use mathlib.Core.Path.{◌≡◌, refl, subst}
use Prim.Native.Nat.{ℕ, ◌+◌, ◌-◌, ◌*◌, ◌^◌, ◌<◌}
use lib.Dec.{T, lit<}
use lib.Ieee.{Float, binary32, of_bits, fits}
use Rattle.binary32.specs.Steps.{diagonal}
use Rattle.binary32.specs.NearestRoot.{NearestToRoot}
use Rattle.binary32.proofs.NearestRoot.{of_units, nearest_by_midpoints}

-- The diagonal step in units of 2 ^ -23.
abbrev pub diagonal_units : ℕ
diagonal_units = 0xb5_04f3

diagonal_in_units : of_units diagonal_units ≡ diagonal
unfolding of_bits
diagonal_in_units = refl

-- The root of 2 in units of 2 ^ -24 is the root of 2 * 2 ^ 48. With m for the diagonal step's units,
-- the midpoints to its neighbours are 2 m - 1 and 2 m + 1. The root lies between them, since 2 * 2 ^ 48 lies between their squares.
pub squares_around_2 : ((2 * diagonal_units - 1) ^ 2 < 2 * 2 ^ 48) × (2 * 2 ^ 48 < (2 * diagonal_units + 1) ^ 2)
squares_around_2 = (lit< tt, lit< tt)

fits_in_binary32 : T (fits binary32 (of_units diagonal_units))
unfolding fits
fits_in_binary32 = tt

pub root_two_nearest : NearestToRoot 2 diagonal
root_two_nearest =
    subst (λ (c : Float). NearestToRoot 2 c) diagonal_in_units
    (nearest_by_midpoints 2 diagonal_units fits_in_binary32 (record { from_one = lit< tt; midpoint_before = squares_around_2.0; midpoint_after = squares_around_2.1 }))
