-- The definitions tried on cases, which antt computes. Assumes nothing.
use mathlib.Core.Path.{◌≡◌, refl}
use mathlib.Core.Bool.{true, false, true≢false}
use lib.IntN.{pos}
use lib.Dec.{lit<}
use lib.Ieee.{inf, fin, binary32, of_bits, add, mul, div, is_nan, fits, lt}
use Rattle.binary32.specs.Nodata.{nodata}
use Rattle.binary32.specs.Numbers.{plus_zero, one, two}
use Rattle.binary32.specs.Steps.{straight, diagonal}
use Rattle.binary32.specs.FromZero.{Distance, NonNegative}
use Rattle.binary32.specs.NearestRoot.{NearestToRoot}
use Rattle.binary32.proofs.NearestRoot.{nearest_by_midpoints, nearest_is_unique}
use Rattle.binary32.proofs.RootOfTwo.{root_two_nearest}

-- ---- nodata, whatever a NaN's sign and payload
quiet_nan_is_nodata : nodata (of_bits binary32 0x7fc0_0000) ≡ true
unfolding of_bits is_nan
quiet_nan_is_nodata = refl

negative_nan_with_payload_is_nodata : nodata (of_bits binary32 0xffc0_0001) ≡ true
unfolding of_bits is_nan
negative_nan_with_payload_is_nodata = refl

signalling_nan_is_nodata : nodata (of_bits binary32 0x7f80_0001) ≡ true
unfolding of_bits is_nan
signalling_nan_is_nodata = refl

infinity_is_data : nodata (of_bits binary32 0x7f80_0000) ≡ false
unfolding of_bits is_nan
infinity_is_data = refl

largest_number_is_data : nodata (of_bits binary32 0x7f7f_ffff) ≡ false
unfolding of_bits is_nan
largest_number_is_data = refl

-- ---- the straight step
straight_is_1 : straight ≡ fin false 1 (pos 0)
unfolding of_bits
straight_is_1 = refl

-- ---- which values are distances, and which are costs
infinity_is_the_largest_distance : Distance (of_bits binary32 0x7f80_0000)
unfolding of_bits fits
infinity_is_the_largest_distance = record { held = tt; clear = tt }

minus_zero_is_no_distance : Distance (of_bits binary32 0x8000_0000) → ⊥
unfolding of_bits
minus_zero_is_no_distance good = good.clear

minus_infinity_is_no_distance : Distance (of_bits binary32 0xff80_0000) → ⊥
unfolding of_bits
minus_infinity_is_no_distance good = good.clear

-- 2 ^ 24 + 1 has a digit too many
number_with_25_digits_is_no_distance : Distance (fin false 16_777_217 (pos 0)) → ⊥
unfolding fits
number_with_25_digits_is_no_distance good = good.held

minus_zero_is_a_cost : NonNegative (of_bits binary32 0x8000_0000)
unfolding of_bits fits is_nan lt
minus_zero_is_a_cost = record { held = tt; not_nan = refl; not_below = refl }

smallest_number_is_a_cost : NonNegative (of_bits binary32 0x0000_0001)
unfolding of_bits fits is_nan lt
smallest_number_is_a_cost = record { held = tt; not_nan = refl; not_below = refl }

nan_is_no_cost : NonNegative (of_bits binary32 0x7fc0_0000) → ⊥
unfolding of_bits is_nan
nan_is_no_cost good = true≢false good.not_nan

smallest_number_below_zero_is_no_cost : NonNegative (of_bits binary32 0x8000_0001) → ⊥
unfolding of_bits lt
smallest_number_below_zero_is_no_cost good = true≢false good.not_below

-- ---- sums: from 2 ^ 24 = 16,777,216 on the values are 2 apart, and a 1 is rounded to the even neighbour: 16,777,216 + 1 is 16,777,216, and 16,777,218 + 1 is 16,777,220
one_is_rounded_away : add binary32 (of_bits binary32 0x4b80_0000) one ≡ of_bits binary32 0x4b80_0000
unfolding add of_bits
one_is_rounded_away = refl

one_is_rounded_up : add binary32 (of_bits binary32 0x4b80_0001) one ≡ of_bits binary32 0x4b80_0002
unfolding add of_bits
one_is_rounded_up = refl

infinity_and_one : add binary32 (inf false) one ≡ inf false
unfolding add of_bits
infinity_and_one = refl

minus_zero_adds_nothing : add binary32 one (of_bits binary32 0x8000_0000) ≡ one
unfolding add of_bits
minus_zero_adds_nothing = refl

plus_zero_and_minus_zero : add binary32 plus_zero (of_bits binary32 0x8000_0000) ≡ plus_zero
unfolding add of_bits
plus_zero_and_minus_zero = refl

smallest_number_is_absorbed : add binary32 one (of_bits binary32 0x0000_0001) ≡ one
unfolding add of_bits
smallest_number_is_absorbed = refl

largest_number_doubled_overflows : add binary32 (of_bits binary32 0x7f7f_ffff) (of_bits binary32 0x7f7f_ffff) ≡ inf false
unfolding add of_bits
largest_number_doubled_overflows = refl

-- ---- products and halves
minus_zero_scaled_is_minus_zero : mul binary32 diagonal (of_bits binary32 0x8000_0000) ≡ of_bits binary32 0x8000_0000
unfolding mul of_bits
minus_zero_scaled_is_minus_zero = refl

largest_number_scaled_overflows : mul binary32 diagonal (of_bits binary32 0x7f7f_ffff) ≡ inf false
unfolding mul of_bits
largest_number_scaled_overflows = refl

-- so a half is not always exact
half_of_the_smallest_number_is_zero : div binary32 (of_bits binary32 0x0000_0001) two ≡ plus_zero
unfolding div of_bits
half_of_the_smallest_number_is_zero = refl

-- ---- nearest to a root: another root than that of 2, and the diagonal step's two neighbours, which are not nearest
root_of_3 : NearestToRoot 3 (of_bits binary32 0x3fdd_b3d7)
unfolding of_bits fits
root_of_3 = nearest_by_midpoints 3 0xdd_b3d7 tt (record { from_one = lit< tt; midpoint_before = lit< tt; midpoint_after = lit< tt })

next_above_diagonal_is_farther : NearestToRoot 2 (of_bits binary32 0x3fb5_04f4) → ⊥
unfolding of_bits lt
next_above_diagonal_is_farther near = nearest_is_unique 2 diagonal (of_bits binary32 0x3fb5_04f4) root_two_nearest near tt

next_below_diagonal_is_farther : NearestToRoot 2 (of_bits binary32 0x3fb5_04f2) → ⊥
unfolding of_bits lt
next_below_diagonal_is_farther near = nearest_is_unique 2 (of_bits binary32 0x3fb5_04f2) diagonal near root_two_nearest tt
