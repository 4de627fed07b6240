-- The two steps and their halves, as factors and as costs. They are computed. Assumes nothing.
use mathlib.Core.Path.{◌≡◌, refl}
use mathlib.Core.Bool.{false}
use lib.IntN.{negsuc}
use lib.Dec.{T}
use lib.Ieee.{fin, binary32, of_bits, div}
use lib.Ieee.Bits.{of_bits-fits}
use lib.Ieee.Positive.{positive}
use Rattle.binary32.specs.Numbers.{two}
use Rattle.binary32.specs.Steps.{straight, diagonal}
use Rattle.binary32.specs.FromZero.{NonNegative}
use Rattle.binary32.proofs.Shapes.{positive_is_non_negative}
use Rattle.binary32.proofs.RootOfTwo.{diagonal_units}

-- ---- each step is a number above 0, and so a cost

pub straight_positive : T (positive straight)
unfolding of_bits
straight_positive = tt

pub diagonal_positive : T (positive diagonal)
unfolding of_bits
diagonal_positive = tt

pub straight_non_negative : NonNegative straight
straight_non_negative = positive_is_non_negative straight (of_bits-fits binary32 _) straight_positive

pub diagonal_non_negative : NonNegative diagonal
diagonal_non_negative = positive_is_non_negative diagonal (of_bits-fits binary32 _) diagonal_positive

-- ---- half of each step is exact: 1 / 2, and the diagonal step's units over 2 ^ 24 in place of 2 ^ 23

pub half_straight_exact : div binary32 straight two ≡ fin false 1 (negsuc 0)
unfolding div of_bits
half_straight_exact = refl

pub half_diagonal_exact : div binary32 diagonal two ≡ fin false diagonal_units (negsuc 23)
unfolding div of_bits
half_diagonal_exact = refl

pub half_straight_positive : T (positive (div binary32 straight two))
unfolding div of_bits
half_straight_positive = tt

pub half_diagonal_positive : T (positive (div binary32 diagonal two))
unfolding div of_bits
half_diagonal_positive = tt
