-- The shapes that a distance and a cost have, for proofs by cases. Assumes nothing.
use mathlib.Core.Path.{◌≡◌, refl, subst}
use mathlib.Core.Bool.{true, false, true≢false}
use Prim.Native.Nat.{ℕ, zero, suc, ◌+◌, ◌*◌, ◌≤◌, zero-le}
use native.Mathlib.Nat.{le_trans, le_of_eq, le-add_right, lt_of_lt_of_le, zero-lt-suc, zero-mul, mul-pos}
use borrow.Author.Tests.{le-ltb}
use lib.IntN.{ℤ}
use lib.Dec.{T, ltb, lt→ltb}
use lib.Ieee.{Float, nan, inf, fin, binary32, up, down, lt, fits, is_nan, of_bits}
use lib.Ieee.Fits.{up_pos, inf-fits}
use lib.Ieee.Positive.{positive}
use Rattle.binary32.specs.Numbers.{plus_zero}
use Rattle.binary32.specs.FromZero.{sign_clear, Distance, NonNegative}

-- ---- what a distance is: +infinity, or a number with the sign clear

pub data FromPlusZero : Float → Type 0 where
  infinite : FromPlusZero (inf false)
  number : (m : ℕ) (e : ℤ) → FromPlusZero (fin false m e)

pub clear_shape : (x : Float) → T (sign_clear x) → FromPlusZero x
clear_shape nan h = absurd h
clear_shape (inf true) h = absurd h
clear_shape (inf false) h = infinite
clear_shape (fin true m e) h = absurd h
clear_shape (fin false m e) h = number m e

pub distance_shape : {x : Float} → Distance x → FromPlusZero x
distance_shape {x} x_good = clear_shape x x_good.clear

pub infinity_is_distance : Distance (inf false)
infinity_is_distance = record { held = inf-fits binary32 false; clear = tt }

pub plus_zero_is_distance : Distance plus_zero
unfolding of_bits fits
plus_zero_is_distance = record { held = tt; clear = tt }

-- ---- what a cost is: a value from +0 on, or -0

pub data NotBelowZero : Float → Type 0 where
  plus : {x : Float} → FromPlusZero x → NotBelowZero x
  minus_zero : (e : ℤ) → NotBelowZero (fin true 0 e)

above_zero : (m : ℕ) (e : ℤ) → T (ltb 0 (suc m * up e * 1 + 0 * 1 * down e))
above_zero m e = lt→ltb 0 (suc m * up e * 1 + 0 * 1 * down e) (lt_of_lt_of_le (mul-pos (mul-pos (zero-lt-suc m) (up_pos e)) (zero-lt-suc 0)) (le-add_right (suc m * up e * 1) (0 * 1 * down e)))

shape_of_cost : (x : Float) → is_nan x ≡ false → lt x plus_zero ≡ false → NotBelowZero x
unfolding is_nan lt of_bits
shape_of_cost nan not_nan h = absurd (true≢false not_nan)
shape_of_cost (inf true) not_nan h = absurd (true≢false h)
shape_of_cost (inf false) not_nan h = plus infinite
shape_of_cost (fin true zero e) not_nan h = minus_zero e
shape_of_cost (fin true (suc m) e) not_nan h = absurd (subst T h (above_zero m e))
shape_of_cost (fin false m e) not_nan h = plus (number m e)

pub cost_shape : {w : Float} → NonNegative w → NotBelowZero w
cost_shape {w} w_good = shape_of_cost w w_good.not_nan w_good.not_below

-- ---- a cost, from its shape

is_number : {x : Float} → NotBelowZero x → is_nan x ≡ false
unfolding is_nan
is_number (plus infinite) = refl
is_number (plus (number m e)) = refl
is_number (minus_zero e) = refl

no_zero_below : (e : ℤ) → 0 * up e * 1 + 0 * 1 * down e ≤ 0
no_zero_below e = le_of_eq (simp zero-mul)

is_not_below : {x : Float} → NotBelowZero x → lt x plus_zero ≡ false
unfolding lt of_bits
is_not_below (plus infinite) = refl
is_not_below (plus (number m e)) = le-ltb (m * up e * 1) (0 * 1 * down e) (le_trans (le_of_eq (zero-mul (down e))) zero-le)
is_not_below (minus_zero e) = le-ltb 0 (0 * up e * 1 + 0 * 1 * down e) (no_zero_below e)

pub non_negative : {x : Float} → T (fits binary32 x) → NotBelowZero x → NonNegative x
non_negative held x_shape = record { held = held; not_nan = is_number x_shape; not_below = is_not_below x_shape }

-- A distance can be a cost.
pub distance_is_non_negative : {x : Float} → Distance x → NonNegative x
distance_is_non_negative x_good = non_negative x_good.held (plus (distance_shape x_good))

-- So can a number above 0.
pub positive_is_non_negative : (s : Float) → T (fits binary32 s) → T (positive s) → NonNegative s
positive_is_non_negative (fin false m e) held s_positive = non_negative held (plus (number m e))
positive_is_non_negative nan held s_positive = elim s_positive [ ]
positive_is_non_negative (inf _) held s_positive = elim s_positive [ ]
positive_is_non_negative (fin true m e) held s_positive = elim s_positive [ ]
