-- Rounding of fractions that are not negative: the sign, the order, and 0. Assumes nothing.
use mathlib.Core.Path.{◌≡◌, refl, sym, subst}
use mathlib.Core.Bool.{Bool, true, false, not, cond}
use Prim.Native.Nat.{ℕ, suc, ◌+◌, ◌*◌, ◌^◌, ◌≤◌, ◌<◌}
use native.Mathlib.Nat.{zero-mul}
use lib.IntN.{pos}
use lib.Dec.{T, ltb}
use lib.Ieee.{Float, inf, fin, Format, binary32, prec, emax, low, odd, units, round, lt, fits}
use lib.Ieee.Fits.{round_is, round-fits}
use lib.Ieee.Exact.{HasValue, odd_sign}
use lib.Ieee.Order.{drop, kept, round_mono}
use Rattle.binary32.specs.FromZero.{sign_clear, Distance}
use Rattle.binary32.proofs.Exact.{round_held}
use Rattle.binary32.proofs.Shapes.{clear_shape}
use Rattle.binary32.proofs.DistanceOrder.{le→not_lt}

clear_of_value : (x : Float) (a c : ℕ) → HasValue x false a c → T (sign_clear x)
clear_of_value (fin s m e) a c x_is = subst (λ (r : Bool). T (not r)) (sym x_is.0) tt
clear_of_value lib.Ieee.nan a c x_is = elim x_is [ ]
clear_of_value (inf _) a c x_is = elim x_is [ ]

units_clear : (f : Format) (q k : ℕ) → T (sign_clear (units f false q k))
unfolding units
units_clear f q k = go (ltb (q * 2 ^ k) (2 ^ (low f + suc (emax f))))
  where
    go : (b : Bool) → T (sign_clear (cond b (odd (suc (prec f)) false q k (low f)) (inf false)))
    go true = clear_of_value (odd (suc (prec f)) false q k (low f)) (q * 2 ^ k) (2 ^ low f) (odd_sign (suc (prec f)) false q k (low f))
    go false = tt

-- The result has the sign clear, an infinity included, and it is never a NaN.
pub round_clear : (f : Format) (a c : ℕ) → T (sign_clear (round f false a c))
round_clear f a c = subst (λ (x : Float). T (sign_clear x)) (sym (round_is f false a c)) (units_clear f (kept (prec f) (a * 2 ^ low f) c) (drop (prec f) (a * 2 ^ low f) c))

pub round_is_distance : (a c : ℕ) → Distance (round binary32 false a c)
round_is_distance a c = record { held = round-fits binary32 false a c; clear = round_clear binary32 a c }

-- Rounding keeps the order: where a / b is at most c / d, it is rounded to at most what c / d is rounded to.
-- Proof (`round_mono`): if the same number of binary digits is dropped of both, the nearest multiples of that power of two are in order. If fewer are dropped of a / b,
-- then a power of two lies between the two results. And where a / b overflows to +infinity, c / d does too.
pub round_monotone : (f : Format) (a b c d : ℕ) → 0 < b → 0 < d → a * d ≤ c * b → lt (round f false c d) (round f false a b) ≡ false
round_monotone f a b c d b_pos d_pos h =
    le→not_lt (clear_shape (round f false a b) (round_clear f a b)) (clear_shape (round f false c d) (round_clear f c d)) (round_mono f a b c d b_pos d_pos h)

-- 0 is rounded to the zero of its sign.
pub round_zero : (f : Format) (s : Bool) (c : ℕ) → 0 < c → round f s 0 c ≡ fin s 0 (pos 0)
round_zero f s c c_pos = round_held f (fin s 0 (pos 0)) s 0 c c_pos (zero_fits f s) (refl, zero-mul c)
  where
    zero_fits : (f : Format) (s : Bool) → T (fits f (fin s 0 (pos 0)))
    zero_fits f s = unfold fits in tt
