-- The values of binary32 from 0 on: distances, and the costs that are added to them. Definitions only.
use Rattle.std.specs.Prelude.{◌≡◌, Bool, false, not, T, Float}
use Rattle.std.specs.Float.{nan, inf, fin, binary32}
use Rattle.std.specs.Float.Ieee.{fits, is_nan, lt}
use Rattle.binary32.specs.Numbers.{plus_zero}

-- Not a NaN, and with the sign clear.
abbrev pub sign_clear : Float → Bool
sign_clear nan = false
sign_clear (inf s) = not s
sign_clear (fin s m e) = not s

-- A distance is a value from +0 to +infinity. A NaN is none, and -0 is none.
pub record Distance (x : Float) : Type 0 where
  pub held : T (fits binary32 x)
  pub clear : T (sign_clear x)

-- A cost, and a time, is a value that is no NaN and is not below 0. +0, -0, the subnormal values and +infinity are costs.
pub record NonNegative (x : Float) : Type 0 where
  pub held : T (fits binary32 x)
  pub not_nan : is_nan x ≡ false
  pub not_below : lt x plus_zero ≡ false
