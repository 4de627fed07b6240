-- The test `x != x`, and the one NaN of the logic. Assumes nothing.
use mathlib.Core.Path.{◌≡◌, refl}
use mathlib.Core.Bool.{Bool, true, false, not, ◌&&◌, false≢true}
use Prim.Native.Nat.{◌*◌}
use lib.Dec.{T, eqb, eqb_refl}
use lib.Ieee.{Float, Format, nan, inf, fin, up, down, lt, ne, is_nan, add, mul}

same_number : (b : Bool) → T b → not (b && true) ≡ false
same_number true t = refl
same_number false t = absurd t

-- A value differs from itself exactly where it is a NaN. Of the others, an infinity is computed, and a number is level with itself.
pub differs_from_itself_is_nan : (x : Float) → ne x x ≡ is_nan x
unfolding ne is_nan
differs_from_itself_is_nan nan = refl
differs_from_itself_is_nan (inf true) = refl
differs_from_itself_is_nan (inf false) = refl
differs_from_itself_is_nan (fin true m e) = let a = m * up e * down e in same_number (eqb a a) (eqb_refl a)
differs_from_itself_is_nan (fin false m e) = let a = m * up e * down e in same_number (eqb a a) (eqb_refl a)

-- What passes the test is the one NaN.
pub isNan→nan : (x : Float) → is_nan x ≡ true → x ≡ nan
unfolding is_nan
isNan→nan nan h = refl
isNan→nan (inf s) h = absurd (false≢true h)
isNan→nan (fin s m e) h = absurd (false≢true h)

-- +infinity is none.
pub infinity_not_nan : is_nan (inf false) ≡ false
unfolding is_nan
infinity_not_nan = refl

-- Nothing is below a NaN.
pub none_below_nan : (x : Float) → lt x nan ≡ false
unfolding lt
none_below_nan nan = refl
none_below_nan (inf s) = refl
none_below_nan (fin s m e) = refl

-- A NaN is below nothing.
pub nan_below_none : (y : Float) → lt nan y ≡ false
unfolding lt
nan_below_none y = refl

-- A sum or a product with a NaN is NaN.
pub add_nan : (f : Format) (x : Float) → add f x nan ≡ nan
unfolding add
add_nan f nan = refl
add_nan f (inf s) = refl
add_nan f (fin s m e) = refl

pub mul_nan : (f : Format) (x : Float) → mul f x nan ≡ nan
unfolding mul
mul_nan f nan = refl
mul_nan f (inf s) = refl
mul_nan f (fin s m e) = refl
