-- What makes a cost: sums of costs, and products of a positive number and a cost, are costs. Assumes nothing.
use mathlib.Core.Path.{◌≡◌, sym, ap, ◌∙◌, subst}
use mathlib.Core.Bool.{Bool, true, false, ◌&&◌, cond}
use Prim.Native.Nat.{ℕ, zero, suc, ◌+◌, ◌-◌, ◌*◌, zero-le}
use native.Mathlib.Nat.{add-zero, zero-mul, mul-zero, mul-pos}
use borrow.Author.Tests.{le-ltb}
use lib.IntN.{ℤ, pos}
use lib.Dec.{T, ltb, eqb-suc-zero}
use lib.Ieee.{Float, nan, inf, fin, Format, binary32, up, down, round, sum, add, mul}
use lib.Ieee.Fits.{down_pos, add-fits, mul-fits}
use lib.Ieee.Positive.{positive}
use Rattle.binary32.specs.FromZero.{sign_clear, NonNegative}
use Rattle.binary32.proofs.Shapes.{infinite, number, clear_shape, NotBelowZero, plus, minus_zero, cost_shape, non_negative}
use Rattle.binary32.proofs.Rounding.{round_clear, round_zero}
use Rattle.binary32.proofs.Sums.{sum_clear}

-- ---- sums

-- -0 and a number that is not negative
sum_after_minus_zero : (f : Format) (b c : ℕ) → T (sign_clear (sum f true 0 false b c))
unfolding sum
sum_after_minus_zero f b c =
    subst (λ (t : Bool). T (sign_clear (cond (ltb 0 b) (round f false (b - 0) c) (round f (true && t) (0 - b) c)))) (sym (le-ltb b 0 zero-le)) (go (ltb 0 b))
  where
    go : (t : Bool) → T (sign_clear (cond t (round f false (b - 0) c) (round f false (0 - b) c)))
    go true = round_clear f (b - 0) c
    go false = round_clear f (0 - b) c

none_of : (d e : ℤ) → 0 * up e * down d ≡ 0
none_of d e = simp zero-mul

sum_shape : (f : Format) {a b : Float} → NotBelowZero a → NotBelowZero b → NotBelowZero (add f a b)
unfolding add sum
sum_shape f {a} {b} (plus a_shape) b_shape = plus (clear_shape (add f a b) (sum_clear f a_shape b_shape))
sum_shape f (minus_zero e) (plus infinite) = plus infinite
sum_shape f (minus_zero e) (plus (number n d)) =
    plus (clear_shape (sum f true (0 * up e * down d) false (n * up d * down e) (down e * down d))
    (subst (λ (k : ℕ). T (sign_clear (sum f true k false (n * up d * down e) (down e * down d)))) (sym (none_of d e)) (sum_after_minus_zero f (n * up d * down e) (down e * down d))))
sum_shape f (minus_zero e) (minus_zero d) =
    let none : 0 * up e * down d + 0 * up d * down e ≡ 0 = simp (zero-mul, add-zero) in
    subst NotBelowZero (sym (ap (λ (k : ℕ). round f true k (down e * down d)) none ∙ round_zero f true (down e * down d) (mul-pos (down_pos e) (down_pos d)))) (minus_zero (pos 0))

-- The sum of two costs is a cost, where it overflows too. Proof: with a value from +0 on among the two the sum has the sign clear. Otherwise it is -0.
pub sum_non_negative : {a b : Float} → NonNegative a → NonNegative b → NonNegative (add binary32 a b)
sum_non_negative {a} {b} a_good b_good = non_negative (add-fits binary32 a b) (sum_shape binary32 (cost_shape a_good) (cost_shape b_good))

-- ---- products

product_shape : (f : Format) (s : Float) {b : Float} → T (positive s) → NotBelowZero b → NotBelowZero (mul f s b)
unfolding mul
product_shape f (fin false zero e) s_positive b_shape = absurd s_positive
product_shape f (fin false (suc m) e) s_positive (plus infinite) = subst (λ (t : Bool). NotBelowZero (cond t nan (inf false))) (sym (eqb-suc-zero m)) (plus infinite)
product_shape f (fin false (suc m) e) s_positive (plus (number n d)) =
    let top = suc m * up e * (n * up d) in plus (clear_shape (round f false top (down e * down d)) (round_clear f top (down e * down d)))
product_shape f (fin false (suc m) e) s_positive (minus_zero d) =
    let none : suc m * up e * (0 * up d) ≡ 0 = simp (zero-mul, mul-zero) in
    subst NotBelowZero (sym (ap (λ (k : ℕ). round f true k (down e * down d)) none ∙ round_zero f true (down e * down d) (mul-pos (down_pos e) (down_pos d)))) (minus_zero (pos 0))
product_shape f nan {b = b} s_positive b_shape = elim s_positive [ ]
product_shape f (inf _) {b = b} s_positive b_shape = elim s_positive [ ]
product_shape f (fin true _ e) {b = b} s_positive b_shape = elim s_positive [ ]

-- A number above 0 times a cost is a cost, where it overflows or underflows too. Proof: the number is not 0, so that with +infinity it gives +infinity.
-- With -0 it gives -0, and with any other cost a value whose sign is clear.
pub product_non_negative : (s : Float) {b : Float} → T (positive s) → NonNegative b → NonNegative (mul binary32 s b)
product_non_negative s {b} s_positive b_good = non_negative (mul-fits binary32 s b) (product_shape binary32 s s_positive (cost_shape b_good))
