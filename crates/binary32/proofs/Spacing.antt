-- How far apart values lie. From 1 on, the values of a format of p digits are whole multiples of 2 ^ -(p - 1). Every law is for both formats. Assumes nothing.
use mathlib.Core.Path.{◌≡◌, sym, ap, ◌∙◌, subst}
use mathlib.Core.Bool.{Bool, true, false, not, ◌&&◌}
use Prim.Native.Nat.{ℕ, zero, suc, ◌-◌, ◌*◌, ◌%◌, ◌^◌, ◌≤◌, ◌<◌}
use native.Mathlib.Nat.{le_trans, le_of_eq, le_of_lt, le_of_suc-le-suc, lt_of_lt_of_le, lt_of_not-le, not-le_of_lt, mul-one, mul_comm, mul_assoc, mul-le-mul_left, mul-le-mul_right, lt_of_mul-lt-mul_right}
use native.Mathlib.Omega.{arith}
use lib.IntN.{ℤ, pos, negsuc}
use lib.Dec.{T, leb, ltb, eqb, leb→le, nleb→lt, ltb→lt}
use lib.Pow.{pow-add, pow_pos, pow_mono}
use lib.Ieee.{Float, nan, inf, fin, Format, prec, emax, low, up, down, fits}
use lib.Ieee.Digits.{back}
use lib.Ieee.Fits.{and_l, and_r}
use lib.Ieee.Positive.{num, den}

-- What it takes to fit, for a number other than 0: few digits, an exponent that is not too low, and a size that is not too large.
pub held_within : (f : Format) (s : Bool) (m : ℕ) (e : ℤ) → T (fits f (fin s (suc m) e)) → (suc m < 2 ^ prec f) × (down e ≤ 2 ^ low f) × (suc m * up e < 2 ^ suc (emax f) * down e)
unfolding fits
held_within f s m e h =
    let is_odd = eqb (suc m % 2) 1 in
    let is_short = ltb (suc m) (2 ^ prec f) in
    let not_too_low = leb (down e) (2 ^ low f) in
    let not_too_high = ltb (suc m * up e) (2 ^ suc (emax f) * down e) in
    let but_high = and_l (is_odd && is_short && not_too_low) not_too_high h in (
      ltb→lt (suc m) (2 ^ prec f) (and_r is_odd is_short (and_l (is_odd && is_short) not_too_low but_high)),
      leb→le (down e) (2 ^ low f) (and_r (is_odd && is_short) not_too_low but_high),
      ltb→lt (suc m * up e) (2 ^ suc (emax f) * down e) (and_r (is_odd && is_short && not_too_low) not_too_high h),
    )

-- The significand of a value that fits has at most `prec` binary digits.
pub few_digits : (f : Format) (s : Bool) (m : ℕ) (e : ℤ) → T (fits f (fin s m e)) → m < 2 ^ prec f
few_digits f s zero e h = pow_pos (prec f)
few_digits f s (suc m) e h = (held_within f s m e h).0

-- ---- a number m / b against g / p and the next multiple (g + 1) / p, by what b is

nothing_below_zero : (a b : ℕ) → a < 0 * b → ⊥
nothing_below_zero a b h = omega arith

-- b is 1
whole : (g a : ℕ) → g * 1 < a → suc g * 1 ≤ a
whole g a h = omega arith

-- p is q times b
multiple : (g m q b : ℕ) → g * b < m * (q * b) → suc g * b ≤ m * (q * b)
multiple g m q b h =
    let regroup : m * q * b ≡ m * (q * b) = mul_assoc m q b in
    le_trans (mul-le-mul_right b (lt_of_mul-lt-mul_right b (lt_of_lt_of_le h (le_of_eq (sym regroup))))) (le_of_eq regroup)

-- b is above m, so that m / b is below 1
below_one : (g m p b : ℕ) → m < b → p ≤ g → g * b < m * p → ⊥
below_one g m p b small big h =
    not-le_of_lt h (le_trans (mul-le-mul_right p (le_of_lt small)) (le_trans (mul-le-mul_left b big) (le_of_eq (mul_comm b g))))

all_digits : (p k : ℕ) → p - 1 < suc k → p ≤ suc k
all_digits p k h = omega arith

-- From 1 on no value lies between two neighbours g / 2 ^ (p - 1) and (g + 1) / 2 ^ (p - 1): one that is above the first is at least the second.
-- Proof: let x be m * 2 ^ e above g / 2 ^ (p - 1), which is 1 or more. For e from 0 on x is a whole number. For e from -(p - 1) on it is a whole
-- multiple of 2 ^ -(p - 1). Either way the multiple is more than g, so it is at least g + 1. For a lower e, x is below 2 ^ p * 2 ^ -p, which is 1, and so it is not above.
pub none_between : (f : Format) (x : Float) (g : ℕ) → T (fits f x) → 2 ^ (prec f - 1) ≤ g → g * den x < num x * 2 ^ (prec f - 1) → suc g * den x ≤ num x * 2 ^ (prec f - 1)
none_between f nan g t big h = absurd (nothing_below_zero (g * 1) (2 ^ (prec f - 1)) h)
none_between f (inf s) g t big h = absurd (nothing_below_zero (g * 1) (2 ^ (prec f - 1)) h)
none_between f (fin s m (pos k)) g t big h = whole g (m * 2 ^ k * 2 ^ (prec f - 1)) h
none_between f (fin s m (negsuc k)) g t big h = go (leb (suc k) (prec f - 1)) (leb→le (suc k) (prec f - 1)) (nleb→lt (suc k) (prec f - 1))
  where
    go : (b : Bool) → (T b → suc k ≤ prec f - 1) → (T (not b) → prec f - 1 < suc k) → suc g * 2 ^ suc k ≤ m * 1 * 2 ^ (prec f - 1)
    go true shallow deep =
        let q = 2 ^ (prec f - 1 - suc k) in
        let split : q * 2 ^ suc k ≡ 2 ^ (prec f - 1) = sym (pow-add 2 (prec f - 1 - suc k) (suc k)) ∙ ap (λ (n : ℕ). 2 ^ n) (back (prec f - 1) (suc k) (shallow tt)) in
        subst (λ (p : ℕ). suc g * 2 ^ suc k ≤ m * 1 * p) split (multiple g (m * 1) q (2 ^ suc k) (subst (λ (p : ℕ). g * 2 ^ suc k < m * 1 * p) (sym split) h))
    go false shallow deep =
        let short : m < 2 ^ suc k = lt_of_lt_of_le (few_digits f s m (negsuc k) t) (pow_mono (all_digits (prec f) k (deep tt))) in
        absurd (below_one g (m * 1) (2 ^ (prec f - 1)) (2 ^ suc k) (subst (λ (n : ℕ). n < 2 ^ suc k) (sym (mul-one m)) short) big h)

one_less : (g : ℕ) → g ≡ suc g - 1
one_less g = omega arith

-- The same from the other side: a value that is below g / 2 ^ (p - 1) is at most (g - 1) / 2 ^ (p - 1).
pub none_between_below : (f : Format) (x : Float) (g : ℕ) → T (fits f x) → 2 ^ (prec f - 1) < g → num x * 2 ^ (prec f - 1) < g * den x → num x * 2 ^ (prec f - 1) ≤ (g - 1) * den x
none_between_below f x zero t big h = absurd (nothing_below_zero (2 ^ (prec f - 1)) 0 big)
none_between_below f x (suc g) t big h =
    subst (λ (n : ℕ). num x * 2 ^ (prec f - 1) ≤ n * den x) (one_less g)
    (le_of_suc-le-suc (lt_of_not-le (λ (above : g * den x < num x * 2 ^ (prec f - 1)). not-le_of_lt h (none_between f x g t (le_of_suc-le-suc big) above))))
