-- A number has one form in a format, and a fraction that the format holds is rounded to itself. Every law is for both formats. Assumes nothing.
use mathlib.Core.Path.{◌≡◌, refl, sym, ap, ◌∙◌, subst}
use mathlib.Core.Bool.{Bool, cond}
use Prim.Native.Nat.{ℕ, zero, suc, ◌+◌, ◌-◌, ◌*◌, ◌/◌, ◌^◌, ◌≤◌, ◌<◌}
use native.Mathlib.Nat.{le_of_eq, le_of_suc-le-suc, lt_of_lt_of_le, lt_of_le_of_lt, lt_of_not-le, not-le_of_lt, zero-mul, mul-one, mul_comm, mul_assoc, mul_right_comm, mul-lt-mul_of_pos_right, lt_of_mul-lt-mul_right, eq_of_mul-eq-mul_right}
use lib.IntN.{ℤ, pos, negsuc}
use lib.Dec.{T}
use lib.Pow.{pow-add, pow_pos, pow-lt}
use lib.Ieee.{Float, fin, Format, prec, emax, low, up, down, hid, top, size, round, fits, to_bits, of_bits}
use lib.Ieee.Digits.{back}
use lib.Ieee.Fits.{down_pos, round-fits}
use lib.Ieee.Exact.{HasValue, round_exact}
use lib.Ieee.Nearest.{div_same}
use lib.Ieee.Scale.{round_same}
use lib.Ieee.Bits.{of_bits-to_bits}
use Rattle.binary32.proofs.Spacing.{held_within, few_digits}

-- ---- one number has one form

-- The bits of a finite value, by its size n in units of the format's smallest value.
abbrev bits_of : Format → Bool → ℕ → ℕ
bits_of f s n = let k = size n - prec f in cond s (top f) 0 + k * hid f + n / 2 ^ k

bits_are : (f : Format) (s : Bool) (m : ℕ) (e : ℤ) → to_bits f (fin s m e) ≡ bits_of f s (m * up e * 2 ^ low f / down e)
unfolding to_bits
bits_are f s m e = refl

-- Two values that a format holds are the same where they have the same sign and the same size.
-- Proof: the bits of a value are worked out from its sign and its size alone, and a value that fits comes back from its bits.
same_number : (f : Format) (s : Bool) (m : ℕ) (e : ℤ) (n : ℕ) (d : ℤ) → T (fits f (fin s m e)) → T (fits f (fin s n d)) → m * up e * down d ≡ n * up d * down e → fin s m e ≡ fin s n d
same_number f s m e n d x_Fits y_fits same =
    let units = 2 ^ low f in
    let in_units : m * up e * units * down d ≡ n * up d * units * down e =
    mul_right_comm (m * up e) units (down d) ∙ ap (λ (a : ℕ). a * units) same ∙ mul_right_comm (n * up d) (down e) units in
    let same_bits : to_bits f (fin s m e) ≡ to_bits f (fin s n d) =
    bits_are f s m e ∙ ap (λ (a : ℕ). bits_of f s a) (div_same (m * up e * units) (down e) (n * up d * units) (down d) (down_pos e) (down_pos d) in_units) ∙ sym (bits_are f s n d) in
    sym (of_bits-to_bits f (fin s m e) x_Fits) ∙ ap (λ (b : ℕ). of_bits f b) same_bits ∙ of_bits-to_bits f (fin s n d) y_fits

-- The same for any fraction a / c that both values equal.
pub same_value : (f : Format) (x y : Float) (s : Bool) (a c : ℕ) → 0 < c → T (fits f x) → T (fits f y) → HasValue x s a c → HasValue y s a c → x ≡ y
same_value f (fin t m e) (fin u n d) s a c c_pos x_Fits y_fits x_is y_is =
    let same : m * up e * down d ≡ n * up d * down e =
    eq_of_mul-eq-mul_right c c_pos (m * up e * down d) (n * up d * down e)
    (mul_right_comm (m * up e) (down d) c ∙ ap (λ (k : ℕ). k * down d) x_is.1 ∙ mul_right_comm a (down e) (down d) ∙ ap (λ (k : ℕ). k * down e) (sym y_is.1) ∙ mul_right_comm (n * up d) c (down e)) in
    ap (λ (r : Bool). fin r m e) x_is.0
    ∙ same_number f s m e n d (subst (λ (r : Bool). T (fits f (fin r m e))) x_is.0 x_Fits) (subst (λ (r : Bool). T (fits f (fin r n d))) y_is.0 y_fits) same
    ∙ ap (λ (r : Bool). fin r n d) (sym y_is.0)
same_value f lib.Ieee.nan y s a c c_pos x_Fits y_fits x_is y_is = elim x_is [ ]
same_value f (lib.Ieee.inf _) y s a c c_pos x_Fits y_fits x_is y_is = elim x_is [ ]
same_value f (fin t m e) lib.Ieee.nan s a c c_pos x_Fits y_fits x_is y_is = elim y_is [ ]
same_value f (fin t m e) (lib.Ieee.inf _) s a c c_pos x_Fits y_fits x_is y_is = elim y_is [ ]

-- ---- a value that the format holds is a multiple of a power of two of its smallest value

pub regroup : (m l k : ℕ) → k ≤ l → m * 2 ^ l ≡ m * 2 ^ (l - k) * 2 ^ k
regroup m l k h = ap (λ (n : ℕ). m * 2 ^ n) (sym (back l k h)) ∙ ap (λ (n : ℕ). m * n) (pow-add 2 (l - k) k) ∙ sym (mul_assoc m (2 ^ (l - k)) (2 ^ k))

exponent_le : (k l : ℕ) → 2 ^ k ≤ 2 ^ l → k ≤ l
exponent_le k l h = le_of_suc-le-suc (lt_of_not-le (λ (l<k : suc l ≤ k). not-le_of_lt (pow-lt l<k) h))

in_units : (f : Format) (s : Bool) (m : ℕ) (e : ℤ) → T (fits f (fin s m e)) → (j : ℕ) × (m * up e * 2 ^ low f ≡ m * 2 ^ j * down e)
in_units f s zero e h = (0, simp zero-mul)
in_units f s (suc m) (pos k) h = (k + low f, mul_assoc (suc m) (2 ^ k) (2 ^ low f) ∙ ap (λ (n : ℕ). suc m * n) (sym (pow-add 2 k (low f))) ∙ sym (mul-one (suc m * 2 ^ (k + low f))))
in_units f s (suc m) (negsuc k) h =
    (low f - suc k, ap (λ (n : ℕ). n * 2 ^ low f) (mul-one (suc m)) ∙ regroup (suc m) (low f) (suc k) (exponent_le (suc k) (low f) (held_within f s m (negsuc k) h).1))

-- and it is below the format's bound
pub in_range : (f : Format) (s : Bool) (m : ℕ) (e : ℤ) (j : ℕ) → T (fits f (fin s m e)) → m * 2 ^ j * down e ≤ m * up e * 2 ^ low f → m * 2 ^ j < 2 ^ (low f + suc (emax f))
in_range f s zero e j h units = subst (λ (n : ℕ). n < 2 ^ (low f + suc (emax f))) (sym (zero-mul (2 ^ j))) (pow_pos (low f + suc (emax f)))
in_range f s (suc m) e j h units =
    let l = 2 ^ low f in
    let t = 2 ^ suc (emax f) in
    lt_of_mul-lt-mul_right (down e)
    (lt_of_le_of_lt units
    (lt_of_lt_of_le (mul-lt-mul_of_pos_right (held_within f s m e h).2 (pow_pos (low f)))
    (le_of_eq (mul_right_comm t (down e) l ∙ ap (λ (n : ℕ). n * down e) (mul_comm t l ∙ sym (pow-add 2 (low f) (suc (emax f))))))))

-- A fraction that the format holds is rounded to itself.
-- Proof: the fraction is a multiple m * 2 ^ j of the format's smallest value with few digits in m, so rounding keeps its value (`round_exact`).
-- The result fits, and of the values that fit only one has that sign and size.
pub round_held : (f : Format) (x : Float) (s : Bool) (a c : ℕ) → 0 < c → T (fits f x) → HasValue x s a c → round f s a c ≡ x
round_held f (fin t m e) s a c c_pos x_Fits x_is =
    let s_fits : T (fits f (fin s m e)) = subst (λ (r : Bool). T (fits f (fin r m e))) x_is.0 x_Fits in
    let units = in_units f s m e s_fits in
    let own : HasValue (round f s (m * up e) (down e)) s (m * up e) (down e) =
    round_exact f s (m * up e) (down e) m units.0 (down_pos e) (few_digits f s m e s_fits) (in_range f s m e units.0 s_fits (le_of_eq (sym units.1))) units.1 in
    round_same f s a c (m * up e) (down e) c_pos (down_pos e) (sym x_is.1)
    ∙ same_value f (round f s (m * up e) (down e)) (fin t m e) s (m * up e) (down e) (down_pos e) (round-fits f s (m * up e) (down e)) x_Fits own (x_is.0, refl)
round_held f lib.Ieee.nan s a c c_pos x_Fits x_is = elim x_is [ ]
round_held f (lib.Ieee.inf _) s a c c_pos x_Fits x_is = elim x_is [ ]
