-- Sums, products and quotients round their exact result, and give it unchanged where the format holds it: whole numbers, times 1, halves. Assumes nothing.
use mathlib.Core.Path.{◌≡◌, refl, sym, ap, ◌∙◌, subst}
use mathlib.Core.Bool.{Bool, true, false, cond}
use Prim.Native.Nat.{ℕ, zero, suc, ◌+◌, ◌-◌, ◌*◌, ◌^◌, ◌≤◌, ◌<◌}
use native.Mathlib.Nat.{le_trans, le_of_eq, lt_of_lt_of_le, lt_of_not-le, not-le_of_lt, lt_irrefl, zero-lt-suc, le-add_right, le-add_left, mul-one, mul_comm, mul_assoc, mul_left_comm, add-mul, mul-mul-mul_comm, mul-le-mul_left, le-mul_of_pos_right, pow-suc, mul-lt-mul_of_pos_right, mul-pos}
use native.Mathlib.Omega.{arith}
use native.Mathlib.Numerals.{add-one}
use lib.IntN.{ℤ, pos, negsuc}
use lib.Dec.{T, eqb, eqb-suc-zero}
use lib.Pow.{pow-add, pow_pos, pow_mono}
use lib.Ieee.{Float, nan, inf, fin, Format, binary32, binary64, prec, low, unlike, up, down, round, add, sum, mul, div, of_int, of_bits, fits}
use lib.Ieee.Fits.{up_pos, down_pos}
use lib.Ieee.Exact.{HasValue, round_exact}
use lib.Ieee.Back.{round_whole}
use lib.Ieee.Positive.{first_pos}
use lib.Ieee.Scale.{round_same}
use Rattle.binary32.specs.Numbers.{one, two}
use Rattle.binary32.proofs.Spacing.{few_digits}
use Rattle.binary32.proofs.Exact.{regroup, in_range, round_held}

-- ---- fractions: X / E is a / c, and Y / G is b / d

sum_of_fractions : (X E Y G a c b d : ℕ) → X * c ≡ a * E → Y * d ≡ b * G → (X * G + Y * E) * (c * d) ≡ (a * d + b * c) * (E * G)
sum_of_fractions X E Y G a c b d p q =
    let first : X * G * (c * d) ≡ a * d * (E * G) = mul-mul-mul_comm X G c d ∙ ap (λ (n : ℕ). n * (G * d)) p ∙ simp (mul_assoc, mul_comm, mul_left_comm) in
    let second : Y * E * (c * d) ≡ b * c * (E * G) = ap (λ (n : ℕ). Y * E * n) (mul_comm c d) ∙ mul-mul-mul_comm Y E d c ∙ ap (λ (n : ℕ). n * (E * c)) q ∙ simp (mul_assoc, mul_comm, mul_left_comm) in
    add-mul (X * G) (Y * E) (c * d) ∙ ap (λ (n : ℕ). n + Y * E * (c * d)) first ∙ ap (λ (n : ℕ). a * d * (E * G) + n) second ∙ sym (add-mul (a * d) (b * c) (E * G))

product_of_fractions : (X E Y G a c b d : ℕ) → X * c ≡ a * E → Y * d ≡ b * G → X * Y * (c * d) ≡ a * b * (E * G)
product_of_fractions X E Y G a c b d p q = mul-mul-mul_comm X Y c d ∙ ap (λ (n : ℕ). n * (Y * d)) p ∙ ap (λ (n : ℕ). a * E * n) q ∙ mul-mul-mul_comm a E b G

quotient_of_fractions : (X E Y G a c b d : ℕ) → X * c ≡ a * E → Y * d ≡ b * G → X * G * (c * b) ≡ a * d * (Y * E)
quotient_of_fractions X E Y G a c b d p q = mul-mul-mul_comm X G c b ∙ ap (λ (n : ℕ). n * (G * b)) p ∙ ap (λ (n : ℕ). a * E * n) (mul_comm G b ∙ sym q) ∙ simp (mul_assoc, mul_comm, mul_left_comm)

-- ---- an operation on numbers rounds its exact result, taken from any fractions a / c and b / d that they equal

same_sign_sum : (f : Format) (s : Bool) (a b c : ℕ) → sum f s a s b c ≡ round f s (a + b) c
unfolding sum
same_sign_sum f true a b c = refl
same_sign_sum f false a b c = refl

-- of two numbers with the same sign
pub add_rounds : (f : Format) (x y : Float) (s : Bool) (a c b d : ℕ) → 0 < c → 0 < d → HasValue x s a c → HasValue y s b d → add f x y ≡ round f s (a * d + b * c) (c * d)
unfolding add
add_rounds f (fin t m e) (fin u n g) s a c b d c_pos d_pos x_is y_is =
    let top = m * up e * down g + n * up g * down e in
    ap (λ (r : Bool). sum f r (m * up e * down g) u (n * up g * down e) (down e * down g)) x_is.0
    ∙ ap (λ (r : Bool). sum f s (m * up e * down g) r (n * up g * down e) (down e * down g)) y_is.0
    ∙ same_sign_sum f s (m * up e * down g) (n * up g * down e) (down e * down g)
    ∙ round_same f s top (down e * down g) (a * d + b * c) (c * d) (mul-pos (down_pos e) (down_pos g)) (mul-pos c_pos d_pos)
    (sum_of_fractions (m * up e) (down e) (n * up g) (down g) a c b d x_is.1 y_is.1)
add_rounds f nan y s a c b d c_pos d_pos x_is y_is = elim x_is [ ]
add_rounds f (inf _) y s a c b d c_pos d_pos x_is y_is = elim x_is [ ]
add_rounds f (fin t m e) nan s a c b d c_pos d_pos x_is y_is = elim y_is [ ]
add_rounds f (fin t m e) (inf _) s a c b d c_pos d_pos x_is y_is = elim y_is [ ]

pub mul_rounds : (f : Format) (x y : Float) (s t : Bool) (a c b d : ℕ) → 0 < c → 0 < d → HasValue x s a c → HasValue y t b d → mul f x y ≡ round f (unlike s t) (a * b) (c * d)
unfolding mul
mul_rounds f (fin r m e) (fin u n g) s t a c b d c_pos d_pos x_is y_is =
    let top = m * up e * (n * up g) in
    ap (λ (k : Bool). round f (unlike k u) top (down e * down g)) x_is.0
    ∙ ap (λ (k : Bool). round f (unlike s k) top (down e * down g)) y_is.0
    ∙ round_same f (unlike s t) top (down e * down g) (a * b) (c * d) (mul-pos (down_pos e) (down_pos g)) (mul-pos c_pos d_pos)
    (product_of_fractions (m * up e) (down e) (n * up g) (down g) a c b d x_is.1 y_is.1)
mul_rounds f nan y s t a c b d c_pos d_pos x_is y_is = elim x_is [ ]
mul_rounds f (inf _) y s t a c b d c_pos d_pos x_is y_is = elim x_is [ ]
mul_rounds f (fin r m e) nan s t a c b d c_pos d_pos x_is y_is = elim y_is [ ]
mul_rounds f (fin r m e) (inf _) s t a c b d c_pos d_pos x_is y_is = elim y_is [ ]

divisor_pos : (n U d b G : ℕ) → 0 < b → 0 < G → n * U * d ≡ b * G → 0 < n
divisor_pos n U d b G b_pos G_pos is = first_pos n U (first_pos (n * U) d (subst (λ (k : ℕ). 0 < k) (sym is) (mul-pos b_pos G_pos)))

-- by a number other than 0
pub div_rounds : (f : Format) (x y : Float) (s t : Bool) (a c b d : ℕ) → 0 < c → 0 < d → 0 < b → HasValue x s a c → HasValue y t b d → div f x y ≡ round f (unlike s t) (a * d) (c * b)
unfolding div
div_rounds f (fin r m e) (fin u zero g) s t a c b d c_pos d_pos b_pos x_is y_is = absurd (lt_irrefl 0 (divisor_pos 0 (up g) d b (down g) b_pos (down_pos g) y_is.1))
div_rounds f (fin r m e) (fin u (suc n) g) s t a c b d c_pos d_pos b_pos x_is y_is =
    let top = m * up e * down g in
    let bottom = suc n * up g * down e in
    ap (λ (k : Bool). cond k (cond (eqb m 0) nan (inf (unlike r u))) (round f (unlike r u) top bottom)) (eqb-suc-zero n)
    ∙ ap (λ (k : Bool). round f (unlike k u) top bottom) x_is.0
    ∙ ap (λ (k : Bool). round f (unlike s k) top bottom) y_is.0
    ∙ round_same f (unlike s t) top bottom (a * d) (c * b) (mul-pos (mul-pos (zero-lt-suc n) (up_pos g)) (down_pos e)) (mul-pos c_pos b_pos)
    (quotient_of_fractions (m * up e) (down e) (suc n * up g) (down g) a c b d x_is.1 y_is.1)
div_rounds f nan y s t a c b d c_pos d_pos b_pos x_is y_is = elim x_is [ ]
div_rounds f (inf _) y s t a c b d c_pos d_pos b_pos x_is y_is = elim x_is [ ]
div_rounds f (fin r m e) nan s t a c b d c_pos d_pos b_pos x_is y_is = elim y_is [ ]
div_rounds f (fin r m e) (inf _) s t a c b d c_pos d_pos b_pos x_is y_is = elim y_is [ ]

-- ---- whole numbers

whole_value : (f : Format) (n : ℕ) → n ≤ 2 ^ prec f → HasValue (of_int f (pos n)) false n 1
unfolding of_int
whole_value f n h = round_whole f false n h

-- Two whole numbers whose sum is at most 2 ^ prec are added exactly: every whole number up to there is a value of the format.
pub whole_sum_exact : (f : Format) (j k : ℕ) → j + k ≤ 2 ^ prec f → add f (of_int f (pos j)) (of_int f (pos k)) ≡ of_int f (pos (j + k))
unfolding of_int
whole_sum_exact f j k h =
    let one_place : j * 1 + k * 1 ≡ j + k = omega arith in
    add_rounds f (of_int f (pos j)) (of_int f (pos k)) false j 1 k 1 (zero-lt-suc 0) (zero-lt-suc 0) (whole_value f j (le_trans (le-add_right j k) h)) (whole_value f k (le_trans (le-add_left k j) h))
    ∙ ap (λ (n : ℕ). round f false n (1 * 1)) one_place
    ∙ ap (λ (n : ℕ). round f false (j + k) n) (mul-one 1)

one_is : of_int binary32 (pos 1) ≡ one
unfolding of_int of_bits
one_is = refl

-- So up to 2 ^ 24 counting by 1 is exact.
pub whole_plus_one_exact : (k : ℕ) → k < 2 ^ 24 → add binary32 (of_int binary32 (pos k)) one ≡ of_int binary32 (pos (k + 1))
whole_plus_one_exact k h = subst (λ (x : Float). add binary32 (of_int binary32 (pos k)) x ≡ of_int binary32 (pos (k + 1))) one_is (whole_sum_exact binary32 k 1 (le_trans (le_of_eq (add-one k)) h))

-- ---- times 1

one_value : HasValue one false 1 1
unfolding of_bits
one_value = (refl, refl)

unlike_plus : (s : Bool) → unlike s false ≡ s
unlike_plus true = refl
unlike_plus false = refl

-- Every value that fits, the NaN, the infinities and the zeros with their sign among them, is the same after a multiplication by 1.
pub times_one_exact : (f : Format) (x : Float) → T (fits f x) → mul f x one ≡ x
unfolding mul of_bits
times_one_exact f nan h = refl
times_one_exact f (inf true) h = refl
times_one_exact f (inf false) h = refl
times_one_exact f (fin s m e) h =
    mul_rounds f (fin s m e) one s false (m * up e) (down e) 1 1 (down_pos e) (zero-lt-suc 0) (refl, refl) one_value
    ∙ ap (λ (r : Bool). round f r (m * up e * 1) (down e * 1)) (unlike_plus s)
    ∙ round_held f (fin s m e) s (m * up e * 1) (down e * 1) (mul-pos (down_pos e) (zero-lt-suc 0)) h (refl, simp (mul-one))

-- ---- halves

two_value : HasValue two false 2 1
unfolding of_bits
two_value = (refl, refl)

low_pos : (f : Format) (k : ℕ) → 1 ≤ k + low f
low_pos binary32 k = omega arith
low_pos binary64 k = omega arith

-- with few digits, a number of 2 ^ prec units or more has an exponent that can go one lower
one_lower : (p l k m : ℕ) → m < 2 ^ p → 2 ^ p * 2 ^ k ≤ m * 2 ^ l → k < l
one_lower p l k m short big =
    lt_of_not-le (λ (l≤k : l ≤ k). not-le_of_lt (lt_of_lt_of_le (mul-lt-mul_of_pos_right short (pow_pos l)) (mul-le-mul_left (2 ^ p) (pow_mono l≤k))) big)

half_in_units : (f : Format) (m : ℕ) (e : ℤ) → m < 2 ^ prec f → 2 ^ prec f * down e ≤ m * up e * 2 ^ low f → (j : ℕ) × (m * up e * 2 ^ low f ≡ m * 2 ^ j * (down e * 2))
half_in_units f m (pos k) short big = (k + low f - 1, mul_assoc m (2 ^ k) (2 ^ low f) ∙ ap (λ (n : ℕ). m * n) (sym (pow-add 2 k (low f))) ∙ regroup m (k + low f) 1 (low_pos f k))
half_in_units f m (negsuc k) short big =
    let flat = ap (λ (n : ℕ). n * 2 ^ low f) (mul-one m) in
    let lower = one_lower (prec f) (low f) (suc k) m short (le_trans big (le_of_eq flat)) in
    (low f - suc (suc k), flat ∙ regroup m (low f) (suc (suc k)) lower ∙ ap (λ (n : ℕ). m * 2 ^ (low f - suc (suc k)) * n) (pow-suc 2 (suc k)))

-- Half of a number is exact where the number is 2 ^ prec units or more, that is where its half is in the normal range.
-- Proof: the half has the same few digits and an exponent that is one lower, which the format still has.
pub half_exact : (f : Format) (s : Bool) (m : ℕ) (e : ℤ) → T (fits f (fin s m e)) → 2 ^ prec f * down e ≤ m * up e * 2 ^ low f → HasValue (div f (fin s m e) two) s (m * up e) (down e * 2)
half_exact f s m e h big =
    let short = few_digits f s m e h in
    let units = half_in_units f m e short big in
    let less : m * 2 ^ units.0 * down e ≤ m * up e * 2 ^ low f = le_trans (mul-le-mul_left (m * 2 ^ units.0) (le-mul_of_pos_right (down e) (zero-lt-suc 1))) (le_of_eq (sym units.1)) in
    let rounded : div f (fin s m e) two ≡ round f s (m * up e) (down e * 2) =
    div_rounds f (fin s m e) two s false (m * up e) (down e) 2 1 (down_pos e) (zero-lt-suc 0) (zero-lt-suc 1) (refl, refl) two_value
    ∙ ap (λ (r : Bool). round f r (m * up e * 1) (down e * 2)) (unlike_plus s)
    ∙ ap (λ (n : ℕ). round f s n (down e * 2)) (mul-one (m * up e)) in
    subst (λ (x : Float). HasValue x s (m * up e) (down e * 2)) (sym rounded)
    (round_exact f s (m * up e) (down e * 2) m units.0 (mul-pos (down_pos e) (zero-lt-suc 1)) short (in_range f s m e units.0 h less) units.1)
