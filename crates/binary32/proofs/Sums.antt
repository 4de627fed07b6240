-- A distance and a cost: their rounded sum is a distance, never below the first, and in the order of either. Assumes nothing.
use mathlib.Core.Path.{◌≡◌, refl, sym, ap, ◌∙◌, subst, subst₂}
use mathlib.Core.Bool.{Bool, true, false, cond, true≢false}
use Prim.Native.Nat.{ℕ, ◌+◌, ◌-◌, ◌*◌, ◌≤◌, zero-le}
use native.Mathlib.Nat.{le_trans, le_of_eq, zero-lt-suc, add-le-add, add-mul, add-zero, sub-zero, zero-mul, mul-one, mul_comm, mul_assoc, mul_left_comm, mul-mul-mul_comm, mul-le-mul_right, mul-pos}
use native.Mathlib.Omega.{arith}
use borrow.Author.Tests.{ltb-false, le-ltb}
use lib.IntN.{ℤ, pos}
use lib.Dec.{T}
use lib.Ieee.{Float, inf, fin, Format, binary32, up, down, round, sum, add, lt, fits, of_bits}
use lib.Ieee.Fits.{down_pos, add-fits}
use lib.Ieee.Positive.{num, den, den_pos}
use lib.Ieee.Scale.{finite}
use Rattle.binary32.specs.Numbers.{plus_zero}
use Rattle.binary32.specs.FromZero.{sign_clear, Distance, NonNegative}
use Rattle.binary32.proofs.Exact.{round_held}
use Rattle.binary32.proofs.Shapes.{FromPlusZero, infinite, number, distance_shape, NotBelowZero, plus, minus_zero, cost_shape, plus_zero_is_distance, distance_is_non_negative}
use Rattle.binary32.proofs.DistanceOrder.{lt_irreflexive, none_above_infinity}
use Rattle.binary32.proofs.Rounding.{round_clear, round_monotone}

-- ---- the sum

-- -0 adds like +0
sum_with_minus_zero : (f : Format) (a c : ℕ) → sum f false a true 0 c ≡ round f false a c
unfolding sum
sum_with_minus_zero f a c =
    ap (λ (b : Bool). cond b (round f true (0 - a) c) (round f false (a - 0) c)) (le-ltb a 0 zero-le)
    ∙ ap (λ (n : ℕ). round f false n c) (sub-zero a)

-- The sum of two numbers, neither of them below 0, is the exact sum rounded.
pub cost_sum_rounds : (f : Format) (m : ℕ) (e : ℤ) {w : Float} → NotBelowZero w → T (finite w) → add f (fin false m e) w ≡ round f false (m * up e * den w + num w * down e) (down e * den w)
unfolding add sum
cost_sum_rounds f m e (plus (number n d)) h = refl
cost_sum_rounds f m e (minus_zero d) h =
    let none : 0 * up d * down e ≡ 0 = ap (λ (n : ℕ). n * down e) (zero-mul (up d)) ∙ zero-mul (down e) in
    ap (λ (n : ℕ). sum f false (m * up e * down d) true n (down e * down d)) none
    ∙ sum_with_minus_zero f (m * up e * down d) (down e * down d)
    ∙ ap (λ (n : ℕ). round f false n (down e * down d)) (sym (add-zero (m * up e * down d)) ∙ ap (λ (n : ℕ). m * up e * down d + n) (sym none))
cost_sum_rounds f m e (plus infinite) h = elim h [ ]

infinite_left : (f : Format) {w : Float} → NotBelowZero w → add f (inf false) w ≡ inf false
unfolding add
infinite_left f (plus infinite) = refl
infinite_left f (plus (number n d)) = refl
infinite_left f (minus_zero d) = refl

infinite_right : (f : Format) {x : Float} → FromPlusZero x → add f x (inf false) ≡ inf false
unfolding add
infinite_right f infinite = refl
infinite_right f (number m e) = refl

pub sum_clear : (f : Format) {x w : Float} → FromPlusZero x → NotBelowZero w → T (sign_clear (add f x w))
unfolding add
sum_clear f infinite (plus infinite) = tt
sum_clear f infinite (plus (number n d)) = tt
sum_clear f infinite (minus_zero d) = tt
sum_clear f (number m e) (plus infinite) = tt
sum_clear f (number m e) (plus (number n d)) = round_clear f (m * up e * down d + n * up d * down e) (down e * down d)
sum_clear f (number m e) (minus_zero d) =
    subst (λ (x : Float). T (sign_clear x)) (sym (cost_sum_rounds f m e (minus_zero d) tt)) (round_clear f (m * up e * down d + 0 * up d * down e) (down e * down d))

-- A distance and a cost add up to a distance: their sum fits, is no NaN and has the sign clear.
pub add_is_distance : {x w : Float} → Distance x → NonNegative w → Distance (add binary32 x w)
add_is_distance {x} {w} x_good w_good = record { held = add-fits binary32 x w; clear = sum_clear binary32 (distance_shape x_good) (cost_shape w_good) }

-- ---- the order of sums

-- M / E ≤ N / D and W / G ≤ Z / H, so M / E + W / G ≤ N / D + Z / H
sums_in_order : (M E N D W G Z H : ℕ) → M * D ≤ N * E → W * H ≤ Z * G → (M * G + W * E) * (D * H) ≤ (N * H + Z * D) * (E * G)
sums_in_order M E N D W G Z H h k =
    let first : M * G * (D * H) ≤ N * H * (E * G) =
    le_trans (le_of_eq (mul-mul-mul_comm M G D H)) (le_trans (mul-le-mul_right (G * H) h) (le_of_eq (simp (mul_assoc, mul_comm, mul_left_comm)))) in
    let second : W * E * (D * H) ≤ Z * D * (E * G) =
    le_trans (le_of_eq (ap (λ (n : ℕ). W * E * n) (mul_comm D H) ∙ mul-mul-mul_comm W E H D)) (le_trans (mul-le-mul_right (E * D) k) (le_of_eq (simp (mul_assoc, mul_comm, mul_left_comm)))) in
    le_trans (le_of_eq (add-mul (M * G) (W * E) (D * H))) (le_trans (add-le-add first second) (le_of_eq (sym (add-mul (N * H) (Z * D) (E * G)))))

no_more : (a b c : ℕ) → a + b ≤ 0 → b ≤ c
no_more a b c h = omega arith

costs_in_order : {w v : Float} → NotBelowZero w → NotBelowZero v → T (finite w) → T (finite v) → lt v w ≡ false → num w * den v ≤ num v * den w
unfolding lt
costs_in_order (plus (number n d)) (plus (number p g)) w_finite v_finite h = ltb-false (p * up g * down d) (n * up d * down g) h
costs_in_order (plus (number n d)) (minus_zero g) w_finite v_finite h = no_more (0 * up g * down d) (n * up d * down g) (0 * up g * down d) (ltb-false 0 (0 * up g * down d + n * up d * down g) h)
costs_in_order {v} (minus_zero d) v_shape w_finite v_finite h = le_trans (le_of_eq (ap (λ (n : ℕ). n * den v) (zero-mul (up d)) ∙ zero-mul (den v))) zero-le
costs_in_order {v = v} (plus infinite) v_shape w_finite v_finite h = elim w_finite [ ]
costs_in_order (plus (number n d)) (plus infinite) w_finite v_finite h = elim v_finite [ ]

numbers_in_order : (f : Format) (m : ℕ) (e : ℤ) (n : ℕ) (d : ℤ) {w v : Float} → NotBelowZero w → NotBelowZero v → T (finite w) → T (finite v)
    → lt (fin false n d) (fin false m e) ≡ false → lt v w ≡ false → lt (add f (fin false n d) v) (add f (fin false m e) w) ≡ false
unfolding lt
numbers_in_order f m e n d {w} {v} w_shape v_shape w_finite v_finite h k =
    let a = m * up e * den w + num w * down e in
    let b = n * up d * den v + num v * down d in
    subst₂ (λ (x y : Float). lt y x ≡ false) (sym (cost_sum_rounds f m e w_shape w_finite)) (sym (cost_sum_rounds f n d v_shape v_finite))
    (round_monotone f a (down e * den w) b (down d * den v) (mul-pos (down_pos e) (den_pos w)) (mul-pos (down_pos d) (den_pos v))
    (sums_in_order (m * up e) (down e) (n * up d) (down d) (num w) (den w) (num v) (den v) (ltb-false (n * up d * down e) (m * up e * down d) h) (costs_in_order w_shape v_shape w_finite v_finite k)))

all_in_order : (f : Format) {x y w v : Float} → FromPlusZero x → FromPlusZero y → NotBelowZero w → NotBelowZero v → lt y x ≡ false → lt v w ≡ false → lt (add f y v) (add f x w) ≡ false
unfolding lt
all_in_order f {x} {w} x_shape infinite w_shape v_shape h k =
    subst (λ (z : Float). lt z (add f x w) ≡ false) (sym (infinite_left f v_shape)) (none_above_infinity (add f x w))
all_in_order f {x} {w} x_shape (number n d) w_shape (plus infinite) h k =
    subst (λ (z : Float). lt z (add f x w) ≡ false) (sym (infinite_right f (number n d))) (none_above_infinity (add f x w))
all_in_order f infinite (number n d) w_shape (plus (number p g)) h k = absurd (true≢false h)
all_in_order f infinite (number n d) w_shape (minus_zero g) h k = absurd (true≢false h)
all_in_order f (number m e) (number n d) (plus infinite) (plus (number p g)) h k = absurd (true≢false k)
all_in_order f (number m e) (number n d) (plus infinite) (minus_zero g) h k = absurd (true≢false k)
all_in_order f (number m e) (number n d) (plus (number q r)) (plus (number p g)) h k = numbers_in_order f m e n d (plus (number q r)) (plus (number p g)) tt tt h k
all_in_order f (number m e) (number n d) (plus (number q r)) (minus_zero g) h k = numbers_in_order f m e n d (plus (number q r)) (minus_zero g) tt tt h k
all_in_order f (number m e) (number n d) (minus_zero r) (plus (number p g)) h k = numbers_in_order f m e n d (minus_zero r) (plus (number p g)) tt tt h k
all_in_order f (number m e) (number n d) (minus_zero r) (minus_zero g) h k = numbers_in_order f m e n d (minus_zero r) (minus_zero g) tt tt h k

-- The sum keeps the order of both: for x at most y and w at most v, x + w is at most y + v.
-- Proof: with +infinity among y and v the larger sum is +infinity, and what is at least +infinity is +infinity. Otherwise all four are numbers.
-- Then the exact sums are in order, as fractions, and rounding keeps the order (`round_monotone`). -0 counts as the fraction 0.
pub add_monotone_in_both : {x y w v : Float} → Distance x → Distance y → NonNegative w → NonNegative v → lt y x ≡ false → lt v w ≡ false → lt (add binary32 y v) (add binary32 x w) ≡ false
add_monotone_in_both x_good y_good w_good v_good h k = all_in_order binary32 (distance_shape x_good) (distance_shape y_good) (cost_shape w_good) (cost_shape v_good) h k

-- For x at most y, x + w is at most y + w.
pub add_monotone : {x y w : Float} → Distance x → Distance y → NonNegative w → lt y x ≡ false → lt (add binary32 y w) (add binary32 x w) ≡ false
add_monotone {w} x_good y_good w_good h = add_monotone_in_both x_good y_good w_good w_good h (lt_irreflexive w)

-- For w at most v, x + w is at most x + v.
pub add_monotone_in_cost : {x w v : Float} → Distance x → NonNegative w → NonNegative v → lt v w ≡ false → lt (add binary32 x v) (add binary32 x w) ≡ false
add_monotone_in_cost {x} x_good w_good v_good k = add_monotone_in_both x_good x_good w_good v_good (lt_irreflexive x) k

zero_added : (m : ℕ) (e : ℤ) → m * up e * (down e * 1) ≡ (m * up e * 1 + 0 * 1 * down e) * down e
zero_added m e = simp (mul-one, zero-mul, add-zero)

unchanged : (f : Format) (s : Bool) {x : Float} → FromPlusZero x → T (fits f x) → add f x (fin s 0 (pos 0)) ≡ x
unfolding add
unchanged f s infinite h = refl
unchanged f true (number m e) h =
    cost_sum_rounds f m e (minus_zero (pos 0)) tt ∙ round_held f (fin false m e) false (m * up e * 1 + 0 * 1 * down e) (down e * 1) (mul-pos (down_pos e) (zero-lt-suc 0)) h (refl, zero_added m e)
unchanged f false (number m e) h =
    cost_sum_rounds f m e (plus (number 0 (pos 0))) tt ∙ round_held f (fin false m e) false (m * up e * 1 + 0 * 1 * down e) (down e * 1) (mul-pos (down_pos e) (zero-lt-suc 0)) h (refl, zero_added m e)

-- Adding +0 or -0 changes nothing: the exact sum is x, which fits.
pub add_zero_exact : (s : Bool) {x : Float} → Distance x → add binary32 x (fin s 0 (pos 0)) ≡ x
add_zero_exact s x_good = unchanged binary32 s (distance_shape x_good) x_good.held

plus_zero_added : {x : Float} → Distance x → add binary32 x plus_zero ≡ x
unfolding of_bits
plus_zero_added x_good = add_zero_exact false x_good

-- A sum is never below the distance that a cost is added to. Proof: the cost is at least +0, so x + 0 is at most x + w, and x + 0 is x.
pub add_never_falls : {x w : Float} → Distance x → NonNegative w → lt (add binary32 x w) x ≡ false
add_never_falls {x} {w} x_good w_good =
    subst (λ (z : Float). lt (add binary32 x w) z ≡ false) (plus_zero_added x_good) (add_monotone_in_cost x_good (distance_is_non_negative plus_zero_is_distance) w_good w_good.not_below)
