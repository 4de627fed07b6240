-- A value from 1 on is nearest to the root of n where the root lies between the midpoints to its two neighbours. Assumes nothing.
use mathlib.Core.Path.{◌≡◌, sym, subst}
use mathlib.Core.Logic.{inr}
use mathlib.Core.Bool.{true, false}
use Prim.Native.Nat.{ℕ, suc, ◌+◌, ◌-◌, ◌*◌, ◌^◌, ◌≤◌, ◌<◌, zero-le}
use native.Mathlib.Nat.{le_trans, le_of_eq, le_of_lt, le_refl, lt_of_lt_of_le, lt_of_le_of_lt, lt_irrefl, lt_trans, sub-le, add_comm, add-le-add, add-mul, mul-one, mul_comm, mul_assoc, mul_left_comm, mul-mul-mul_comm, mul-le-mul, mul-le-mul_right, mul-lt-mul_of_pos_right, mul-pos}
use native.Mathlib.Omega.{arith}
use lib.IntN.{negsuc}
use lib.Dec.{T, ltb→lt, lt→ltb}
use lib.Ieee.{Float, nan, inf, fin, binary32, fits, lt}
use lib.Ieee.Positive.{num, den, den_pos, positive}
use Rattle.binary32.specs.NearestRoot.{AboveTwiceRoot, BelowTwiceRoot, FartherAbove, FartherBelow, NearestToRoot}
use Rattle.binary32.proofs.Spacing.{none_between, none_between_below}

-- ---- what is above twice the root stays so where it grows, and what is below it where it shrinks

rescaled : (k d b : ℕ) → k * (b * d * (b * d)) ≡ k * (d * d) * (b * b)
rescaled k d b = simp (mul_assoc, mul_comm, mul_left_comm)

-- s / d is above, and a / (b * d) is at least s / d
above_stays : (n s d b a : ℕ) → 0 < b → AboveTwiceRoot n s d → s * b ≤ a → AboveTwiceRoot n a (b * d)
above_stays n s d b a b_pos root more =
    lt_of_le_of_lt (le_of_eq (rescaled _ d b))
    (lt_of_lt_of_le (mul-lt-mul_of_pos_right root (mul-pos b_pos b_pos))
    (le_trans (le_of_eq (mul-mul-mul_comm s s b b)) (mul-le-mul more more)))

-- s / d is below, and a / (b * d) is at most s / d
below_stays : (n s d b a : ℕ) → 0 < b → BelowTwiceRoot n s d → a ≤ s * b → BelowTwiceRoot n a (b * d)
below_stays n s d b a b_pos root less =
    lt_of_le_of_lt (le_trans (mul-le-mul less less) (le_of_eq (sym (mul-mul-mul_comm s s b b))))
    (lt_of_lt_of_le (mul-lt-mul_of_pos_right root (mul-pos b_pos b_pos)) (le_of_eq (sym (rescaled _ d b))))

-- ---- g / d and the number a / (b * d), where that lies at a neighbour of g or beyond it: their sum, over b * d

sum_with_next : (g b a : ℕ) → suc g * b ≤ a → (2 * g + 1) * b ≤ a + g * b
sum_with_next g b a h =
    let sum : 2 * g + 1 ≡ suc g + g = omega arith in
    subst (λ (k : ℕ). k * b ≤ a + g * b) (sym sum) (le_trans (le_of_eq (add-mul (suc g) g b)) (add-le-add h (le_refl (g * b))))

sum_with_previous : (g b a : ℕ) → 0 < g → a ≤ (g - 1) * b → a + g * b ≤ (2 * g - 1) * b
sum_with_previous g b a g_pos h =
    let sum : 2 * g - 1 ≡ g - 1 + g = omega arith in
    subst (λ (k : ℕ). a + g * b ≤ k * b) (sym sum) (le_trans (add-le-add h (le_refl (g * b))) (le_of_eq (sym (add-mul (g - 1) g b))))

difference_is_less : (g b a : ℕ) → 0 < g → g * b - a ≤ (2 * g - 1) * b
difference_is_less g b a g_pos =
    let sum : g ≤ 2 * g - 1 = omega arith in
    le_trans (sub-le (g * b) a) (mul-le-mul_right b sum)

-- ---- the values from 1 to below 2 are g / 2 ^ 23

abbrev pub of_units : ℕ → Float
of_units g = fin false g (negsuc 22)

-- The root lies between the midpoints of g / 2 ^ 23 and its two neighbours, (2 g - 1) / 2 ^ 24 and (2 g + 1) / 2 ^ 24.
pub record RootAt (n g : ℕ) : Type 0 where
  pub from_one : 2 ^ 23 < g
  pub midpoint_before : BelowTwiceRoot n (2 * g - 1) (2 ^ 23)
  pub midpoint_after : AboveTwiceRoot n (2 * g + 1) (2 ^ 23)

module _ (n g : ℕ) (at : RootAt n (num (of_units g))) where
  g_pos : 0 < num (of_units g)
  g_pos = lt_of_le_of_lt zero-le at.from_one

  farther_above : (x : Float) → T (fits binary32 x) → T (lt (of_units g) x) → FartherAbove n (of_units g) x
  unfolding lt
  farther_above nan t l = absurd l
  farther_above (inf s) t l = tt
  farther_above (fin true m e) t l = absurd l
  farther_above (fin false m e) t l =
      let x = fin false m e in
      let c = of_units g in
      above_stays n (2 * num c + 1) (den c) (den x) (num x * den c + num c * den x) (den_pos x) at.midpoint_after
      (sum_with_next (num c) (den x) (num x * den c)
      (none_between binary32 x (num c) t (le_of_lt at.from_one) (ltb→lt (num c * den x) (num x * den c) l)))

  farther_below : (x : Float) → T (fits binary32 x) → T (lt x (of_units g)) → FartherBelow n (of_units g) x
  unfolding lt
  farther_below nan t l = absurd l
  farther_below (inf s) t l = tt
  farther_below (fin true m e) t l =
      let x = fin true m e in
      let c = of_units g in
      inr (below_stays n (2 * num c - 1) (den c) (den x) (num c * den x - num x * den c) (den_pos x) at.midpoint_before (difference_is_less (num c) (den x) (num x * den c) g_pos))
  farther_below (fin false m e) t l =
      let x = fin false m e in
      let c = of_units g in
      below_stays n (2 * num c - 1) (den c) (den x) (num x * den c + num c * den x) (den_pos x) at.midpoint_before
      (sum_with_previous (num c) (den x) (num x * den c) g_pos
      (none_between_below binary32 x (num c) t at.from_one (ltb→lt (num x * den c) (num c * den x) l)))

-- c = g / 2 ^ 23 is nearest to the root of n where the root lies between the midpoints to the neighbours of c.
-- Proof: a value x above c is at least the next multiple of 2 ^ -23 (`none_between`), so c + x is at least (2 g + 1) / 2 ^ 23, which is above twice the root.
-- A value x below c is at most the multiple before c, or below 1, or negative, so c + x is at most (2 g - 1) / 2 ^ 23, which is below twice the root.
pub nearest_by_midpoints : (n g : ℕ) → T (fits binary32 (of_units g)) → RootAt n g → NearestToRoot n (of_units g)
nearest_by_midpoints n g held at =
    let at' : RootAt n (num (of_units g)) = subst (λ (k : ℕ). RootAt n k) (sym (mul-one g)) at in
    record {
      held = held;
      number = lt→ltb 0 g (lt_of_le_of_lt zero-le at.from_one);
      above = farther_above n g at';
      below = farther_below n g at';
    }

-- ---- there is one nearest value at most

both_sides : (n : ℕ) (c x : Float) → T (positive c) → T (positive x) → FartherAbove n c x → FartherBelow n x c → ⊥
both_sides n nan x p q a b = absurd p
both_sides n (inf s) x p q a b = absurd p
both_sides n (fin true m e) x p q a b = absurd p
both_sides n (fin false m e) nan p q a b = absurd q
both_sides n (fin false m e) (inf t) p q a b = absurd q
both_sides n (fin false m e) (fin true k d) p q a b = absurd q
both_sides n (fin false m e) (fin false k d) p q a b =
    let c = fin false m e in
    let x = fin false k d in
    let sum = num x * den c + num c * den x in
    let b' : BelowTwiceRoot n sum (den c * den x) = subst (λ (s : ℕ). BelowTwiceRoot n s (den c * den x)) (add_comm (num c * den x) (num x * den c)) b in
    let b'' : BelowTwiceRoot n sum (den x * den c) = subst (λ (d : ℕ). BelowTwiceRoot n sum d) (mul_comm (den c) (den x)) b' in
    lt_irrefl (sum * sum) (lt_trans b'' a)

-- Of two values that are nearest to one root, neither is above the other.
-- Proof: were x above c, then c + x would be above twice the root, since c is nearer than x, and below it, since x is nearer than c.
pub nearest_is_unique : (n : ℕ) (c x : Float) → NearestToRoot n c → NearestToRoot n x → T (lt c x) → ⊥
nearest_is_unique n c x near_c near_x l = both_sides n c x near_c.number near_x.number (near_c.above x near_x.held l) (near_x.below c near_c.held l)
