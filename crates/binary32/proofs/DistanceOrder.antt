-- The order on the values from +0 to +infinity. `lt y x ≡ false` says that x is at most y. Assumes nothing.
use mathlib.Core.Path.{◌≡◌, refl, sym, subst}
use mathlib.Core.Logic.{◌⊎◌, inl, inr}
use mathlib.Core.Bool.{Bool, true, false, not, ◌&&◌, ◌||◌, true≢false, false≢true}
use Prim.Native.Nat.{ℕ, ◌*◌, ◌≤◌, ◌<◌}
use native.Mathlib.Nat.{le_refl, le_of_eq, le_of_lt}
use borrow.Author.Tests.{ltb-false, le-ltb}
use lib.Dec.{T, ltb, eqb, ltb→lt, eqb→eq}
use lib.Ieee.{Float, nan, inf, fin, binary32, up, down, lt, le, fits, is_nan, of_bits, eq}
use lib.Ieee.Fits.{down_pos}
use lib.Ieee.Positive.{through}
use lib.Ieee.Scale.{finite}
use Rattle.binary32.specs.Numbers.{plus_zero}
use Rattle.binary32.specs.FromZero.{sign_clear, Distance}
use Rattle.binary32.proofs.Shapes.{FromPlusZero, infinite, number, distance_shape, distance_is_non_negative}

-- ---- the order

-- No value is below itself, a NaN and the negative ones included.
pub lt_irreflexive : (x : Float) → lt x x ≡ false
unfolding lt
lt_irreflexive nan = refl
lt_irreflexive (inf true) = refl
lt_irreflexive (inf false) = refl
lt_irreflexive (fin true m e) = let a = m * up e * down e in le-ltb a a (le_refl a)
lt_irreflexive (fin false m e) = let a = m * up e * down e in le-ltb a a (le_refl a)

transitive : {x y z : Float} → FromPlusZero x → FromPlusZero y → FromPlusZero z → lt y x ≡ false → lt z y ≡ false → lt z x ≡ false
unfolding lt
transitive infinite infinite infinite h k = refl
transitive infinite infinite (number p g) h k = absurd (true≢false k)
transitive infinite (number n d) infinite h k = absurd (true≢false h)
transitive infinite (number n d) (number p g) h k = absurd (true≢false h)
transitive (number m e) infinite infinite h k = refl
transitive (number m e) infinite (number p g) h k = absurd (true≢false k)
transitive (number m e) (number n d) infinite h k = refl
transitive (number m e) (number n d) (number p g) h k =
    le-ltb (p * up g * down e) (m * up e * down g)
    (through (m * up e) (n * up d) (p * up g) (down e) (down d) (down g) (down_pos d) (ltb-false (n * up d * down e) (m * up e * down d) h) (ltb-false (p * up g * down d) (n * up d * down g) k))

-- At most is transitive. Proof: below +infinity it is the order of fractions, and nothing but +infinity is at least +infinity.
pub not_lt_transitive : {x y z : Float} → Distance x → Distance y → Distance z → lt y x ≡ false → lt z y ≡ false → lt z x ≡ false
not_lt_transitive x_good y_good z_good h k = transitive (distance_shape x_good) (distance_shape y_good) (distance_shape z_good) h k

one_way : {x y : Float} → FromPlusZero x → FromPlusZero y → lt x y ≡ true → lt y x ≡ false
unfolding lt
one_way infinite infinite h = refl
one_way infinite (number n d) h = absurd (false≢true h)
one_way (number m e) infinite h = refl
one_way (number m e) (number n d) h = le-ltb (n * up d * down e) (m * up e * down d) (le_of_lt (ltb→lt (m * up e * down d) (n * up d * down e) (subst T (sym h) tt)))

-- Of two distances at most one is below the other.
pub lt_asymmetric : {x y : Float} → Distance x → Distance y → lt x y ≡ true → lt y x ≡ false
lt_asymmetric x_good y_good h = one_way (distance_shape x_good) (distance_shape y_good) h

-- ---- the two ends

-- No distance is below +0.
pub none_below_plus_zero : {x : Float} → Distance x → lt x plus_zero ≡ false
none_below_plus_zero x_good = (distance_is_non_negative x_good).not_below

-- No value is above +infinity.
pub none_above_infinity : (x : Float) → lt (inf false) x ≡ false
unfolding lt
none_above_infinity nan = refl
none_above_infinity (inf s) = refl
none_above_infinity (fin s m e) = refl

-- A value above +0 is finite exactly where it is below +infinity.
pub finite_below_infinity : (x : Float) → lt plus_zero x ≡ true → finite x ≡ lt x (inf false)
unfolding lt of_bits
finite_below_infinity nan above = absurd (false≢true above)
finite_below_infinity (inf true) above = absurd (false≢true above)
finite_below_infinity (inf false) above = refl
finite_below_infinity (fin s m e) above = refl

none_below_minus : {x : Float} (c : Float) → T (not (is_nan c)) → T (not (sign_clear c)) → FromPlusZero x → lt x c ≡ false
unfolding lt is_nan
none_below_minus (inf true) c_number minus infinite = refl
none_below_minus (inf true) c_number minus (number m e) = refl
none_below_minus (fin true n d) c_number minus infinite = refl
none_below_minus (fin true n d) c_number minus (number m e) = refl
none_below_minus nan c_number minus _ = elim c_number [ ]
none_below_minus (inf false) c_number minus _ = elim minus [ ]
none_below_minus (fin false n d) c_number minus _ = elim minus [ ]

-- A value that is no NaN is a distance, or no distance is below it: it is -0, or below 0.
pub cap_is_distance_or_inert : (c : Float) → T (fits binary32 c) → is_nan c ≡ false → Distance c ⊎ ((x : Float) → Distance x → lt x c ≡ false)
cap_is_distance_or_inert c held not_nan = go (sign_clear c) refl
  where
    go : (b : Bool) → sign_clear c ≡ b → Distance c ⊎ ((x : Float) → Distance x → lt x c ≡ false)
    go true h = inl (record { held = held; clear = subst T (sym h) tt })
    go false h = inr (λ x x_good. none_below_minus c (subst (λ (b : Bool). T (not b)) (sym not_nan) tt) (subst (λ (b : Bool). T (not b)) (sym h) tt) (distance_shape x_good))

-- ---- `le`, Rust's `<=`

test→le : (a b : ℕ) → T (ltb a b || (eqb a b && true)) → a ≤ b
test→le a b = go (ltb a b) (eqb a b) (ltb→lt a b) (eqb→eq a b)
  where
    go : (l e : Bool) → (T l → a < b) → (T e → a ≡ b) → T (l || (e && true)) → a ≤ b
    go true e h k t = le_of_lt (h tt)
    go false true h k t = le_of_eq (k tt)
    go false false h k t = absurd t

-- Among the values from +0 on, x is at most y where `le x y` holds.
pub le→not_lt : {x y : Float} → FromPlusZero x → FromPlusZero y → T (le x y) → lt y x ≡ false
unfolding lt le
le→not_lt infinite infinite h = refl
le→not_lt infinite (number n d) h = absurd h
le→not_lt (number m e) infinite h = refl
le→not_lt (number m e) (number n d) h = le-ltb (n * up d * down e) (m * up e * down d) (test→le (m * up e * down d) (n * up d * down e) h)

-- What is not at most y is not below y, whatever the two are.
pub not_le_not_lt : (x y : Float) → le x y ≡ false → lt x y ≡ false
unfolding le
not_le_not_lt x y = go (lt x y) (eq x y)
  where
    go : (below level : Bool) → (below || level) ≡ false → below ≡ false
    go true level neither = neither
    go false level neither = refl
