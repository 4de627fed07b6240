-- When a value of binary32 is the one nearest to the root of a whole number n, said with whole numbers alone. Definitions only.
-- The size of a finite value x is the fraction num x / den x, as `lib.Ieee.Positive` has it.
use Rattle.std.specs.Prelude.{◌⊎◌, true, false, ℕ, ◌+◌, ◌-◌, ◌*◌, ◌<◌, T}
use lib.Ieee.{Float, nan, inf, fin, binary32, fits, lt}
use Rattle.std.specs.Float.Ieee.Positive.{num, den, positive}

-- a / b is above twice the root of n: its square is above 4 n.
abbrev pub AboveTwiceRoot : ℕ → ℕ → ℕ → Type 0
AboveTwiceRoot n a b = 4 * n * (b * b) < a * a

-- a / b is below twice the root of n: its square is below 4 n.
abbrev pub BelowTwiceRoot : ℕ → ℕ → ℕ → Type 0
BelowTwiceRoot n a b = a * a < 4 * n * (b * b)

-- For x above c: c + x is above twice the root of n. An infinity is farther from it than any number. (No NaN is above c.)
abbrev pub FartherAbove : ℕ → Float → Float → Type 0
FartherAbove n c nan = ⊥
FartherAbove n c (inf s) = Unit {0}
FartherAbove n c (fin s m e) = let x = fin s m e in AboveTwiceRoot n (num x * den c + num c * den x) (den x * den c)

-- For x below c: c + x is below twice the root of n, as it is where a negative x makes it negative.
abbrev pub FartherBelow : ℕ → Float → Float → Type 0
FartherBelow n c nan = ⊥
FartherBelow n c (inf s) = Unit {0}
FartherBelow n c (fin false m e) = let x = fin false m e in BelowTwiceRoot n (num x * den c + num c * den x) (den x * den c)
FartherBelow n c (fin true m e) =
    let x = fin true m e in (num c * den x < num x * den c) ⊎ BelowTwiceRoot n (num c * den x - num x * den c) (den x * den c)

-- c is the value of binary32 that is nearest to the root of n, for an n above 0: it is a number above 0, and every other value x is farther from the root.
-- Why this says so without real numbers: the numbers that are nearer to c than to x are those on c's side of the midpoint (c + x) / 2.
-- So c is nearer to the root than an x above it exactly where the midpoint is above the root, that is where c + x is above twice the root.
-- And it is nearer than an x below it exactly where c + x is below twice the root. A sum that is not negative is compared with twice the root by its square and 4 n.
pub record NearestToRoot (n : ℕ) (c : Float) : Type 0 where
  pub held : T (fits binary32 c)
  pub number : T (positive c)
  pub above : (x : Float) → T (fits binary32 x) → T (lt c x) → FartherAbove n c x
  pub below : (x : Float) → T (fits binary32 x) → T (lt x c) → FartherBelow n c x
