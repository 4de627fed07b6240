-- Demand 3: permitted paths, and what a cell has to hold. Definitions only.
use Rattle.std.specs.Prelude.{Bool, true, false, not, ◌⊎◌, ◌≡◌, ℕ, suc, ◌*◌, ◌≤◌, ◌<◌, T, eqb, Float}
use Rattle.std.specs.Float.{nan, binary32}
use Rattle.std.specs.Float.Ieee.{add, mul, lt}
use Rattle.binary32.specs.Steps.{straight, diagonal}
use Rattle.binary32.specs.Numbers.{plus_zero}
use Rattle.fifo.specs.Machine.{Net, label, finish, takes_of}
use Rattle.fifo.specs.Walk.{In}
use Rattle.fifo.specs.Laws.{room}
use Rattle.rules.specs.declared.BarrierDiagonals.{BarrierDiagonals}
use Rattle.rules.specs.Numbers.{infinity, whole}
use Rattle.rules.specs.Sizes.{Size, Grid, count}
use Rattle.rules.specs.Cells.{straight_neighbours, diagonal_neighbours}
use Rattle.rules.specs.Distances.{float, target_data, has_data, plain, free, blocked, with_obstacles, half_sum, both_data, travel}
use Rattle.rules.specs.Values.{Carried, closest, entered_by_time, closest_by_time}

-- A permitted path starts at a target and goes by steps that the search allows, and may pass a cell again. `Path c d`: such a path leads to the
-- cell c, and its sum, added from the target outward and rounded at each step, is d.
pub data Path (n : ℕ) (starts : ℕ → Bool) (Allowed : ℕ → ℕ → Float → Type 0) : ℕ → Float → Type 0 where
  -- the target alone is a path with sum 0
  alone : {c : ℕ} → c < n → T (starts c) → Path n starts Allowed c plus_zero
  -- a path to u, and one step more from u to v, of length s
  onward : {u v : ℕ} {d s : Float} → Path n starts Allowed u d → Allowed u v s → Path n starts Allowed v (add binary32 d s)

-- A step to any neighbour that passes the test, with what it adds.
abbrev pub AllowedBy : Size → (ℕ → Bool) → (ℕ → ℕ → Float → Float) → ℕ → ℕ → Float → Type 0
AllowedBy size test cost u v w =
    T (test v) × ((In v (straight_neighbours size u) × (w ≡ cost u v straight)) ⊎ (In v (diagonal_neighbours size u) × (w ≡ cost u v diagonal)))

-- Search 1 allows a step to any neighbour whose target has data, and adds its length.
abbrev pub Allowed1 : Grid ℕ → ℕ → ℕ → Float → Type 0
Allowed1 targets = AllowedBy targets.size (target_data targets) (λ u v s. s)

-- Search 2 allows a step to a neighbour that is free, a diagonal one only if it is not blocked.
abbrev pub Allowed2 : Grid ℕ → Grid ℕ → BarrierDiagonals → ℕ → ℕ → Float → Type 0
Allowed2 targets obstacles diagonals u v s =
    T (free obstacles v)
    × ((In v (straight_neighbours targets.size u) × (s ≡ straight))
    ⊎ (In v (diagonal_neighbours targets.size u) × T (not (blocked diagonals obstacles u v)) × (s ≡ diagonal)))

-- Of the sums of a cell's paths, held is the least, or the cap where no such sum is below it.
pub record LeastOrCap (Sum : Float → Type 0) (cap held : Float) : Type 0 where
  pub no_less : (d : Float) → Sum d → lt d held ≡ false
  pub met : (Sum held × (lt held cap ≡ true)) ⊎ ((held ≡ cap) × ((d : Float) → Sum d → lt d cap ≡ false))

-- What demand 3 asks of a search before scaling: a target holds 0; any other cell, save those marked nodata, holds the least sum over permitted
-- paths from any target, or the cap; the takes never exceed the square of the number of cells that may be entered or started from.
pub record HoldsLeastSums (net : Net Float) (marked : ℕ → Bool) (Allowed : ℕ → ℕ → Float → Type 0) (cap : Float) : Type 0 where
  pub target_holds_0 : (c : ℕ) → c < net.cells → T (net.start c) → label net (finish net) c ≡ plus_zero
  pub marked_holds_nan : (c : ℕ) → c < net.cells → T (marked c) → label net (finish net) c ≡ nan
  pub other_holds_least :
      (c : ℕ) → c < net.cells → T (not (net.start c)) → T (not (marked c))
      → LeastOrCap (Path net.cells net.start Allowed c) cap (label net (finish net) c)
  pub takes_within_square : takes_of net ≤ room net * room net

-- Demand 3 of search 1: cells whose target is nodata are marked, and those with target data count for the square.
abbrev pub LeastSums1 : Grid ℕ → Float → Type 0
LeastSums1 targets cap = HoldsLeastSums (plain targets cap) (λ c. not (target_data targets c)) (Allowed1 targets) cap

-- Demand 3 of search 2: no cell is marked, and targets and free cells count for the square.
abbrev pub LeastSums2 : Grid ℕ → Grid ℕ → BarrierDiagonals → Type 0
LeastSums2 targets obstacles diagonals = HoldsLeastSums (with_obstacles targets obstacles diagonals) (λ c. false) (Allowed2 targets obstacles diagonals) infinity

-- Demand 3 of search 3: it allows a step to any neighbour with target and time data. Cells without are marked, and the others count for the square.
abbrev pub LeastSums3 : Grid ℕ → Grid Float → Float → Type 0
LeastSums3 targets times cap = HoldsLeastSums (travel targets times cap) (λ c. not (both_data targets times c)) (AllowedBy targets.size (both_data targets times) (half_sum times)) cap

-- ---- searches 4, 5 and 6: where a value comes from

-- The value x, at the distance d, is that of a target from which a permitted path leads to the cell with the sum d, and no path from any target
-- has a lesser sum. The path starts at that target and at no other.
pub record FromClosest (n : ℕ) (starts : ℕ → Bool) (Allowed : ℕ → ℕ → Float → Type 0) (value : ℕ → Float) (c : ℕ) (d x : Float) : Type 0 where
  pub from : ℕ
  pub inside : from < n
  pub is_target : T (starts from)
  pub path : Path n (eqb from) Allowed c d
  pub its_value : x ≡ value from
  pub no_less : (e : Float) → Path n starts Allowed c e → lt e d ≡ false

-- Each cell, save those marked nodata, holds the value of a nearest target, or 0, and that only where no target is nearer than the cap. (A cap at or
-- below 0 leaves the targets their own values, with which they start.)
pub record HoldsClosest (net : Net Carried) (marked : ℕ → Bool) (Allowed : ℕ → ℕ → Float → Type 0) (value : ℕ → Float) (cap : Float) : Type 0 where
  pub marked_holds_nan : (c : ℕ) → c < net.cells → T (marked c) → label net (finish net) c ≡ (nan, nan)
  pub other_holds_closest :
      (c : ℕ) → c < net.cells → T (not (marked c))
      → FromClosest net.cells net.start Allowed value c (label net (finish net) c).0 (label net (finish net) c).1
      ⊎ ((label net (finish net) c ≡ (cap, plus_zero)) × ((d : Float) → Path net.cells net.start Allowed c d → lt d cap ≡ false))
  pub takes_within_square : takes_of net ≤ room net * room net

-- Search 4 allows a step to any neighbour, and adds its length. The cap is n + 1.
abbrev pub ClosestTargets4 : Grid ℕ → Grid Float → Type 0
ClosestTargets4 targets values =
    HoldsClosest (closest targets values) (λ c. false) (AllowedBy targets.size (λ v. true) (λ u v s. s)) (float values) (whole (suc (count targets.size)))

-- Searches 5 and 6 allow a step to a neighbour with value and time data, and add its length times its time. Cells without a value are marked.
abbrev pub ClosestTargetsByTime : Grid ℕ → Grid Float → Grid Float → Float → Type 0
ClosestTargetsByTime targets times values limit =
    HoldsClosest (closest_by_time targets times values limit) (λ c. not (has_data values c))
    (AllowedBy targets.size (entered_by_time times values) (λ u v s. mul binary32 s (float times v))) (float values) limit
