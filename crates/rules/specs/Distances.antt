-- Searches 1, 2 and 3: distances. Definitions only.
use Rattle.std.specs.Prelude.{Bool, false, not, cond, ◌&&◌, ◌||◌, List, [], ◌∷◌, map, ℕ, eqb, get_or, length, Float}
use Rattle.std.specs.Float.{nan, binary32}
use Rattle.std.specs.Float.Ieee.{add, mul, div, lt}
use Rattle.binary32.specs.Nodata.{nodata}
use Rattle.fifo.specs.Machine.{Net, finish, takes_of}
use Rattle.binary32.specs.Numbers.{plus_zero, two}
use Rattle.rules.specs.declared.BarrierDiagonals.{BarrierDiagonals}
use Rattle.rules.specs.declared.BarrierDiagonals.TheVariants.{Include, Exclude}
use Rattle.rules.specs.Numbers.{infinity, nodata_byte, target_byte}
use Rattle.rules.specs.Sizes.{Grid, Spacing, Lent, Outcome, accepted, Judged, unless, first_that_holds, shape, bad_cell_size, nan_limit, negative_time, count}
use Rattle.rules.specs.Cells.{index, row_of, col_of, moves}

-- A byte grid's cell, and a float grid's.
abbrev pub byte : Grid ℕ → ℕ → ℕ
byte grid c = get_or grid.cells c 0

abbrev pub float : Grid Float → ℕ → Float
float grid c = get_or grid.cells c nan

-- A target is a cell whose target byte is nonzero and not 255, which is nodata.
abbrev pub target : Grid ℕ → ℕ → Bool
target targets c = target_byte (byte targets c)

-- A target has data unless its byte is 255, a time, value or amount unless it is NaN.
abbrev pub target_data : Grid ℕ → ℕ → Bool
target_data targets c = not (nodata_byte (byte targets c))

abbrev pub has_data : Grid Float → ℕ → Bool
has_data grid c = not (nodata (float grid c))

-- Targets start at +0.0, the rest at the cap.
abbrev pub from_targets : (ℕ → Bool) → Float → ℕ → Float
from_targets start cap c = cond (start c) plus_zero cap

-- ---- 1: distances_up_to

-- d + s.
abbrev pub plus_step : Float → ℕ → Float → Float
plus_step s v d = add binary32 d s

-- A nodata target holds NaN and is never entered.
unfoldable pub plain : Grid ℕ → Float → Net Float
plain targets cap = record {
  cells = count targets.size;
  below = lt;
  first = λ c. cond (target_data targets c) (from_targets (target targets) cap c) nan;
  start = target targets;
  enterable = target_data targets;
  nbrs = moves targets.size (target_data targets) (target_data targets) plus_step;
}

-- At the end all cells, cap included, are multiplied by the cell size.
unfoldable pub scaled : Float → List Float → List Float
scaled cell_size labels = map (λ d. mul binary32 d cell_size) labels

-- Refusals 1 to 3, then 4 for the cell size and 5 for a limit that is NaN.
unfoldable pub refusals_1 : Grid ℕ → Spacing → Lent → Judged
refusals_1 targets spacing lent = first_that_holds (
    shape targets.size [] (length targets.cells ∷ []) lent (
    bad_cell_size spacing.cell_size ∷ nan_limit spacing.limit ∷ []))

-- The takes and the scaled distances.
unfoldable pub outcome_1 : Grid ℕ → Spacing → Lent → Outcome
outcome_1 targets spacing lent = unless (refusals_1 targets spacing lent) (λ search.
    let net = plain targets spacing.limit in
    accepted (takes_of net) (scaled spacing.cell_size (finish net).labels))

-- ---- 2: distance_with_obstacles

-- An obstacle is nonzero or nodata.
abbrev pub obstacle : Grid ℕ → ℕ → Bool
obstacle obstacles c = not (eqb (byte obstacles c) 0) || nodata_byte (byte obstacles c)

abbrev pub free : Grid ℕ → ℕ → Bool
free obstacles c = not (obstacle obstacles c)

-- With `Exclude` a diagonal is refused only if both cells beside it are obstacles; with `Include` never for that.
abbrev pub blocked : BarrierDiagonals → Grid ℕ → ℕ → ℕ → Bool
blocked Include obstacles u v = false
blocked Exclude obstacles u v =
    let size = obstacles.size in
    obstacle obstacles (index size (row_of size u) (col_of size v)) && obstacle obstacles (index size (row_of size v) (col_of size u))

-- Obstacles are never entered, but a target on one starts at 0. The cap is infinity.
unfoldable pub with_obstacles : Grid ℕ → Grid ℕ → BarrierDiagonals → Net Float
with_obstacles targets obstacles diagonals = record {
  cells = count targets.size;
  below = lt;
  first = from_targets (target targets) infinity;
  start = target targets;
  enterable = λ c. target targets c || free obstacles c;
  nbrs = λ u. moves targets.size (free obstacles) (λ v. free obstacles v && not (blocked diagonals obstacles u v)) plus_step u;
}

-- Refusals 1 to 3, then 4. Not 5: search 2 never reads the limit.
unfoldable pub refusals_2 : Grid ℕ → Grid ℕ → Spacing → Lent → Judged
refusals_2 targets obstacles spacing lent = first_that_holds (
    shape targets.size (obstacles.size ∷ []) (length targets.cells ∷ length obstacles.cells ∷ []) lent (
    bad_cell_size spacing.cell_size ∷ []))

-- Scaled as 1.
unfoldable pub outcome_2 : Grid ℕ → Grid ℕ → Spacing → BarrierDiagonals → Lent → Outcome
outcome_2 targets obstacles spacing diagonals lent = unless (refusals_2 targets obstacles spacing lent) (λ search.
    let net = with_obstacles targets obstacles diagonals in
    accepted (takes_of net) (scaled spacing.cell_size (finish net).labels))

-- ---- 3: travel_distances_up_to

-- (s / 2) * (a + b): half the step times the sum of both times.
abbrev pub half_sum : Grid Float → ℕ → ℕ → Float → Float
half_sum times u v s = mul binary32 (div binary32 s two) (add binary32 (float times u) (float times v))

-- d + (s / 2) * (a + b).
abbrev pub plus_half_sum : Grid Float → ℕ → Float → ℕ → Float → Float
plus_half_sum times u s v d = add binary32 d (half_sum times u v s)

-- Neither target nor time is nodata.
abbrev pub both_data : Grid ℕ → Grid Float → ℕ → Bool
both_data targets times c = target_data targets c && has_data times c

-- NaN where target or time is nodata, never started from or entered. The rest start at the cap.
unfoldable pub travel : Grid ℕ → Grid Float → Float → Net Float
travel targets times cap = record {
  cells = count targets.size;
  below = lt;
  first = λ c. cond (both_data targets times c) (from_targets (target targets) cap c) nan;
  start = λ c. target targets c && both_data targets times c;
  enterable = both_data targets times;
  nbrs = λ u. moves targets.size (both_data targets times) (both_data targets times) (plus_half_sum times u) u;
}

-- Refusals 1 to 3, then 5 for a cap that is NaN, and 6.
unfoldable pub refusals_3 : Grid ℕ → Grid Float → Float → Lent → Judged
refusals_3 targets times cap lent = first_that_holds (
    shape targets.size (times.size ∷ []) (length targets.cells ∷ length times.cells ∷ []) lent (
    nan_limit cap ∷ negative_time times.cells ∷ []))

-- Not scaled.
unfoldable pub outcome_3 : Grid ℕ → Grid Float → Float → Lent → Outcome
outcome_3 targets times cap lent = unless (refusals_3 targets times cap lent) (λ search.
    let net = travel targets times cap in
    accepted (takes_of net) (finish net).labels)
