-- Searches 7 and 8: sums within reach. Definitions only.
use Rattle.std.specs.Prelude.{Bool, true, not, cond, ◌&&◌, ℕ, ◌+◌, ◌*◌, min, eqb, ℤ, pos, negsuc, get_or, set, length, replicate, Float}
use mathlib.Core.List.{List, [], ◌∷◌, map, foldl}
use Rattle.std.specs.Float.{nan, binary32}
use Rattle.std.specs.Float.Ieee.{add, mul, lt, le, eq}
use Rattle.binary32.specs.Nodata.{nodata}
use Rattle.fifo.specs.Machine.{Net, State, among, joined, passing, finish, takes_of, trace, initial}
use Rattle.binary32.specs.Numbers.{plus_zero, one}
use Rattle.rules.specs.Numbers.{infinity, quarter_of_largest}
use Rattle.rules.specs.Sizes.{Size, Grid, Lent, Refusal, number_at, Outcome, accepted, Judged, unless, any, first_that_holds, shape, bad_budget, negative_time, count}
use Rattle.rules.specs.Cells.{neighbours, moves}
use Rattle.rules.specs.Distances.{float, target, has_data, plus_half_sum}

-- The run of one start: the cell that it starts from, its takes, and where it ends.
pub record Run : Type 0 where
  pub from : ℕ
  pub takes : ℕ
  pub ends : State Float

-- The run of the net from a cell.
abbrev pub run_of : (ℕ → Net Float) → ℕ → Run
run_of net c = record { from = c; takes = takes_of (net c); ends = finish (net c) }

-- The takes over all starts together, whatever they come to.
abbrev pub summed_takes : ℕ → List Run → ℕ
summed_takes before runs = foldl (λ total run. total + run.takes) before runs

-- takes over all starts together, where a total above 18,446,744,073,709,551,615 is given as that number.
unfoldable pub total_takes : List Run → ℕ
total_takes runs = min (summed_takes 0 runs) 18446744073709551615

-- ---- 7: sum_within_travel_distance

-- From a mask cell: an unbounded search, with the steps of 3.
unfoldable pub from_mask_cell : Grid Float → ℕ → Net Float
from_mask_cell times m = record {
  cells = count times.size;
  below = lt;
  first = λ c. cond (eqb c m) plus_zero infinity;
  start = λ c. eqb c m && has_data times c;
  enterable = has_data times;
  nbrs = λ u. moves times.size (has_data times) (has_data times) (plus_half_sum times u) u;
}

-- Per mask cell with data and nonzero, in row order.
unfoldable pub runs_7 : Grid ℕ → Grid Float → List Run
runs_7 mask times = map (run_of (from_mask_cell times)) (passing (target mask) 0 (count mask.size))

-- The list holds the mask cell, then cells in order of first entry. A mask cell with nodata time is listed alone.
abbrev pub listed : Grid Float → Run → List ℕ
listed times run = cond (has_data times run.from) run.ends.entered (run.from ∷ [])

-- A value with data is added. The values, and below the distances at the end, are lists with an entry for each cell.
abbrev pub add_value : List Float → Float → ℕ → Float
add_value values sum c = cond (nodata (get_or values c nan)) sum (add binary32 sum (get_or values c nan))

-- Values with data are added in list order.
unfoldable pub add_values : List Float → Float → List ℕ → Float
add_values values sum cells = foldl (add_value values) sum cells

-- A cell's distance is above the budget.
abbrev pub above_budget : List Float → Float → ℕ → Bool
above_budget distances budget c = lt budget (get_or distances c infinity)

-- Above, below, left, right.
abbrev pub adjacent_offsets : List (List ℤ)
adjacent_offsets = (negsuc 0 ∷ pos 0 ∷ []) ∷ (pos 1 ∷ pos 0 ∷ []) ∷ (pos 0 ∷ negsuc 0 ∷ []) ∷ (pos 0 ∷ pos 1 ∷ []) ∷ []

-- A cell not listed, with distance above the budget, once.
unfoldable pub adjoin : List Float → Float → List ℕ → List ℕ → ℕ → List ℕ
adjoin distances budget cells found v = cond (not (among v cells) && above_budget distances budget v) (joined v found) found

-- For each listed cell, above, below, left, right.
unfoldable pub adjacent_cells : Size → List Float → Float → List ℕ → List ℕ
adjacent_cells size distances budget cells = foldl (λ found u. foldl (adjoin distances budget cells) found (neighbours size u adjacent_offsets)) [] cells

-- The listed cells' values from +0.0; with adjacent, then those of the cells beside them.
unfoldable pub sum_listed : Size → List Float → List Float → Float → Bool → List ℕ → Float
sum_listed size values distances budget adjacent cells =
    let sum = add_values values plus_zero cells in
    cond adjacent (add_values values sum (adjacent_cells size distances budget cells)) sum

-- The sum of a mask cell, over its list.
unfoldable pub sum_of : Grid Float → Grid Float → Float → Bool → Run → Float
sum_of times values budget adjacent run = sum_listed times.size values.cells run.ends.labels budget adjacent (listed times run)

-- Unselected cells hold 0.
unfoldable pub sums : Grid Float → Grid Float → Float → Bool → List Run → List Float
sums times values budget adjacent runs =
    foldl (λ answer run. set answer run.from (sum_of times values budget adjacent run)) (replicate (count times.size) plus_zero) runs

-- Refusals 1 to 3, then 5 for a budget that is NaN or not above 0, and 6.
unfoldable pub refusals_7 : Grid ℕ → Grid Float → Grid Float → Float → Lent → Judged
refusals_7 mask times values budget lent = first_that_holds (
    shape mask.size (times.size ∷ values.size ∷ []) (length mask.cells ∷ length times.cells ∷ length values.cells ∷ []) lent (
    bad_budget budget ∷ negative_time times.cells ∷ []))

-- 7: a cell reached from a mask cell has distance above the budget, with that mask cell's index, first in row order.
abbrev pub over_budget : Grid Float → Float → Run → Bool × Refusal
over_budget times budget run = (any (above_budget run.ends.labels budget) (listed times run), number_at 7 run.from)

-- The first mask cell in row order that is over the budget; only once the search runs.
unfoldable pub refusal_7 : Grid Float → Float → List Run → Judged
refusal_7 times budget runs = first_that_holds (map (over_budget times budget) runs)

-- The takes and the sums, unless a mask cell is over the budget.
abbrev pub found_7 : Grid ℕ → Grid Float → Grid Float → Float → Bool → Outcome
found_7 mask times values budget adjacent =
    let runs = runs_7 mask times in
    unless (refusal_7 times budget runs) (λ search. accepted (total_takes runs) (sums times values budget adjacent runs))

-- What the search finds, unless a test refuses.
unfoldable pub outcome_7 : Grid ℕ → Grid Float → Grid Float → Float → Bool → Lent → Outcome
outcome_7 mask times values budget adjacent lent = unless (refusals_7 mask times values budget lent) (λ search. found_7 mask times values budget adjacent)

-- ---- 8: sum_targets_within_travel_distance

-- In 8 a nodata time counts as the largest f32 divided by 4, so a huge budget crosses it.
abbrev pub time_or_quarter : Grid Float → ℕ → Float
time_or_quarter times v = cond (has_data times v) (float times v) quarter_of_largest

-- d + s * b.
abbrev pub plus_time_or_quarter : Grid Float → Float → ℕ → Float → Float
plus_time_or_quarter times s v d = add binary32 d (mul binary32 s (time_or_quarter times v))

-- From a target: distances start at the f32 sum budget + 1. A target with nodata time takes nothing.
unfoldable pub from_amount : Grid Float → Float → ℕ → Net Float
from_amount times budget t = record {
  cells = count times.size;
  below = lt;
  first = λ c. cond (eqb c t) plus_zero (add binary32 budget one);
  start = λ c. eqb c t && has_data times c;
  enterable = λ c. true;
  nbrs = moves times.size (λ v. true) (λ v. true) (plus_time_or_quarter times);
}

-- An amount with data and nonzero.
abbrev pub counts : Grid Float → ℕ → Bool
counts amounts c = has_data amounts c && not (eq (float amounts c) plus_zero)

-- Per amount that counts, in row order.
unfoldable pub runs_8 : Grid Float → Grid Float → Float → List Run
runs_8 times amounts budget = map (run_of (from_amount times budget)) (passing (counts amounts) 0 (count times.size))

-- The cells that gain, after one more was taken: with distance <= budget, once per target.
abbrev pub gaining_one : Float → List ℕ → ℕ × Float → List ℕ
gaining_one budget cells taken = cond (le taken.1 budget) (joined taken.0 cells) cells

-- Those of the taken cells that gain.
abbrev pub gaining_of : Float → List (ℕ × Float) → List ℕ
gaining_of budget taken = foldl (gaining_one budget) [] taken

-- Those that gain from one target, of all the cells that its run takes.
unfoldable pub gaining : Grid Float → Float → ℕ → List ℕ
gaining times budget t =
    let net = from_amount times budget t in
    gaining_of budget (trace net (net.cells * net.cells) (initial net))

-- Each of them gains the amount.
unfoldable pub gain : Float → List Float → List ℕ → List Float
gain amount answer cells = foldl (λ answer c. set answer c (add binary32 (get_or answer c plus_zero) amount)) answer cells

-- The amounts are added from +0.0, in row order of the targets.
unfoldable pub gains : Grid Float → Grid Float → Float → List Run → List Float
gains times amounts budget runs =
    foldl (λ answer run. gain (float amounts run.from) answer (gaining times budget run.from)) (replicate (count times.size) plus_zero) runs

-- Refusals 1 to 3, then 5 for a budget that is NaN or not above 0, and 6.
unfoldable pub refusals_8 : Grid Float → Grid Float → Float → Lent → Judged
refusals_8 times amounts budget lent = first_that_holds (
    shape times.size (amounts.size ∷ []) (length times.cells ∷ length amounts.cells ∷ []) lent (
    bad_budget budget ∷ negative_time times.cells ∷ []))

-- The takes and the gains.
abbrev pub found_8 : Grid Float → Grid Float → Float → Outcome
found_8 times amounts budget =
    let runs = runs_8 times amounts budget in
    accepted (total_takes runs) (gains times amounts budget runs)

-- What the search finds, unless a test refuses.
unfoldable pub outcome_8 : Grid Float → Grid Float → Float → Lent → Outcome
outcome_8 times amounts budget lent = unless (refusals_8 times amounts budget lent) (λ search. found_8 times amounts budget)
