-- Searches 4, 5 and 6: the value at the closest target. Definitions only.
use Rattle.std.specs.Prelude.{Bool, true, not, cond, ◌&&◌, ◌||◌, List, [], ◌∷◌, map, ℕ, suc, eqb, length, Float}
use Rattle.std.specs.Float.{nan, binary32}
use Rattle.std.specs.Float.Ieee.{add, mul, lt}
use Rattle.fifo.specs.Machine.{Net, finish, takes_of}
use Rattle.binary32.specs.Numbers.{plus_zero}
use Rattle.rules.specs.Numbers.{infinity, whole}
use Rattle.rules.specs.Sizes.{Grid, Lent, Outcome, accepted, Judged, unless, first_that_holds, shape, nan_limit, negative_time, count}
use Rattle.rules.specs.Cells.{moves}
use Rattle.rules.specs.Distances.{byte, float, target, has_data, plus_step}

-- A distance and the value that goes with it. The order looks at the distance alone.
abbrev pub Carried : Type 0
Carried = Float × Float

abbrev pub nearer : Carried → Carried → Bool
nearer (d, x) (e, y) = lt d e

-- The value goes with each strict fall of distance.
abbrev pub carrying : (Float → ℕ → Float → Float) → Float → ℕ → Carried → Carried
carrying step s v (d, x) = (step s v d, x)

-- What is answered: the values without their distances.
abbrev pub values_of : List Carried → List Float
values_of labels = map (λ l. l.1) labels

-- ---- 4: value_at_closest_target

-- The distance starts at n + 1, the value at 0. A nodata target doesn't start, but may be entered. A target with nodata value passes NaN on.
unfoldable pub closest : Grid ℕ → Grid Float → Net Carried
closest targets values = record {
  cells = count targets.size;
  below = nearer;
  first = λ c. cond (target targets c) (plus_zero, float values c) (whole (suc (count targets.size)), plus_zero);
  start = target targets;
  enterable = λ c. true;
  nbrs = moves targets.size (λ v. true) (λ v. true) (carrying plus_step);
}

-- Refusals 1 to 3 alone.
unfoldable pub refusals_4 : Grid ℕ → Grid Float → Lent → Judged
refusals_4 targets values lent = first_that_holds (
    shape targets.size (values.size ∷ []) (length targets.cells ∷ length values.cells ∷ []) lent [])

-- The takes and the values.
unfoldable pub outcome_4 : Grid ℕ → Grid Float → Lent → Outcome
outcome_4 targets values lent = unless (refusals_4 targets values lent) (λ search.
    let net = closest targets values in
    accepted (takes_of net) (values_of (finish net).labels))

-- ---- 5: value_at_closest_travel_target, and 6: value_at_closest_less_than_travel_target

-- d + s * b.
abbrev pub plus_time : Grid Float → Float → ℕ → Float → Float
plus_time times s v d = add binary32 d (mul binary32 s (float times v))

-- A nonzero target starts, and 255 is nonzero, unless the value is nodata.
abbrev pub starts_by_time : Grid ℕ → Grid Float → ℕ → Bool
starts_by_time targets values c = has_data values c && not (eqb (byte targets c) 0)

-- A nodata value is never entered; a nodata b gives NaN and is not entered.
abbrev pub entered_by_time : Grid Float → Grid Float → ℕ → Bool
entered_by_time times values c = has_data values c && has_data times c

-- Nodata value: answer NaN. Otherwise the distance starts at infinity (5) or the limit (6), the value at 0, save where a target starts.
unfoldable pub closest_by_time : Grid ℕ → Grid Float → Grid Float → Float → Net Carried
closest_by_time targets times values limit = record {
  cells = count targets.size;
  below = nearer;
  first = λ c. cond (has_data values c) (cond (starts_by_time targets values c) (plus_zero, float values c) (limit, plus_zero)) (nan, nan);
  start = starts_by_time targets values;
  enterable = λ c. starts_by_time targets values c || entered_by_time times values c;
  nbrs = moves targets.size (entered_by_time times values) (entered_by_time times values) (carrying (plus_time times));
}

-- Refusals 1 to 3, then 6.
unfoldable pub refusals_5 : Grid ℕ → Grid Float → Grid Float → Lent → Judged
refusals_5 targets times values lent = first_that_holds (
    shape targets.size (times.size ∷ values.size ∷ []) (length targets.cells ∷ length times.cells ∷ length values.cells ∷ []) lent (
    negative_time times.cells ∷ []))

-- The distance starts at infinity.
unfoldable pub outcome_5 : Grid ℕ → Grid Float → Grid Float → Lent → Outcome
outcome_5 targets times values lent = unless (refusals_5 targets times values lent) (λ search.
    let net = closest_by_time targets times values infinity in
    accepted (takes_of net) (values_of (finish net).labels))

-- Refusals 1 to 3, then 5 for a limit that is NaN, and 6.
unfoldable pub refusals_6 : Grid ℕ → Grid Float → Grid Float → Float → Lent → Judged
refusals_6 targets times values limit lent = first_that_holds (
    shape targets.size (times.size ∷ values.size ∷ []) (length targets.cells ∷ length times.cells ∷ length values.cells ∷ []) lent (
    nan_limit limit ∷ negative_time times.cells ∷ []))

-- The distance starts at the limit.
unfoldable pub outcome_6 : Grid ℕ → Grid Float → Grid Float → Float → Lent → Outcome
outcome_6 targets times values limit lent = unless (refusals_6 targets times values limit lent) (λ search.
    let net = closest_by_time targets times values limit in
    accepted (takes_of net) (values_of (finish net).labels))
