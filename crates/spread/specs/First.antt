-- What a cell begins with. Definitions only.
use Rattle.std.specs.Prelude.{Bool, true, false, not, cond, ◌&&◌, List, ◌≡◌, ℕ, ◌≤◌, ◌<◌, T, eqb, Float, length, get_or}
use Rattle.std.specs.Float.{nan}
use Rattle.binary32.specs.Nodata.{nodata}
use Rattle.binary32.specs.Numbers.{plus_zero}
use Rattle.fifo.specs.Machine.{Net}
use Rattle.rules.specs.Numbers.{nodata_byte, target_byte}
use Rattle.rules.specs.Sizes.{in_bounds, count}
use Rattle.rules.specs.Values.{Carried}
use Rattle.spread.specs.declared.search.Search.{Search}
use Rattle.spread.specs.declared.first.First.{First}
use Rattle.spread.specs.Nets.{net_of, carries, reads_targets, reads_times}
use Rattle.spread.specs.Steps.{labelled}

abbrev pub net_on : Search → List ℕ → List ℕ → List Float → List Float → Net Carried
net_on search targets obstacles times values = net_of search (record { targets = targets; obstacles = obstacles; times = times; values = values })

-- The size is within the bounds, and the grids that say what a cell begins with are lent: each where the rule reads it.
pub record Inputs (search : Search) (targets : List ℕ) (times values : List Float) : Type 0 where
  pub bounds : T (in_bounds search.size)
  pub targets_length : reads_targets search.rule ≡ true → length targets ≡ count search.size
  pub times_length : reads_times search.rule ≡ true → length times ≡ count search.size
  pub values_length : carries search.rule ≡ true → length values ≡ count search.size

-- What is never entered holds NaN, and does not start.
pub record NeverEntered (first : First) : Type 0 where
  pub distance_is : first.distance ≡ nan
  pub value_is : first.value ≡ nan
  pub starts_is : first.starts ≡ false

-- A cell that starts is at +0 with its value, any other holds the cap and 0.
pub record FromStart (starts : Bool) (value cap : Float) (first : First) : Type 0 where
  pub distance_is : first.distance ≡ cond starts plus_zero cap
  pub value_is : first.value ≡ cond starts value plus_zero
  pub starts_is : first.starts ≡ starts

-- A target starts.
abbrev pub FromTarget : ℕ → Float → Float → First → Type 0
FromTarget byte = FromStart (target_byte byte)

-- The same in the plain search, where a nodata target holds NaN, and no value goes along.
pub record FromPlainTarget (byte : ℕ) (cap : Float) (first : First) : Type 0 where
  pub distance_is : first.distance ≡ cond (not (nodata_byte byte)) (cond (target_byte byte) plus_zero cap) nan
  pub starts_is : first.starts ≡ target_byte byte

-- The same where a nodata time holds NaN too.
pub record FromTravelTarget (byte : ℕ) (time cap : Float) (first : First) : Type 0 where
  pub distance_is : first.distance ≡ cond (not (nodata_byte byte) && not (nodata time)) (cond (target_byte byte) plus_zero cap) nan
  pub starts_is : first.starts ≡ target_byte byte && (not (nodata_byte byte) && not (nodata time))

-- A nodata value holds NaN. Otherwise a nonzero target starts.
pub record FromValuedTarget (byte : ℕ) (value cap : Float) (first : First) : Type 0 where
  pub label_is :
      ◌≡◌ {A = Carried} (first.distance, first.value)
      (cond (not (nodata value)) (cond (not (nodata value) && not (eqb byte 0)) (plus_zero, value) (cap, plus_zero)) (nan, nan))
  pub starts_is : first.starts ≡ not (nodata value) && not (eqb byte 0)

-- This is the cell's first label, and whether it starts. Obstacles have no part in either.
pub record FirstOf (search : Search) (targets : List ℕ) (times values : List Float) (cell : ℕ) (first : First) : Type 0 where
  pub label : (obstacles : List ℕ) → labelled search.rule first.distance first.value ≡ (net_on search targets obstacles times values).first cell
  pub starts : (obstacles : List ℕ) → first.starts ≡ (net_on search targets obstacles times values).start cell

-- ---- from which targets a search begins, by number, which the loop has as a type

-- Those of search 1, of 2, of 3, of 4, and of 5 and 6. Any other number is the last's.
abbrev pub from_plain_targets : ℕ
from_plain_targets = 0

abbrev pub from_targets : ℕ
from_targets = 1

abbrev pub from_travel_targets : ℕ
from_travel_targets = 2

abbrev pub from_closest_targets : ℕ
from_closest_targets = 3

abbrev pub from_valued_targets : ℕ
from_valued_targets = 4

-- A cell can be read in the grids that are looked at.
pub record Reads (from : ℕ) (targets : List ℕ) (times values : List Float) (cell : ℕ) : Type 0 where
  pub target : cell < length targets
  pub time : from ≡ from_travel_targets → cell < length times
  pub value : from_closest_targets ≤ from → cell < length values

-- What the cell begins with.
abbrev pub FirstFrom : ℕ → Float → List ℕ → List Float → List Float → ℕ → First → Type 0
FirstFrom from cap targets times values cell first =
    let byte = get_or targets cell 0 in
    let time = get_or times cell nan in
    let value = get_or values cell nan in
    cond (eqb from from_plain_targets) (FromPlainTarget byte cap first)
    (cond (eqb from from_targets) (FromTarget byte plus_zero cap first)
    (cond (eqb from from_travel_targets) (FromTravelTarget byte time cap first)
    (cond (eqb from from_closest_targets) (FromTarget byte value cap first) (FromValuedTarget byte value cap first))))
