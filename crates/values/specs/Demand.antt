-- Where the values of an accepted call come from. Definitions only.
use Rattle.std.specs.Prelude.{List, ◌≡◌, ℕ, ◌*◌, ◌≤◌, ◌<◌, Float, length, get_or}
use Rattle.std.specs.Float.{nan}
use Rattle.fifo.specs.Machine.{Net, label, finish}
use Rattle.fifo.specs.Laws.{room}
use Rattle.rules.specs.declared.Size.{Size}
use Rattle.rules.specs.Sizes.{Grid, count}
use Rattle.rules.specs.Values.{Carried, closest, closest_by_time}
use Rattle.rules.specs.Paths.{ClosestTargets4, ClosestTargetsByTime}

-- Each cell of the answer is the value that the search held there; that is the value of a closest target; and the takes are at most the square of
-- the number of cells that may be entered or started from.
pub record AnswersClosest (size : Size) (net : Net Carried) (ClosestTargets : Type 0) (answer : List Float) (t : ℕ) : Type 0 where
  pub all_cells : length answer ≡ count size
  pub cell_answered : (c : ℕ) → c < count size → get_or answer c nan ≡ (label net (finish net) c).1
  pub closest_targets : ClosestTargets
  pub takes_within_square : t ≤ room net * room net

-- Search 4.
abbrev pub AnswersClosest4 : Grid ℕ → Grid Float → List Float → ℕ → Type 0
AnswersClosest4 targets values = AnswersClosest targets.size (closest targets values) (ClosestTargets4 targets values)

-- Search 5, where the limit is infinity, and search 6.
abbrev pub AnswersClosestByTime : Grid ℕ → Grid Float → Grid Float → Float → List Float → ℕ → Type 0
AnswersClosestByTime targets times values limit =
    AnswersClosest targets.size (closest_by_time targets times values limit) (ClosestTargetsByTime targets times values limit)
