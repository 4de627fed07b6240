-- What `spread` asks and promises. Definitions only.
use Rattle.std.specs.Prelude.{false, List, ◌≡◌, ℕ, ◌*◌, ◌≤◌, Float, length}
use Rattle.fifo.specs.Machine.{initial, takes, finish, takes_of}
use Rattle.rules.specs.Sizes.{count}
use Rattle.spread.specs.declared.buffers.Grids as lent
use Rattle.spread.specs.declared.search.Search.{Search}
use Rattle.spread.specs.Nets.{Grids, net_of, carries, labels_of}
use Rattle.spread.specs.Steps.{terrain}
use Rattle.spread.specs.First.{Inputs}
use Rattle.spread.specs.Begin.{Lengths}
use Rattle.spread.specs.Loop.{Setting}

abbrev pub grids : List ℕ → List ℕ → List Float → List Float → Grids
grids targets obstacles times values = record { targets = targets; obstacles = obstacles; times = times; values = values }

-- What lent grids hold.
abbrev pub grids_of : lent.Grids → Grids
grids_of lent_grids = grids lent_grids.targets.now lent_grids.obstacles.now lent_grids.times.now lent_grids.values.now

-- The grids and the buffers that the rule uses have their lengths, and the search takes no more than the square of the number of cells.
pub record Spreads (search : Search) (grids : Grids) (distances carried : List Float) (marks queue : List ℕ) : Type 0 where
  pub inputs : Inputs search grids.targets grids.times grids.values
  pub setting : Setting search (terrain grids.obstacles grids.times)
  pub lengths : Lengths search distances carried marks queue
  pub within : (k : ℕ) → takes (net_of search grids) k (initial (net_of search grids)) ≤ count search.size * count search.size

-- The distances and the values are the labels of the finished search, and the answer is its takes. Where no value goes along, the buffer of
-- values is as it was.
pub record Spread (search : Search) (grids : Grids) (carried distances' carried' : List Float) (marks' queue' : List ℕ) (r : ℕ) : Type 0 where
  pub labels : labels_of search distances' carried' ≡ (finish (net_of search grids)).labels
  pub counted : r ≡ takes_of (net_of search grids)
  pub lengths : Lengths search distances' carried' marks' queue'
  pub same_length : length carried' ≡ length carried
  pub kept : carries search.rule ≡ false → carried' ≡ carried
