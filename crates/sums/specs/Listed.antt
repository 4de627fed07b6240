-- What the run from one mask cell asks and promises. Definitions only.
use Rattle.std.specs.Prelude.{List, [], map, ◌≡◌, ℕ, Float, length}
use Rattle.fifo.specs.Machine.{Net, once}
use Rattle.rules.specs.Sizes.{count}
use Rattle.rules.specs.Values.{Carried}
use Rattle.spread.specs.declared.search.Search.{Search}
use Rattle.spread.specs.Steps.{Terrain, numbers_of, half_sum_numbers}
use Rattle.spread.specs.Buffers.{Buffers}
use Rattle.spread.specs.Loop.{taken_at, Ready, Running, Ran}
use Rattle.reach.specs.Listing.{Listing}
use Rattle.sums.specs.declared.listing.Reached.{Reached}

-- The taken cells, each once, in order of their first take.
abbrev pub each_once : List (ℕ × Float) → List ℕ
each_once taken = once [] (map (λ one. one.0) taken)

-- The run is to begin, by half sums: nothing is listed.
pub record Lists (search : Search) (ground : Terrain) (listed met : List ℕ) (b : Buffers) : Type 0 where
  pub running : Running search ground b
  pub numbered : half_sum_numbers ≡ numbers_of search.rule
  pub none_listed : Listing (count search.size) met listed 0 []

-- The run has ended, and the cells that it took are listed, in whatever net the buffers were ready for.
pub record ListedAll
    (search : Search) (ground : Terrain) (before : Buffers) (distances' carried' : List Float) (marks' listed' met' queue' : List ℕ) (r : Reached)
    : Type 0 where
  pub ran : Ran search ground before distances' carried' marks' queue' r.takes
  pub listed_length : length listed' ≡ count search.size
  pub met_length : length met' ≡ count search.size
  pub lists : (net : Net Carried) → Ready search ground net before → Listing (count search.size) met' listed' r.count (each_once (taken_at net r.takes))
