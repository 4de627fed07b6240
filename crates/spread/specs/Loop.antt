-- What the functions of the loop ask and promise, from one neighbour to the whole run. Definitions only.
use Rattle.std.specs.Prelude.{Bool, true, false, cond, List, [], ◌∷◌, ◌++◌, map, ◌≡◌, ℕ, ◌-◌, ◌*◌, ◌≤◌, ◌<◌, T, Float, length, get_or, set, take, drop, Option, Some}
use Rattle.std.specs.Float.{nan}
use Rattle.cells.specs.Interior.{Interior}
use Rattle.cells.specs.Ring.{contents, RingGood}
use Rattle.cells.specs.declared.ring.Ring.{Ring}
use Rattle.fifo.specs.Machine as machine
use Rattle.fifo.specs.Machine.{Net, State, initial, run, takes, trace}
use Rattle.fifo.specs.Walk.{In}
use Rattle.rules.specs.declared.Size.{Size}
use Rattle.rules.specs.Sizes.{in_bounds, count}
use Rattle.rules.specs.Values.{Carried}
use Rattle.spread.specs.declared.search.Search.{Search}
use Rattle.spread.specs.declared.relax.Left.{Left}
use Rattle.spread.specs.declared.take.TakenCell.{TakenCell}
use Rattle.spread.specs.Nets.{carries, avoids, reads_times, labels_of}
use Rattle.spread.specs.Steps.{Terrain, paired, labelled, Numbers, numbers_of, straight_steps, diagonal_steps, Follows}
use Rattle.spread.specs.Waiting.{Unmarked, Joining, Joined}
use Rattle.spread.specs.Buffers.{Buffers, Good, Holds}
use Rattle.spread.specs.Begin.{Lengths}

-- The label that a cell had when it was taken.
abbrev pub left_label : Search → Left → Carried
left_label search left = labelled search.rule left.distance left.value

-- The size is within the bounds, and the grids of obstacles and of times are lent where the rule reads them.
pub record Setting (search : Search) (ground : Terrain) : Type 0 where
  pub bounds : T (in_bounds search.size)
  pub obstacles_length : avoids search.rule ≡ true → length ground.obstacles ≡ count search.size
  pub times_length : reads_times search.rule ≡ true → length ground.times ≡ count search.size

-- A cell is to be tried.
pub record Trying (search : Search) (v : ℕ) (b : Buffers) : Type 0 where
  pub good : Good search b
  pub inside : v < count search.size

-- A label is to be stored at the cell v.
pub record Storing (carrying : Bool) (v : ℕ) (b : Buffers) : Type 0 where
  pub distance_inside : v < length b.distances
  pub value_inside : carrying ≡ true → v < length b.carried
  pub joins : Joining v b.marks b.queue b.ring

-- It is stored, and the cell waits.
pub record Stored (carrying : Bool) (v : ℕ) (d x : Float) (before after : Buffers) : Type 0 where
  pub distances_are : after.distances ≡ set before.distances v d
  pub carried_is : after.carried ≡ cond carrying (set before.carried v x) before.carried
  pub joined : Joined v before.marks before.queue before.ring after.marks after.queue after.ring

-- It is to be tried from the cell u, by the numbers of the rule.
pub record Entering (search : Search) (by : Numbers) (ground : Terrain) (u v : ℕ) (b : Buffers) : Type 0 where
  pub numbered : by ≡ numbers_of search.rule
  pub tries : Trying search v b
  pub setting : Setting search ground
  pub source : u < count search.size

-- From the cell u those of the eight listed cells that stand before `end` are to be tried, those before `middle` straight.
pub record Scanning (search : Search) (by : Numbers) (ground : Terrain) (u : ℕ) (cells : List ℕ) (middle end : ℕ) (b : Buffers) : Type 0 where
  pub numbered : by ≡ numbers_of search.rule
  pub good : Good search b
  pub setting : Setting search ground
  pub source : u < count search.size
  pub inside : (k : ℕ) → get_or cells k 0 < count search.size
  pub eight : length cells ≡ 8
  pub middle_most : middle ≤ end
  pub end_most : end ≤ 8

-- The steps from u to listed cells: those before `middle` straight, those from there to before `end` diagonal.
abbrev pub listed_steps : Search → Terrain → ℕ → List ℕ → ℕ → ℕ → List (ℕ × (Carried → Carried))
listed_steps search ground u cells middle end =
    straight_steps search ground u (take middle cells) ++ diagonal_steps search ground u (take (end - middle) (drop middle cells))

-- From the cell u all neighbours are to be tried.
pub record ScanningAll (search : Search) (by : Numbers) (ground : Terrain) (u : ℕ) (b : Buffers) : Type 0 where
  pub numbered : by ≡ numbers_of search.rule
  pub good : Good search b
  pub setting : Setting search ground
  pub source : u < count search.size

-- Of these the one that is told of, if any.
pub record EnteringThere (search : Search) (by : Numbers) (ground : Terrain) (u : ℕ) (there : Option ℕ) (b : Buffers) : Type 0 where
  pub scans : ScanningAll search by ground u b
  pub inside : (v : ℕ) → there ≡ Some v → v < count search.size

-- A cell's label can be read.
pub record CanLeave (carrying : Bool) (distances carried : List Float) (cell : ℕ) : Type 0 where
  pub distance_inside : cell < length distances
  pub value_inside : carrying ≡ true → cell < length carried

-- The cell, with its label.
pub record LeftCell (carrying : Bool) (distances carried : List Float) (cell : ℕ) (left : Left) : Type 0 where
  pub same_cell : left.cell ≡ cell
  pub label : paired carrying left.distance left.value ≡ paired carrying (get_or distances cell nan) (get_or carried cell nan)

-- The ring holds cells of the grid.
pub record Looking (size : Size) (queue : List ℕ) (ring : Ring) : Type 0 where
  pub bounds : T (in_bounds size)
  pub in_slots : RingGood queue ring
  pub inside : (c : ℕ) → In c (contents queue ring) → c < count size

-- Where the answer is yes, a cell waits, and the one that is next is at no edge. Where it is no, nothing is said.
pub record SaysNextInner (size : Size) (queue : List ℕ) (ring : Ring) (answer : Bool) : Type 0 where
  pub some : answer ≡ true → 0 < length (contents queue ring)
  pub inner : answer ≡ true → (u : ℕ) (ws : List ℕ) → contents queue ring ≡ u ∷ ws → Interior size u

-- A cell is to be taken.
pub record Taking (search : Search) (ground : Terrain) (b : Buffers) : Type 0 where
  pub good : Good search b
  pub setting : Setting search ground
  pub some : 0 < length (contents b.queue b.ring)

-- The same, by the numbers of the rule.
pub record TakingBy (search : Search) (by : Numbers) (ground : Terrain) (b : Buffers) : Type 0 where
  pub takes : Taking search ground b
  pub numbered : by ≡ numbers_of search.rule

-- The same, and the cell that is next is at no edge.
pub record TakingInner (search : Search) (by : Numbers) (ground : Terrain) (b : Buffers) : Type 0 where
  pub asked : TakingBy search by ground b
  pub inner : (u : ℕ) (ws : List ℕ) → contents b.queue b.ring ≡ u ∷ ws → Interior search.size u

-- The head was taken, with the distance that it had, in whatever net has the rule's steps.
pub record TookCell (search : Search) (ground : Terrain) (before after : Buffers) (took : TakenCell) : Type 0 where
  pub good : Good search after
  pub head : (u : ℕ) (ws : List ℕ) → contents before.queue before.ring ≡ u ∷ ws → took.cell ≡ u
  pub inside : took.cell < count search.size
  pub at_distance : took.distance ≡ get_or before.distances took.cell nan
  pub holds :
      (net : Net Carried) → Follows search ground net → (t : State Carried) → Holds search t before
      → (u : ℕ) (ws : List ℕ) → t.waiting ≡ u ∷ ws → Holds search (machine.take net u ws t) after
  pub kept : carries search.rule ≡ false → after.carried ≡ before.carried

-- The cells taken in k takes from the start, each with the distance that it had then.
abbrev pub taken_at : Net Carried → ℕ → List (ℕ × Float)
taken_at net k = map (λ taken. (taken.0, taken.1.0)) (trace net k (initial net))

-- The buffers hold the net's first state, and the net takes no more than the square.
pub record Ready (search : Search) (ground : Terrain) (net : Net Carried) (b : Buffers) : Type 0 where
  pub follows : Follows search ground net
  pub holds : Holds search (initial net) b
  pub within : (k : ℕ) → takes net k (initial net) ≤ count search.size * count search.size

-- After r takes, each of them made, the buffers hold what the machine does.
pub record AfterTakes (search : Search) (net : Net Carried) (b : Buffers) (r : ℕ) : Type 0 where
  pub holds : Holds search (run net r (initial net)) b
  pub all : takes net r (initial net) ≡ r

-- So it is for every net that the buffers were ready for before.
pub record Turn (search : Search) (ground : Terrain) (before b : Buffers) (r : ℕ) : Type 0 where
  pub good : Good search b
  pub taken : (net : Net Carried) → Ready search ground net before → AfterTakes search net b r
  pub kept : carries search.rule ≡ false → b.carried ≡ before.carried

-- r takes were made, in whatever net has the rule's steps, and whatever state the buffers held.
pub record Made (search : Search) (ground : Terrain) (before after : Buffers) (r : ℕ) : Type 0 where
  pub good : Good search after
  pub holds : (net : Net Carried) → Follows search ground net → (t : State Carried) → Holds search t before → Holds search (run net r t) after
  pub all : (net : Net Carried) → Follows search ground net → (t : State Carried) → Holds search t before → takes net r t ≡ r
  pub kept : carries search.rule ≡ false → after.carried ≡ before.carried

-- Cells are to be taken, if any wait.
pub record TakingSome (search : Search) (ground : Terrain) (b : Buffers) : Type 0 where
  pub good : Good search b
  pub setting : Setting search ground

-- The same, by the numbers of the rule.
pub record TakingSomeBy (search : Search) (by : Numbers) (ground : Terrain) (b : Buffers) : Type 0 where
  pub some : TakingSome search ground b
  pub numbered : by ≡ numbers_of search.rule

-- r were taken, no more than `most`.
pub record TookUpTo (search : Search) (ground : Terrain) (most : ℕ) (before after : Buffers) (r : ℕ) : Type 0 where
  pub made : Made search ground before after r
  pub few : r ≤ most

-- The loop is to run: there is a net that they are ready for.
pub record Running (search : Search) (ground : Terrain) (b : Buffers) : Type 0 where
  pub good : Good search b
  pub setting : Setting search ground
  pub ready : (net : Net Carried) × Ready search ground net b

-- The same, by the numbers of the rule.
pub record RunningBy (search : Search) (by : Numbers) (ground : Terrain) (b : Buffers) : Type 0 where
  pub runs : Running search ground b
  pub numbered : by ≡ numbers_of search.rule

-- Each of r takes was made, after them nothing waits, and the buffers hold the labels.
pub record Ended (search : Search) (net : Net Carried) (distances carried : List Float) (r : ℕ) : Type 0 where
  pub all : takes net r (initial net) ≡ r
  pub stopped : (run net r (initial net)).waiting ≡ []
  pub labels : (run net r (initial net)).labels ≡ labels_of search distances carried

-- So it is for every net that the buffers were ready for, and no cell is marked.
pub record Ran (search : Search) (ground : Terrain) (before : Buffers) (distances carried : List Float) (marks queue : List ℕ) (r : ℕ) : Type 0 where
  pub lengths : Lengths search distances carried marks queue
  pub ended : (net : Net Carried) → Ready search ground net before → Ended search net distances carried r
  pub unmarked : Unmarked (count search.size) marks
  pub kept : carries search.rule ≡ false → carried ≡ before.carried
