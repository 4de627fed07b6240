-- How a search begins: what each cell gets, in row order. Definitions only.
use Rattle.std.specs.Prelude.{Bool, true, false, not, cond, ◌&&◌, List, ◌≡◌, ℕ, suc, ◌<◌, T, eqb, Float, length, get_or, set, replicate}
use Rattle.std.specs.Float.{nan}
use Rattle.binary32.specs.Nodata.{nodata}
use Rattle.binary32.specs.Numbers.{plus_zero}
use Rattle.cells.specs.Ring.{contents}
use Rattle.cells.specs.declared.ring.Ring.{Ring}
use Rattle.fifo.specs.Machine.{passing}
use Rattle.rules.specs.Sizes.{in_bounds, count}
use Rattle.spread.specs.declared.search.Search.{Search}
use Rattle.spread.specs.declared.first.First.{First}
use Rattle.spread.specs.Nets.{carries}
use Rattle.spread.specs.Steps.{labelled}
use Rattle.spread.specs.Waiting.{Waiting, Unmarked, Beginning, Began}
use Rattle.spread.specs.Buffers.{Buffers}
use Rattle.spread.specs.First.{net_on, Inputs, FirstOf, Reads, FirstFrom}

-- The buffers have their lengths, whatever they hold.
pub record Lengths (search : Search) (distances carried : List Float) (marks queue : List ℕ) : Type 0 where
  pub distances_length : length distances ≡ count search.size
  pub carried_length : carries search.rule ≡ true → length carried ≡ count search.size
  pub marks_length : length marks ≡ count search.size
  pub queue_length : length queue ≡ suc (count search.size)

-- The first i cells have begun.
pub record Begun (search : Search) (targets : List ℕ) (times values : List Float) (i : ℕ) (b : Buffers) : Type 0 where
  pub lengths : Lengths search b.distances b.carried b.marks b.queue
  pub waits : Waiting i b.marks b.queue b.ring
  pub labels :
      (obstacles : List ℕ) (c : ℕ) → c < i
      → labelled search.rule (get_or b.distances c nan) (get_or b.carried c nan) ≡ (net_on search targets obstacles times values).first c
  pub waiting : (obstacles : List ℕ) → contents b.queue b.ring ≡ passing (net_on search targets obstacles times values).start 0 i

-- A cell is to begin: it can be read and stored to, and those before it have begun.
pub record BeginsCell (from : ℕ) (carrying : Bool) (targets : List ℕ) (times values : List Float) (cell : ℕ) (b : Buffers) : Type 0 where
  pub reads : Reads from targets times values cell
  pub distance_inside : cell < length b.distances
  pub value_inside : carrying ≡ true → cell < length b.carried
  pub waits : Beginning cell b.marks b.queue b.ring

-- It has its first label, and waits if it starts.
pub record BeganCell (from : ℕ) (carrying : Bool) (cap : Float) (targets : List ℕ) (times values : List Float) (cell : ℕ) (before after : Buffers) : Type 0 where
  pub first : First
  pub is_first : FirstFrom from cap targets times values cell first
  pub distances_are : after.distances ≡ set before.distances cell first.distance
  pub carried_is : after.carried ≡ cond carrying (set before.carried cell first.value) before.carried
  pub began : Began cell first.starts before.marks before.queue before.ring after.marks after.queue after.ring

-- The first i cells have begun, and where no value goes along, its buffer is as it was.
pub record BeganTo (search : Search) (targets : List ℕ) (times values : List Float) (i : ℕ) (carried : List Float) (after : Buffers) : Type 0 where
  pub begun : Begun search targets times values i after
  pub kept : carries search.rule ≡ false → after.carried ≡ carried

-- Every cell is to begin.
pub record Begins (search : Search) (targets : List ℕ) (times values distances carried : List Float) (marks queue : List ℕ) : Type 0 where
  pub inputs : Inputs search targets times values
  pub lengths : Lengths search distances carried marks queue

-- The same where what a cell begins with, from targets of this number and below this cap, is the rule's.
pub record BeginsEach (search : Search) (from : ℕ) (carrying : Bool) (cap : Float) (targets : List ℕ) (times values distances carried : List Float) (marks queue : List ℕ) : Type 0 where
  pub bounds : T (in_bounds search.size)
  pub lengths : Lengths search distances carried marks queue
  pub carrying_is : carrying ≡ carries search.rule
  pub reads : (c : ℕ) → c < count search.size → Reads from targets times values c
  pub firsts : (c : ℕ) (first : First) → FirstFrom from cap targets times values c first → FirstOf search targets times values c first

-- Every cell is to begin from one.
pub record BeginsFrom (origin : ℕ) (times distances : List Float) (marks queue : List ℕ) : Type 0 where
  pub times_length : length times ≡ length distances
  pub marks_length : length marks ≡ length distances
  pub queue_length : length queue ≡ suc (length distances)

-- That one is at +0, and waits if its time has data. Any other holds the cap.
pub record BeganFrom (origin : ℕ) (cap : Float) (times distances : List Float) (marks queue : List ℕ) (distances' : List Float) (marks' queue' : List ℕ) (ring : Ring) : Type 0 where
  pub distances_are : (c : ℕ) → c < length distances → get_or distances' c nan ≡ cond (eqb c origin) plus_zero cap
  pub waits : Waiting (length distances) marks' queue' ring
  pub waiting : contents queue' ring ≡ passing (λ c. eqb c origin && not (nodata (get_or times c nan))) 0 (length distances)
  pub same_distances : length distances' ≡ length distances
  pub same_marks : length marks' ≡ length marks
  pub same_queue : length queue' ≡ length queue

-- No cell of n is reached: every distance is the cap, and no cell is marked as one that waits. So it is between two starts.
pub record Clear (n : ℕ) (cap : Float) (distances : List Float) (marks : List ℕ) : Type 0 where
  pub unreached : distances ≡ replicate n cap
  pub marks_length : length marks ≡ n
  pub unmarked : Unmarked n marks

-- A cell is to begin where none is reached.
pub record BeginsAt (times distances : List Float) (marks queue : List ℕ) : Type 0 where
  pub times_length : length times ≡ length distances
  pub queue_length : length queue ≡ suc (length distances)
  pub clear : (cap : Float) × Clear (length distances) cap distances marks

-- It has begun, and every other cell holds the cap that it held.
pub record BeganAt (origin : ℕ) (times distances : List Float) (marks queue : List ℕ) (distances' : List Float) (marks' queue' : List ℕ) (ring : Ring) : Type 0 where
  pub from : (cap : Float) → Clear (length distances) cap distances marks → BeganFrom origin cap times distances marks queue distances' marks' queue' ring
