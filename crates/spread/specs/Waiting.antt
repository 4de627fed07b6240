-- Which cells wait: the ring that holds them, and the marks that say so. Definitions only.
use Rattle.std.specs.Prelude.{Bool, false, cond, List, [], ◌∷◌, ◌++◌, ◌≡◌, ℕ, suc, ◌+◌, ◌≤◌, ◌<◌, eqb, length, get_or}
use Rattle.cells.specs.Ring.{contents, RingGood}
use Rattle.cells.specs.declared.ring.Ring.{Ring}
use Rattle.fifo.specs.Machine.{among, joined}
use Rattle.fifo.specs.Walk.{In, NoDup}

-- The mark of a cell that waits.
abbrev pub border : ℕ
border = 1

-- Of the first `seen` cells those that are marked wait, each once, in a ring that has a slot for each cell and one more.
pub record Waiting (seen : ℕ) (marks queue : List ℕ) (ring : Ring) : Type 0 where
  pub few : seen ≤ length marks
  pub slots : length queue ≡ suc (length marks)
  pub in_slots : RingGood queue ring
  pub single : NoDup (contents queue ring)
  pub inside : (c : ℕ) → In c (contents queue ring) → c < seen
  pub marked : (c : ℕ) → c < seen → eqb (get_or marks c 0) border ≡ among c (contents queue ring)

-- No cell of n is marked as one that waits.
abbrev pub Unmarked : ℕ → List ℕ → Type 0
Unmarked n marks = (c : ℕ) → c < n → eqb (get_or marks c 0) border ≡ false

-- A cell is to begin: those before it have.
pub record Beginning (cell : ℕ) (marks queue : List ℕ) (ring : Ring) : Type 0 where
  pub waits : Waiting cell marks queue ring
  pub inside : cell < length marks

-- It has begun: it waits if it starts.
pub record Began (cell : ℕ) (starts : Bool) (marks queue : List ℕ) (ring : Ring) (marks' queue' : List ℕ) (ring' : Ring) : Type 0 where
  pub same_length : length marks' ≡ length marks
  pub waits : Waiting (cell + 1) marks' queue' ring'
  pub added : contents queue' ring' ≡ contents queue ring ++ cond starts (cell ∷ []) []

-- A cell is to wait.
pub record Joining (cell : ℕ) (marks queue : List ℕ) (ring : Ring) : Type 0 where
  pub waits : Waiting (length marks) marks queue ring
  pub inside : cell < length marks

-- It waits, behind those that waited unless it was among them.
pub record Joined (cell : ℕ) (marks queue : List ℕ) (ring : Ring) (marks' queue' : List ℕ) (ring' : Ring) : Type 0 where
  pub same_length : length marks' ≡ length marks
  pub waits : Waiting (length marks) marks' queue' ring'
  pub added : contents queue' ring' ≡ joined cell (contents queue ring)

-- Something waits.
pub record SomeWait (marks queue : List ℕ) (ring : Ring) : Type 0 where
  pub waits : Waiting (length marks) marks queue ring
  pub some : 0 < length (contents queue ring)

-- The first of those that waited does no more.
pub record TookFirst (marks queue : List ℕ) (ring : Ring) (marks' : List ℕ) (cell : ℕ) (ring' : Ring) : Type 0 where
  pub same_length : length marks' ≡ length marks
  pub waits : Waiting (length marks) marks' queue ring'
  pub inside : cell < length marks
  pub split : contents queue ring ≡ cell ∷ contents queue ring'
