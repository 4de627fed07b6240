-- The ring: cells that wait, first in first out, in lent slots. Definitions only.
use Rattle.std.specs.Prelude.{◌≡◌, Bool, true, false, cond, List, [], ◌∷◌, ◌++◌, ℕ, zero, suc, ◌+◌, ◌-◌, ◌%◌, ◌<◌, leb, length, get_or}
pub use Rattle.cells.specs.declared.ring.Ring.{Ring}

-- The slot after slot i, of len slots in a ring.
abbrev pub next : ℕ → ℕ → ℕ
next len i = (i + 1) % len

-- The number of steps from the head to the tail, of len slots in a ring.
abbrev pub gap : ℕ → ℕ → ℕ → ℕ
gap len head tail = cond (leb head tail) (tail - head) (tail + len - head)

-- k slots, from slot i on.
unfoldable pub from : List ℕ → ℕ → ℕ → List ℕ
from slots zero i = []
from slots (suc k) i = get_or slots i 0 ∷ from slots k (next (length slots) i)

-- The cells that wait, the next to be taken first.
unfoldable pub contents : List ℕ → Ring → List ℕ
contents slots ring = from slots (gap (length slots) ring.head ring.tail) ring.head

-- A ring's head and tail are slots.
pub record RingGood (slots : List ℕ) (ring : Ring) : Type 0 where
  pub head_in : ring.head < length slots
  pub tail_in : ring.tail < length slots

-- One slot stays free, so a ring has room where one more cell leaves it so.
pub record HasRoom (slots : List ℕ) (ring : Ring) : Type 0 where
  pub good : RingGood slots ring
  pub room : length (contents slots ring) + 1 < length slots

-- Something waits.
pub record HasCell (slots : List ℕ) (ring : Ring) : Type 0 where
  pub good : RingGood slots ring
  pub some : 0 < length (contents slots ring)

-- Whether a list is empty.
abbrev pub none : List ℕ → Bool
none [] = true
none (cell ∷ cells) = false

-- The answer says, in whatever slots the ring is, whether nothing waits.
pub record SaysEmpty (ring : Ring) (answer : Bool) : Type 0 where
  pub says : (slots : List ℕ) → RingGood slots ring → answer ≡ none (contents slots ring)

-- A new ring is empty, in whatever slots there are.
pub record NewRing (ring : Ring) : Type 0 where
  pub good : (slots : List ℕ) → 0 < length slots → RingGood slots ring
  pub empty : (slots : List ℕ) → contents slots ring ≡ []

-- A push adds a cell at the end.
pub record Pushed (slots : List ℕ) (ring : Ring) (cell : ℕ) (slots' : List ℕ) (ring' : Ring) : Type 0 where
  pub good : RingGood slots' ring'
  pub same_length : length slots' ≡ length slots
  pub added : contents slots' ring' ≡ contents slots ring ++ (cell ∷ [])

-- A take splits off the first cell.
pub record Took (slots : List ℕ) (ring : Ring) (cell : ℕ) (ring' : Ring) : Type 0 where
  pub good : RingGood slots ring'
  pub split : contents slots ring ≡ cell ∷ contents slots ring'
