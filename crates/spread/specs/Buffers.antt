-- The buffers that the loop works in, and how they hold a state of the machine. Definitions only.
use Rattle.std.specs.Prelude.{true, false, cond, List, ◌≡◌, ℕ, Float, length, set}
use Rattle.cells.specs.Ring.{contents}
use Rattle.cells.specs.declared.ring.Ring.{Ring}
use Rattle.fifo.specs.Machine.{Net, State, store, relax, scan}
use Rattle.rules.specs.Sizes.{count}
use Rattle.rules.specs.Values.{Carried, nearer}
use Rattle.spread.specs.declared.buffers.Buffers as lent
use Rattle.spread.specs.declared.search.Search.{Search}
use Rattle.spread.specs.declared.search.Rule.{Rule}
use Rattle.spread.specs.Nets.{carries, labels_of}
use Rattle.spread.specs.Waiting.{Waiting, TookFirst}

-- What the buffers hold at one time.
pub record Buffers : Type 0 where
  pub distances : List Float
  pub carried : List Float
  pub marks : List ℕ
  pub queue : List ℕ
  pub ring : Ring

abbrev pub buffers : List Float → List Float → List ℕ → List ℕ → Ring → Buffers
buffers distances carried marks queue ring = record { distances = distances; carried = carried; marks = marks; queue = queue; ring = ring }

-- What lent buffers hold.
abbrev pub held : lent.Buffers → Buffers
held b = buffers b.distances.now b.carried.now b.marks.now b.queue.now b.ring

-- The loans are the same ones.
pub record SameLoans (before after : lent.Buffers) : Type 0 where
  pub distances : after.distances.ghost_name ≡ before.distances.ghost_name
  pub carried : after.carried.ghost_name ≡ before.carried.ghost_name
  pub marks : after.marks.ghost_name ≡ before.marks.ghost_name
  pub queue : after.queue.ghost_name ≡ before.queue.ghost_name

-- The first of those that waited was taken, and what is no mark and not the ring is as it was.
pub record TookFrom (before after : Buffers) (cell : ℕ) : Type 0 where
  pub first : TookFirst before.marks before.queue before.ring after.marks cell after.ring
  pub rest : after ≡ buffers before.distances before.carried after.marks before.queue after.ring

-- They are in good order: each has its length, the buffer of values only where the rule carries one, and the marks agree with the ring.
pub record Good (search : Search) (b : Buffers) : Type 0 where
  pub distances_length : length b.distances ≡ count search.size
  pub carried_length : carries search.rule ≡ true → length b.carried ≡ count search.size
  pub marks_length : length b.marks ≡ count search.size
  pub waits : Waiting (count search.size) b.marks b.queue b.ring

-- They hold the state t. In which order its cells were entered they do not say.
pub record Holds (search : Search) (t : State Carried) (b : Buffers) : Type 0 where
  pub labels : t.labels ≡ labels_of search b.distances b.carried
  pub waiting : t.waiting ≡ contents b.queue b.ring

-- An operation of the machine was done on them: whatever state they held, and in whatever net that orders labels by their distance.
pub record Does (search : Search) (operation : Net Carried → State Carried → State Carried) (before after : Buffers) : Type 0 where
  pub good : Good search after
  pub holds : (net : Net Carried) → net.below ≡ nearer → (t : State Carried) → Holds search t before → Holds search (operation net t) after
  pub kept : carries search.rule ≡ false → after.carried ≡ before.carried

-- The machine's operations, with the net last.
abbrev pub storing : ℕ → Carried → Net Carried → State Carried → State Carried
storing v d net = store net v d

abbrev pub relaxing : Carried → ℕ → (Carried → Carried) → Net Carried → State Carried → State Carried
relaxing d v f net = relax net d (v, f)

abbrev pub scanning : Carried → List (ℕ × (Carried → Carried)) → Net Carried → State Carried → State Carried
scanning d steps net = scan net d steps

-- A value is stored where the rule carries one.
abbrev pub carried_on : Rule → ℕ → Float → List Float → List Float
carried_on rule v value carried = cond (carries rule) (set carried v value) carried
