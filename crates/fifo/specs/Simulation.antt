-- When one net's search is a copy of another's, although it tries more steps and its labels hold more. Definitions only.
use Rattle.std.specs.Prelude.{false, List, [], ◌∷◌, map, ◌≡◌, ℕ, ◌≤◌}
use Rattle.fifo.specs.Machine.{Net, State, initial, run, takes, trace, finish, takes_of}

-- The state with, for each label, what the other net sees of it.
abbrev pub image : {L M : Type 0} → (L → M) → State L → State M
image seen s = record { labels = map seen s.labels; waiting = s.waiting; entered = s.entered }

-- A step that never stores: its candidate is below nothing, or nothing is below the first label of the cell that it leads to.
pub data Idle {L : Type 0} (net : Net L) (v : ℕ) (f : L → L) : Type 0 where
  never_below : ((x y : L) → net.below (f x) y ≡ false) → Idle net v f
  shut : ((x : L) → net.below x (net.first v) ≡ false) → Idle net v f

-- The first list is the second, in its order, with idle steps among it. A step of both leads to one cell, and the candidates correspond.
pub data Steps {L M : Type 0} (seen : L → M) (net : Net L) : List (ℕ × (L → L)) → List (ℕ × (M → M)) → Type 0 where
  done : Steps seen net [] []
  kept :
      {v : ℕ} {f : L → L} {g : M → M} {tried : List (ℕ × (L → L))} {permitted : List (ℕ × (M → M))}
      → ((x : L) → seen (f x) ≡ g (seen x)) → Steps seen net tried permitted → Steps seen net ((v, f) ∷ tried) ((v, g) ∷ permitted)
  idle :
      {v : ℕ} {f : L → L} {tried : List (ℕ × (L → L))} {permitted : List (ℕ × (M → M))}
      → Idle net v f → Steps seen net tried permitted → Steps seen net ((v, f) ∷ tried) permitted

-- What makes the search over `net` a copy of that over `net'`. Which cells may be entered does not matter to a run, only which steps are there.
pub record Simulates {L M : Type 0} (seen : L → M) (net : Net L) (net' : Net M) : Type 0 where
  pub cells : net.cells ≡ net'.cells
  pub start : (c : ℕ) → net.start c ≡ net'.start c
  pub first : (c : ℕ) → seen (net.first c) ≡ net'.first c
  pub below : (x y : L) → net.below x y ≡ net'.below (seen x) (seen y)
  pub steps : (u : ℕ) → Steps seen net (net.nbrs u) (net'.nbrs u)

-- What then holds of the two searches, after every count of takes and at their end.
pub record Agrees {L M : Type 0} (seen : L → M) (net : Net L) (net' : Net M) : Type 0 where
  pub run_after : (k : ℕ) → image seen (run net k (initial net)) ≡ run net' k (initial net')
  pub takes_after : (k : ℕ) → takes net k (initial net) ≡ takes net' k (initial net')
  pub trace_after : (k : ℕ) → map (λ taken. (taken.0, seen taken.1)) (trace net k (initial net)) ≡ trace net' k (initial net')
  pub at_end : image seen (finish net) ≡ finish net'
  pub labels_at_end : map seen (finish net).labels ≡ (finish net').labels
  pub takes_at_end : takes_of net ≡ takes_of net'

-- No run from the start takes more than b cells.
abbrev pub Within : {L : Type 0} → ℕ → Net L → Type 0
Within b net = (k : ℕ) → takes net k (initial net) ≤ b
