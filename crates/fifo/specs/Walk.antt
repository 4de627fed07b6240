-- Walks over the permitted steps of a net, each with the label that adding up its steps gives. Definitions only.
use Rattle.std.specs.Prelude.{List, [], ◌∷◌, ◌⊎◌, ◌≡◌, ℕ, ◌<◌, T}
use Rattle.fifo.specs.Machine.{Net}

-- a stands in the list.
abbrev pub In : {A : Type 0} → A → List A → Type 0
In a [] = ⊥
In a (b ∷ l) = (a ≡ b) ⊎ In a l

-- No cell stands in the list twice.
abbrev pub NoDup : List ℕ → Type 0
NoDup [] = Unit {0}
NoDup (c ∷ l) = (In c l → ⊥) × NoDup l

-- c is a starting cell of the net.
abbrev pub Starting : {L : Type 0} → Net L → ℕ → Type 0
Starting net c = (c < net.cells) × T (net.start c)

-- `Walk net s c d`: there is a walk from the starting cell s to the cell c that gives c the label d.
pub data Walk {L : Type 0} (net : Net L) : ℕ → ℕ → L → Type 0 where
  -- a starting cell alone is a walk with its first label
  here : {c : ℕ} → Starting net c → Walk net c c (net.first c)
  -- a walk and one permitted step more
  on : {s u v : ℕ} {d : L} (f : L → L) → Walk net s u d → In (v, f) (net.nbrs u) → Walk net s v (f d)
