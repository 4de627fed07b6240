-- Nets with whole numbers for labels: examples for the cases and for the laws.
use mathlib.Core.Bool.{Bool, true, false, cond, not}
use mathlib.Core.List.{List, [], ◌∷◌, ◌++◌, map}
use Prim.Native.Nat.{ℕ, ◌+◌, ◌-◌, ◌*◌, ◌%◌}
use lib.Dec.{eqb, ltb}
use lib.ListN.{length, get_or}
use Rattle.fifo.specs.Machine.{Net, table}

-- A net with, for each cell, the steps from it as pairs of a cell and a cost; cell 0 starts with 0, and the others have the cap.
abbrev pub net_of : ℕ → List (List (ℕ × ℕ)) → Net ℕ
net_of cap steps = record {
  cells = length steps;
  below = ltb;
  first = λ c. cond (eqb c 0) 0 cap;
  start = λ c. eqb c 0;
  enterable = λ c. ltb c (length steps);
  nbrs = λ c. map (λ step. (step.0, λ d. d + step.1)) (get_or steps c []);
}

-- A row of three cells, with steps of cost 1 to the right and left.
abbrev pub row_steps : List (List (ℕ × ℕ))
row_steps = ((1, 1) ∷ []) ∷ ((2, 1) ∷ (0, 1) ∷ []) ∷ ((1, 1) ∷ []) ∷ []

-- Cell 2 is reached at cost 5 and, while it waits, at cost 2.
abbrev pub corrected_early : Net ℕ
corrected_early = net_of 10 (((1, 1) ∷ (2, 5) ∷ []) ∷ ((2, 1) ∷ []) ∷ [] ∷ [])

-- Cell 2 is reached and taken at cost 5, and reached at cost 2 later.
abbrev pub corrected_late : Net ℕ
corrected_late = net_of 10 (((2, 5) ∷ (1, 1) ∷ []) ∷ ((2, 1) ∷ []) ∷ [] ∷ [])

-- One step to v of cost 1 if the test holds, else none.
abbrev step_if : Bool → ℕ → List (ℕ × ℕ)
step_if true v = (v, 1) ∷ []
step_if false v = []

-- A grid of the given width and height, with steps of cost 1 to the right, left, below and above.
unfoldable pub grid_steps : ℕ → ℕ → List (List (ℕ × ℕ))
unfolding table
grid_steps width height =
    table
    (λ c.
    step_if (ltb (c % width + 1) width) (c + 1)
    ++ step_if (ltb 0 (c % width)) (c - 1)
    ++ step_if (ltb (c + width) (width * height)) (c + width)
    ++ step_if (not (ltb c width)) (c - width))
    0 (width * height)
