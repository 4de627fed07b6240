-- A first-in first-out queue that corrects labels, over any type of label. Definitions only, and all of them compute.
use Rattle.std.specs.Prelude.{Bool, false, cond, ◌||◌, ℕ, zero, suc, ◌*◌, eqb, get_or, set}
use mathlib.Core.List.{List, [], ◌∷◌, ◌++◌, foldl}

-- What a search is a choice of.
pub record Net (L : Type 0) : Type 0 where
  -- the number of cells; the cells are 0, 1, .. cells - 1
  pub cells : ℕ
  -- the strict order test on labels
  pub below : L → L → Bool
  -- each cell's label at the start
  pub first : ℕ → L
  -- the cells that start
  pub start : ℕ → Bool
  -- the cells that may be entered or started from
  pub enterable : ℕ → Bool
  -- a cell's permitted neighbours in trying order, each with the function that turns the label of the cell that is left into the candidate for the cell that is entered
  pub nbrs : ℕ → List (ℕ × (L → L))

-- Each cell's label, the cells that wait, and the cells in order of their first entry, starting cells first.
pub record State (L : Type 0) : Type 0 where
  pub labels : List L
  pub waiting : List ℕ
  pub entered : List ℕ

-- Whether v is among the cells.
unfoldable pub among : ℕ → List ℕ → Bool
among v [] = false
among v (w ∷ ws) = eqb v w || among v ws

-- The cells with v at their end, unless it is already among them.
unfoldable pub joined : ℕ → List ℕ → List ℕ
joined v ws = cond (among v ws) ws (ws ++ v ∷ [])

-- A list's cells join those that were found, in order: each once, where it comes first.
abbrev pub once : List ℕ → List ℕ → List ℕ
once found cells = foldl (λ found c. joined c found) found cells

-- The values of f at the k numbers from i on.
unfoldable pub table : {L : Type 0} → (ℕ → L) → ℕ → ℕ → List L
table f i zero = []
table f i (suc k) = f i ∷ table f (suc i) k

-- Those of the k numbers from i on that pass the test, ascending.
unfoldable pub passing : (ℕ → Bool) → ℕ → ℕ → List ℕ
passing test i zero = []
passing test i (suc k) = let rest = passing test (suc i) k in cond (test i) (i ∷ rest) rest

module _ {L : Type 0} (net : Net L) where
  -- At the start each cell has its first label, and the starting cells wait in row order.
  unfoldable pub initial : State L
  initial =
      let starting = passing net.start 0 net.cells in
      record { labels = table net.first 0 net.cells; waiting = starting; entered = starting }

  -- The label that cell v has now.
  unfoldable pub label : State L → ℕ → L
  label s v = get_or s.labels v (net.first v)

  -- Cell v takes the label d, waits if it did not yet, and is entered if it was not yet.
  unfoldable pub store : ℕ → L → State L → State L
  store v d s = record { labels = set s.labels v d; waiting = joined v s.waiting; entered = joined v s.entered }

  -- One neighbour is tried from a cell with label d: its candidate is stored if it is below the neighbour's label.
  unfoldable pub relax : L → ℕ × (L → L) → State L → State L
  relax d (v, f) s = cond (net.below (f d) (label s v)) (store v (f d) s) s

  -- All neighbours of a list are tried in order from a cell that had the label d when it was taken.
  unfoldable pub scan : L → List (ℕ × (L → L)) → State L → State L
  scan d [] s = s
  scan d (step ∷ steps) s = scan d steps (relax d step s)

  -- The cell u, at the head of the waiting cells, is taken, and ws wait on.
  unfoldable pub take : ℕ → List ℕ → State L → State L
  take u ws s = scan (label s u) (net.nbrs u) (record { labels = s.labels; waiting = ws; entered = s.entered })

  -- `run` for the state s whose waiting cells are those listed.
  unfoldable pub run_from : ℕ → List ℕ → State L → State L
  run_from zero ws s = s
  run_from (suc k) [] s = s
  run_from (suc k) (u ∷ ws) s = let after = take u ws s in run_from k after.waiting after

  -- At most k cells are taken; it stops when nothing waits.
  unfoldable pub run : ℕ → State L → State L
  run k s = run_from k s.waiting s

  -- `takes` for the state s whose waiting cells are those listed.
  unfoldable pub takes_from : ℕ → List ℕ → State L → ℕ
  takes_from zero ws s = 0
  takes_from (suc k) [] s = 0
  takes_from (suc k) (u ∷ ws) s = let after = take u ws s in suc (takes_from k after.waiting after)

  -- How many cells `run k s` takes.
  unfoldable pub takes : ℕ → State L → ℕ
  takes k s = takes_from k s.waiting s

  -- `trace` for the state s whose waiting cells are those listed.
  unfoldable pub trace_from : ℕ → List ℕ → State L → List (ℕ × L)
  trace_from zero ws s = []
  trace_from (suc k) [] s = []
  trace_from (suc k) (u ∷ ws) s = let after = take u ws s in (u, label s u) ∷ trace_from k after.waiting after

  -- The cells that `run k s` takes, in order, each with the label that it had when it was taken.
  unfoldable pub trace : ℕ → State L → List (ℕ × L)
  trace k s = trace_from k s.waiting s

  -- Where the search ends: it takes no more than the square of the number of cells.
  unfoldable pub finish : State L
  finish = run (net.cells * net.cells) initial

  -- How many cells the search takes.
  unfoldable pub takes_of : ℕ
  takes_of = takes (net.cells * net.cells) initial

-- To unfold this is to unfold all of the above, so that a search over a given net computes.
unfoldable pub computing : Unit {0}
unfolding among joined table passing initial label store relax scan take run_from run takes_from takes trace_from trace finish takes_of
computing = tt
