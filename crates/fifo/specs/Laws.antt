-- What the theory asks of a net and of a state that a run begins from, and what it gives. Definitions only.
use Rattle.std.specs.Prelude.{true, false, List, [], ◌⊎◌, ◌≡◌, ℕ, ◌*◌, ◌<◌, ◌≤◌, T, length}
use Rattle.fifo.specs.Machine.{Net, State, passing, label, finish, takes_of}
use Rattle.fifo.specs.Walk.{In, NoDup, Starting, Walk}

-- The number of cells that may be entered or started from.
unfoldable pub room : {L : Type 0} → Net L → ℕ
room net = length (passing net.enterable 0 net.cells)

-- At the end nothing waits, and the takes are at most the square of the number of cells that may be entered or started from.
pub record EndsWithinSquare {L : Type 0} (net : Net L) : Type 0 where
  pub nothing_waits : (finish net).waiting ≡ []
  pub takes_within_square : takes_of net ≤ room net * room net
  pub room_within_cells : room net ≤ net.cells

-- c is a cell of the net that may be entered or started from.
abbrev pub Enterable : {L : Type 0} → Net L → ℕ → Type 0
Enterable net c = (c < net.cells) × T (net.enterable c)

-- From such a cell u a permitted step leads to v, and f is its function.
pub record Step {L : Type 0} (net : Net L) (u v : ℕ) (f : L → L) : Type 0 where
  pub source : Enterable net u
  pub listed : In (v, f) (net.nbrs u)

-- What a search owes the theory. Labels outside `Good` may be anything: they never travel.
pub record Laws {L : Type 0} (net : Net L) : Type 1 where
  -- the labels that travel
  pub Good : L → Type 0
  -- their order is strict, and "not below" passes on; two different labels may be level
  pub asymmetric : {x y : L} → Good x → Good y → net.below x y ≡ true → net.below y x ≡ false
  pub transitive : {x y z : L} → Good x → Good y → Good z → net.below y x ≡ false → net.below z y ≡ false → net.below z x ≡ false
  -- a starting cell may be started from, and no label that travels is below its first one, which travels too
  pub start_enterable : (c : ℕ) → Starting net c → T (net.enterable c)
  pub start_good : (c : ℕ) → Starting net c → Good (net.first c)
  pub start_least : (c : ℕ) → Starting net c → {d : L} → Good d → net.below d (net.first c) ≡ false
  -- every other cell that may be entered has the cap at first, which can travel itself or has no such label below it
  pub cap : L
  pub cap_first : (c : ℕ) → Enterable net c → net.start c ≡ false → net.first c ≡ cap
  pub cap_held : Good cap ⊎ ((d : L) → Good d → net.below d cap ≡ false)
  -- a step leads to a cell that may be entered, and its function keeps to the labels that travel, never lowers one, and keeps their order
  pub step_inside : {u v : ℕ} {f : L → L} → Step net u v f → Enterable net v
  pub step_good : {u v : ℕ} {f : L → L} {d : L} → Step net u v f → Good d → Good (f d)
  pub step_never_lowers : {u v : ℕ} {f : L → L} {d : L} → Step net u v f → Good d → net.below (f d) d ≡ false
  pub step_keeps_order :
      {u v : ℕ} {f : L → L} {d e : L} → Step net u v f → Good d → Good e → net.below e d ≡ false → net.below (f e) (f d) ≡ false

module _ {L : Type 0} {net : Net L} (laws : Laws net) where
  -- x can travel, or no label that travels is below it.
  abbrev pub Held : L → Type 0
  Held x = laws.Good x ⊎ ((d : L) → laws.Good d → net.below d x ≡ false)

  -- A state from which a run ends within the square.
  pub record Sound (s : State L) : Type 0 where
    -- each cell has a label
    pub size : length s.labels ≡ net.cells
    -- no cell waits twice, and each that waits may be entered and has a label that travels
    pub single : NoDup s.waiting
    pub waits : (c : ℕ) → In c s.waiting → Enterable net c × laws.Good (label net s c)
    -- each cell that may be entered has a label that travels, or one that nothing is below
    pub held : (c : ℕ) → Enterable net c → Held (label net s c)

  -- Every step from u has been relaxed.
  abbrev pub Relaxed : State L → ℕ → Type 0
  Relaxed s u = (v : ℕ) (f : L → L) → In (v, f) (net.nbrs u) → net.below (f (label net s u)) (label net s v) ≡ false

  -- A state in which every label is accounted for, so that a run from it ends with the least sums.
  -- `pending` holds the cells that have steps to relax: between two takes the waiting cells, during one the cell that is taken too.
  pub record Accounted (pending : List ℕ) (s : State L) : Type 0 where
    -- no cell is entered twice; the waiting cells and the starting cells are entered
    pub entered_single : NoDup s.entered
    pub waiting_entered : (c : ℕ) → In c s.waiting → In c s.entered
    pub start_entered : (c : ℕ) → Starting net c → In c s.entered
    -- an entered cell has the label of a walk, a starting cell and one that is not entered the first label
    pub entered_walk : (c : ℕ) → In c s.entered → (from : ℕ) × Walk net from c (label net s c)
    pub start_first : (c : ℕ) → Starting net c → label net s c ≡ net.first c
    pub rest_first : (c : ℕ) → (In c s.entered → ⊥) → label net s c ≡ net.first c
    -- an entered cell that did not start has a label below the cap
    pub below_cap : (c : ℕ) → In c s.entered → net.start c ≡ false → net.below (label net s c) laws.cap ≡ true
    -- an entered cell that is not pending has relaxed its steps
    pub relaxed : (c : ℕ) → In c s.entered → In c pending ⊎ Relaxed s c

  -- A state that holds the least sums, as the search does where it has stopped.
  pub record LeastSums (s : State L) : Type 0 where
    -- no walk to a cell gives less than its label
    pub no_less : {from c : ℕ} {d : L} → Walk net from c d → net.below d (label net s c) ≡ false
    -- the label of an entered cell is that of a walk, any other's is the first one
    pub entered_met : (c : ℕ) → In c s.entered → (from : ℕ) × Walk net from c (label net s c)
    pub rest_first : (c : ℕ) → (In c s.entered → ⊥) → label net s c ≡ net.first c
    -- the starting cells are entered and keep their first label; any other entered cell is below the cap
    pub start_entered : (c : ℕ) → Starting net c → In c s.entered
    pub start_first : (c : ℕ) → Starting net c → label net s c ≡ net.first c
    pub below_cap : (c : ℕ) → In c s.entered → net.start c ≡ false → net.below (label net s c) laws.cap ≡ true
