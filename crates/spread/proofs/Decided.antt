-- What the promises of this crate decide: two outcomes that keep one promise coincide, in the labels, the waiting cells and what is told of them.
-- Not decided, because the promises do not speak of it: in which slots of the queue the waiting cells stand, what the other slots hold, and by which
-- mark a cell that does not wait is marked. After `spread` nothing is said of marks and queue but their lengths: the calls above zero both. Assumes nothing.
use mathlib.Core.Bool.{false}
use mathlib.Core.List.{List, [], map}
use mathlib.Core.Logic.{⊎_elim}
use mathlib.Core.Path.{◌≡◌, refl, sym, ap, ◌∙◌}
use Prim.Native.Nat.{ℕ, suc, ◌<◌}
use native.Mathlib.Omega.{arith}
use lib.Dec.{eqb}
use lib.Ieee.{Float, nan}
use lib.ListN.{length, get_or}
use lib.Seq.{ext_get_or}
use Rattle.cells.specs.Ring.{contents}
use Rattle.cells.specs.declared.ring.Ring.{Ring}
use Rattle.cells.proofs.Decided.{SameWaiting}
use Rattle.fifo.specs.Machine.{State}
use Rattle.fifo.proofs.Lists.{tested, empty_or_not}
use Rattle.rules.specs.Sizes.{count}
use Rattle.rules.specs.Values.{Carried}
use Rattle.rules.proofs.Decided.{equation_decides}
use Rattle.spread.specs.declared.search.Search.{Search}
use Rattle.spread.specs.declared.take.TakenCell.{TakenCell}
use Rattle.spread.specs.Nets.{Grids, carries, labels_of}
use Rattle.spread.specs.Steps.{Terrain}
use Rattle.spread.specs.Waiting.{border}
use Rattle.spread.specs.Buffers.{Buffers, Good, Holds}
use Rattle.spread.specs.First.{net_on}
use Rattle.spread.specs.Begin.{BeganTo, Clear, BeginsAt, BeganAt}
use Rattle.spread.specs.Loop.{Taking, TookCell}
use Rattle.spread.specs.Promise.{Spread}
use Rattle.spread.proofs.Rules.{follows}
use Rattle.spread.proofs.Beginning.{begun_good, begun_initial}
use Rattle.spread.proofs.Results.{distances_read, values_read, distances_are, values_are}

-- ---- `spread`

-- Two calls count the same takes and leave the same distances and values, in marks and queue of the same lengths.
pub record SameSpread (r s : ℕ) (distances₁ distances₂ carried₁ carried₂ : List Float) (marks₁ marks₂ queue₁ queue₂ : List ℕ) : Type 0 where
  pub takes : r ≡ s
  pub distances : distances₁ ≡ distances₂
  pub carried : carried₁ ≡ carried₂
  pub marks_length : length marks₁ ≡ length marks₂
  pub queue_length : length queue₁ ≡ length queue₂

pub spread_decides :
    {search : Search} {grids : Grids} {carried distances₁ distances₂ carried₁ carried₂ : List Float} {marks₁ marks₂ queue₁ queue₂ : List ℕ} {r s : ℕ}
    → Spread search grids carried distances₁ carried₁ marks₁ queue₁ r → Spread search grids carried distances₂ carried₂ marks₂ queue₂ s
    → SameSpread r s distances₁ distances₂ carried₁ carried₂ marks₁ marks₂ queue₁ queue₂
spread_decides {search} p q = record {
  takes = equation_decides p.counted q.counted;
  distances = equation_decides (distances_are p) (distances_are q);
  carried =
      ⊎_elim (λ carrying. equation_decides (values_are p carrying) (values_are q carrying)) (λ no_value. equation_decides (p.kept no_value) (q.kept no_value))
      (tested (carries search.rule));
  marks_length = equation_decides p.lengths.marks_length q.lengths.marks_length;
  queue_length = equation_decides p.lengths.queue_length q.lengths.queue_length;
}

-- ---- buffers that hold one state

-- The buffers hold the same distances and values, the same cells wait in the same order, and the same cells are marked as waiting.
pub record SameState (search : Search) (a b : Buffers) : Type 0 where
  pub distances : a.distances ≡ b.distances
  pub carried : a.carried ≡ b.carried
  pub waiting : SameWaiting a.queue a.ring b.queue b.ring
  pub marks_length : length a.marks ≡ length b.marks
  pub marked : (c : ℕ) → c < count search.size → eqb (get_or a.marks c 0) border ≡ eqb (get_or b.marks c 0) border

-- The state decides them. Proof: the labels give the distances and the values, the waiting cells what the ring holds, and those are marked.
held_decides :
    {search : Search} {a b : Buffers} {t : State Carried} → Good search a → Good search b → Holds search t a → Holds search t b
    → (carries search.rule ≡ false → a.carried ≡ b.carried) → SameState search a b
held_decides {search} {a} {b} {t} good_a good_b holds_a holds_b kept =
    let labels = sym holds_a.labels ∙ holds_b.labels in
    let waiting = sym holds_a.waiting ∙ holds_b.waiting in
    record {
      distances =
          distances_read search a.distances a.carried good_a.distances_length
          ∙ ap (map (λ l. l.0)) labels
          ∙ sym (distances_read search b.distances b.carried good_b.distances_length);
      carried =
          ⊎_elim
          (λ carrying.
          values_read search a.distances a.carried carrying (good_a.carried_length carrying)
          ∙ ap (map (λ l. l.1)) labels
          ∙ sym (values_read search b.distances b.carried carrying (good_b.carried_length carrying)))
          kept (tested (carries search.rule));
      waiting = record {
        waiting = waiting;
        slots = equation_decides (good_a.waits.slots ∙ ap suc good_a.marks_length) (good_b.waits.slots ∙ ap suc good_b.marks_length);
      };
      marks_length = equation_decides good_a.marks_length good_b.marks_length;
      marked = λ c inside. equation_decides (good_a.waits.marked c inside) (rw waiting (good_b.waits.marked c inside));
    }

-- ---- `begin_cells`

pub began_decides :
    {search : Search} {targets : List ℕ} {times values carried : List Float} {a b : Buffers}
    → BeganTo search targets times values (count search.size) carried a → BeganTo search targets times values (count search.size) carried b → SameState search a b
began_decides p q =
    held_decides (begun_good p.begun) (begun_good q.begun) (begun_initial p.begun []) (begun_initial q.begun [])
    (λ no_value. equation_decides (p.kept no_value) (q.kept no_value))

-- ---- `begin_clear` and `begin_at`

-- Two calls leave the same distances, and the same cells marked as waiting.
pub record SameReached (n : ℕ) (distances₁ distances₂ : List Float) (marks₁ marks₂ : List ℕ) : Type 0 where
  pub distances : distances₁ ≡ distances₂
  pub marks_length : length marks₁ ≡ length marks₂
  pub marked : (c : ℕ) → c < n → eqb (get_or marks₁ c 0) border ≡ eqb (get_or marks₂ c 0) border

pub clear_decides :
    {n : ℕ} {cap : Float} {distances₁ distances₂ : List Float} {marks₁ marks₂ : List ℕ} → Clear n cap distances₁ marks₁ → Clear n cap distances₂ marks₂
    → SameReached n distances₁ distances₂ marks₁ marks₂
clear_decides p q = record {
  distances = equation_decides p.unreached q.unreached;
  marks_length = equation_decides p.marks_length q.marks_length;
  marked = λ c inside. equation_decides (p.unmarked c inside) (q.unmarked c inside);
}

-- After `begin_at` the same cells wait too, in the same order.
pub began_at_decides :
    {origin : ℕ} {times distances distances₁ distances₂ : List Float} {marks queue marks₁ marks₂ queue₁ queue₂ : List ℕ} {ring₁ ring₂ : Ring} → BeginsAt times distances marks queue
    → BeganAt origin times distances marks queue distances₁ marks₁ queue₁ ring₁ → BeganAt origin times distances marks queue distances₂ marks₂ queue₂ ring₂
    → SameReached (length distances) distances₁ distances₂ marks₁ marks₂ × SameWaiting queue₁ ring₁ queue₂ ring₂
began_at_decides {distances = distances} {distances₁} {distances₂} begins began₁ began₂ =
    let (cap, clear) = begins.clear in
    let p = began₁.from cap clear in
    let q = began₂.from cap clear in
    let waiting = equation_decides p.waiting q.waiting in (
      record {
        distances = ext_get_or nan distances₁ distances₂ (equation_decides p.same_distances q.same_distances)
            (λ c inside. let below : c < length distances = rw p.same_distances at inside in equation_decides (p.distances_are c below) (q.distances_are c below));
        marks_length = equation_decides p.same_marks q.same_marks;
        marked = λ c inside. equation_decides (p.waits.marked c inside) (rw waiting (q.waits.marked c inside));
      },
      record { waiting = waiting; slots = equation_decides p.same_queue q.same_queue },
    )

-- ---- `take_next`

-- Two takes take the same cell at the same distance, and leave buffers that hold the same.
pub record SameTake (search : Search) (after₁ after₂ : Buffers) (a b : TakenCell) : Type 0 where
  pub cell : a.cell ≡ b.cell
  pub distance : a.distance ≡ b.distance
  pub state : SameState search after₁ after₂

-- Proof: the buffers before hold a state, and the rule's own net follows its steps. In that state something waits, and both takes lead to
-- where the net's take of its head leads.
pub took_cell_decides :
    {search : Search} {ground : Terrain} {before after₁ after₂ : Buffers} {a b : TakenCell} → Taking search ground before
    → TookCell search ground before after₁ a → TookCell search ground before after₂ b → SameTake search after₁ after₂ a b
took_cell_decides {search} {ground} {before} taking p q =
    let some = taking.some in
    let (u, ws, first) = ⊎_elim (λ none. let short = ap length none in absurd (omega arith)) (λ head. head) (empty_or_not (contents before.queue before.ring)) in
    let state : State Carried = record { labels = labels_of search before.distances before.carried; waiting = contents before.queue before.ring; entered = [] } in
    let held : Holds search state before = record { labels = refl; waiting = refl } in
    let net = net_on search [] ground.obstacles ground.times [] in
    let steps = follows [] ground.obstacles ground.times [] search in
    let cell = equation_decides (p.head u ws first) (q.head u ws first) in
    record {
      cell = cell;
      distance = p.at_distance ∙ ap (λ (c : ℕ). get_or before.distances c nan) cell ∙ sym q.at_distance;
      state =
          held_decides p.good q.good (p.holds net steps state held u ws first) (q.holds net steps state held u ws first)
          (λ no_value. equation_decides (p.kept no_value) (q.kept no_value));
    }
