-- One neighbour is tried: what the code does to the buffers is the machine's relaxation of what they hold. Assumes nothing.
use mathlib.Core.Bool.{Bool, true, false, cond}
use mathlib.Core.List.{List}
use mathlib.Core.Path.{◌≡◌, refl, sym, ap, ◌∙◌, subst}
use Prim.Native.Nat.{ℕ, ◌<◌}
use lib.Ieee.{Float, nan, lt}
use lib.ListN.{length, get_or, set, length-set}
use Rattle.cells.specs.declared.ring.Ring.{Ring}
use Rattle.fifo.specs.Machine.{Net, State, joined, label, store}
use Rattle.fifo.proofs.Induction.{labels_store, waiting_store, relax_stores, relax_leaves}
use Rattle.rules.specs.Values.{Carried, nearer}
use Rattle.rules.specs.Sizes.{grid}
use Rattle.spread.specs.declared.search.Search.{Search}
use Rattle.spread.specs.declared.relax.Left.{Left}
use Rattle.spread.specs.Nets.{ways, sized, carries, labels_of}
use Rattle.spread.specs.Steps.{formula, entering, labelled, formula_by, length_of}
use Rattle.spread.specs.Waiting.{Waiting, Joining, Joined}
use Rattle.spread.specs.Buffers.{Buffers, buffers, Holds, Does, storing, relaxing, carried_on}
use Rattle.spread.specs.Loop.{left_label, Trying, Storing, Stored}
use Rattle.spread.proofs.Labels.{label_held, labels_stored, length_carried_on, not_carried_on}

module _ {search : Search} {v : ℕ} {distances carried : List Float} {marks queue : List ℕ} {ring : Ring} (tries : Trying search v (buffers distances carried marks queue ring)) where
  distance_inside : v < length distances
  distance_inside = rw tries.good.distances_length tries.inside

  value_inside : carries search.rule ≡ true → v < length carried
  value_inside carrying = rw (tries.good.carried_length carrying) tries.inside

  joins : Joining v marks queue ring
  joins = record {
    waits = subst (λ n. Waiting n marks queue ring) (sym tries.good.marks_length) tries.good.waits;
    inside = rw tries.good.marks_length tries.inside;
  }

  -- A label that is stored in both buffers, and a cell that joins those that wait, are the machine's store. Proof: the machine stores in its list
  -- of labels what the buffers store, and its waiting cells are joined by the same cell.
  store_does :
      (d x : Float) {carried' : List Float} → carried' ≡ carried_on search.rule v x carried
      → {marks' queue' : List ℕ} {ring' : Ring} → Joined v marks queue ring marks' queue' ring'
      → Does search (storing v (labelled search.rule d x)) (buffers distances carried marks queue ring) (buffers (set distances v d) carried' marks' queue' ring')
  store_does d x {carried'} carries_on {marks'} {queue'} {ring'} joined_now = record {
    good = record {
      distances_length = length-set distances v d ∙ tries.good.distances_length;
      carried_length = λ carrying. ap length carries_on ∙ length_carried_on (carries search.rule) v x carried ∙ tries.good.carried_length carrying;
      marks_length = joined_now.same_length ∙ tries.good.marks_length;
      waits = subst (λ n. Waiting n marks' queue' ring') tries.good.marks_length joined_now.waits;
    };
    holds = λ net nearest t held. record {
      labels =
          labels_store net v (labelled search.rule d x) t
          ∙ ap (λ l. set l v (labelled search.rule d x)) held.labels
          ∙ sym (labels_stored search distances carried v d x tries.inside distance_inside value_inside)
          ∙ ap (labels_of search (set distances v d)) (sym carries_on);
      waiting = waiting_store net v (labelled search.rule d x) t ∙ ap (joined v) held.waiting ∙ sym joined_now.added;
    };
    kept = λ no_value. carries_on ∙ not_carried_on (carries search.rule) v x carried no_value;
  }

  module _ (left : Left) (step new : Float) (times : List Float) (formed : new ≡ formula search.rule (sized search times) left.cell step v left.distance) where
    -- The machine's test is the test of the two distances: the net orders labels by these alone, and the buffers hold the cell's label.
    tested_as :
        (net : Net Carried) → net.below ≡ nearer → (t : State Carried) → Holds search t (buffers distances carried marks queue ring)
        → {answer : Bool} → lt new (get_or distances v nan) ≡ answer
        → net.below (entering search times left.cell step v (left_label search left)) (label net t v) ≡ answer
    tested_as net nearest t held e =
        ap (λ below. below (entering search times left.cell step v (left_label search left)) (label net t v)) nearest
        ∙ ap (nearer (entering search times left.cell step v (left_label search left))) (label_held net held v tries.inside)
        ∙ ap (λ d. lt d (get_or distances v nan)) (sym formed)
        ∙ e

    -- A candidate that is below is stored, by the code as by the machine.
    pub relax_does :
        {after : Buffers} → lt new (get_or distances v nan) ≡ true
        → Does search (storing v (labelled search.rule new left.value)) (buffers distances carried marks queue ring) after
        → Does search (relaxing (left_label search left) v (entering search times left.cell step v)) (buffers distances carried marks queue ring) after
    relax_does {after} lower stores = record {
      good = stores.good;
      holds = λ net nearest t held.
          subst (λ s. Holds search s after)
          (ap (λ d. store net v (d, (left_label search left).1) t) formed
          ∙ sym (relax_stores net (left_label search left) v (entering search times left.cell step v) t (tested_as net nearest t held lower)))
          (stores.holds net nearest t held);
      kept = stores.kept;
    }

    -- Any other changes nothing, neither here nor there.
    pub relax_does_nothing :
        lt new (get_or distances v nan) ≡ false
        → Does search (relaxing (left_label search left) v (entering search times left.cell step v)) (buffers distances carried marks queue ring) (buffers distances carried marks queue ring)
    relax_does_nothing above = record {
      good = tries.good;
      holds = λ net nearest t held.
          subst (λ s. Holds search s (buffers distances carried marks queue ring))
          (sym (relax_leaves net (left_label search left) v (entering search times left.cell step v) t (tested_as net nearest t held above)))
          held;
      kept = λ no_value. refl;
    }

-- ---- by the numbers of the rule

module _ {search : Search} {v : ℕ} {b : Buffers} (tries : Trying search v b) {carrying : Bool} (numbered : carrying ≡ carries search.rule) where
  pub storing_at : Storing carrying v b
  storing_at = record { distance_inside = distance_inside tries; value_inside = λ carried_along. value_inside tries (sym numbered ∙ carried_along); joins = joins tries }

  -- What the code stored is what the machine stores.
  pub stored_does : (d x : Float) {after : Buffers} → Stored carrying v d x b after → Does search (storing v (labelled search.rule d x)) b after
  stored_does d x {after} stored =
      subst (λ l. Does search (storing v (labelled search.rule d x)) b (buffers l after.carried after.marks after.queue after.ring))
      (sym stored.distances_are)
      (store_does tries d x (stored.carried_is ∙ ap (λ t. cond t (set b.carried v x) b.carried) numbered) stored.joined)

pub formed_as :
    (search : Search) (times : List Float) {n : ℕ} → n ≡ (ways search.rule).formula
    → (diagonally : Bool) {step : Float} → step ≡ length_of diagonally
    → (u v : ℕ) (d : Float) {new : Float} → new ≡ formula_by n (grid search.size times) u step v d
    → new ≡ formula search.rule (sized search times) u (length_of diagonally) v d
formed_as search times numbered diagonally {step} long u v d formed =
    formed
    ∙ ap (λ m. formula_by m (grid search.size times) u step v d) numbered
    ∙ ap (λ s. formula_by (ways search.rule).formula (grid search.size times) u s v d) long
