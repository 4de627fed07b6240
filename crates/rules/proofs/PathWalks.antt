-- Permitted paths are walks of the net that a search works. Assumes nothing.
use mathlib.Core.Bool.{Bool, false}
use mathlib.Core.Logic.{inl, inr}
use mathlib.Core.Path.{◌≡◌, refl, sym, ap, ◌∙◌, subst}
use Prim.Native.Nat.{ℕ}
use lib.Dec.{T, eqb, eqb_refl, eqb→eq}
use lib.Ieee.{Float, binary32, add, lt}
use Rattle.binary32.specs.Steps.{straight, diagonal}
use Rattle.fifo.specs.Machine.{Net, label, finish}
use Rattle.fifo.specs.Walk.{In, Walk, here, on}
use Rattle.fifo.proofs.LeastSums.{least_sums}
use Rattle.rules.specs.Sizes.{Size}
use Rattle.rules.specs.Cells.{moves}
use Rattle.rules.specs.Paths.{Path, alone, onward, AllowedBy}
use Rattle.rules.proofs.Neighbours.{Permitted, straight_step, diagonal_step, moves_permitted, permitted_moves}
use Rattle.rules.proofs.AddedCosts.{AddsCosts, laws_of_costs}

-- The steps of a net over labels with a distance are the allowed ones, and each adds its length.
pub record StepsAllowed {L : Type 0} (distance : L → Float) (net : Net L) (Allowed : ℕ → ℕ → Float → Type 0) : Type 0 where
  pub listed : (u v : ℕ) (s : Float) → Allowed u v s → (f : L → L) × In (v, f) (net.nbrs u) × ((l : L) → distance (f l) ≡ add binary32 (distance l) s)
  pub allowed : (u v : ℕ) (f : L → L) → In (v, f) (net.nbrs u) → (s : Float) × Allowed u v s × ((l : L) → distance (f l) ≡ add binary32 (distance l) s)

module _
    {L : Type 0} {distance : L → Float} {net : Net L} {Allowed : ℕ → ℕ → Float → Type 0} {cap : L}
    (costs : AddsCosts distance net cap) (steps : StepsAllowed distance net Allowed)
  where
    -- A path is a walk from one of the targets: a target's first distance is +0, and each step more adds its length to both.
    pub path_walk : {c : ℕ} {d : Float} → Path net.cells net.start Allowed c d → (from : ℕ) × (l : L) × Walk net from c l × (distance l ≡ d)
    path_walk (alone {c = c} inside starts) = (c, net.first c, here (inside, starts), costs.start_zero c (inside, starts))
    path_walk (onward {u = u} {v = v} {d = d} {s = s} path a) =
        let (from, l, walk, is) = path_walk path in
        let (f, i, adds) = steps.listed u v s a in
        (from, f l, on f walk i, adds l ∙ ap (λ e. add binary32 e s) is)

    -- And a walk is a path from its own target alone.
    pub walk_path : {from c : ℕ} {l : L} → Walk net from c l → Path net.cells (eqb from) Allowed c (distance l)
    walk_path (here {c = c} starts) = subst (Path net.cells (eqb c) Allowed c) (sym (costs.start_zero c starts)) (alone starts.0 (eqb_refl c))
    walk_path (on {s = from} {u = u} {v = v} {d = l} f walk i) =
        let (s, a, adds) = steps.allowed u v f i in
        subst (Path net.cells (eqb from) Allowed v) (sym (adds l)) (onward (walk_path walk) a)

    -- No path gives less than the distance that the search ends with, as no walk does.
    pub no_path_less : (c : ℕ) (d : Float) → Path net.cells net.start Allowed c d → lt d (distance (label net (finish net) c)) ≡ false
    no_path_less c d path =
        let held = label net (finish net) c in
        let (from, l, walk, is) = path_walk path in
        subst (λ e. lt e (distance held) ≡ false) is (sym (costs.order l held) ∙ (least_sums (laws_of_costs costs)).no_less walk)

-- A path from one target alone is a path from any target.
pub from_any :
    {n : ℕ} {Allowed : ℕ → ℕ → Float → Type 0} (starts : ℕ → Bool) (from : ℕ) {c : ℕ} {d : Float}
    → T (starts from) → Path n (eqb from) Allowed c d → Path n starts Allowed c d
from_any starts from is_target (alone {c = c} inside same) = alone inside (subst (λ k. T (starts k)) (eqb→eq from c same) is_target)
from_any starts from is_target (onward path a) = onward (from_any starts from is_target path) a

-- ---- the steps of a search are the permitted ones of `moves`

module _
    {L : Type 0} (distance : L → Float) (net : Net L) (Allowed : ℕ → ℕ → Float → Type 0)
    (size : Size) (may_straight may_diagonal : ℕ → ℕ → Bool) (cost : ℕ → ℕ → Float → Float) (entering : ℕ → Float → ℕ → L → L)
  where
    -- From u the search enters v over a step of length s, and adds its cost.
    abbrev pub Entered : ℕ → ℕ → Float → Type 0
    Entered u v s = Permitted size (may_straight u) (may_diagonal u) u v s

    pub steps_of_moves :
        ((u v : ℕ) (s : Float) (l : L) → distance (entering u s v l) ≡ add binary32 (distance l) (cost u v s))
        → ((u : ℕ) → net.nbrs u ≡ moves size (may_straight u) (may_diagonal u) (entering u) u)
        → ((u v : ℕ) (w : Float) → Allowed u v w → (s : Float) × Entered u v s × (w ≡ cost u v s))
        → ((u v : ℕ) (s : Float) → Entered u v s → Allowed u v (cost u v s))
        → StepsAllowed distance net Allowed
    steps_of_moves adds nbrs_are permitted allowed = record {
      listed = λ u v w a.
          let (s, entered, e) = permitted u v w a in (
            entering u s v,
            rw (nbrs_are u) (permitted_moves size (may_straight u) (may_diagonal u) (entering u) u v entered),
            λ l. adds u v s l ∙ ap (add binary32 (distance l)) (sym e),
          );
      allowed = λ u v f i.
          let (s, entered, e) = moves_permitted size (may_straight u) (may_diagonal u) (entering u) u v f (rw (nbrs_are u) at i) in
          (cost u v s, allowed u v s entered, λ l. ap (λ g. distance (g l)) e ∙ adds u v s l);
    }

-- The same where one test is made for all neighbours.
module _ (size : Size) (test : ℕ → Bool) (cost : ℕ → ℕ → Float → Float) (u v : ℕ) where
  pub permitted_by : (w : Float) → AllowedBy size test cost u v w → (s : Float) × Permitted size test test u v s × (w ≡ cost u v s)
  permitted_by w (t, inl (i, e)) = (straight, straight_step t i, e)
  permitted_by w (t, inr (i, e)) = (diagonal, diagonal_step t i, e)

  pub allowed_by : (s : Float) → Permitted size test test u v s → AllowedBy size test cost u v (cost u v s)
  allowed_by s (straight_step t i) = (t, inl (i, refl))
  allowed_by s (diagonal_step t i) = (t, inr (i, refl))
