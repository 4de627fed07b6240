-- Why a search meets the machine's laws: each of its steps adds a cost to a distance. Assumes nothing.
use mathlib.Core.Bool.{Bool, false}
use mathlib.Core.Logic.{◌⊎◌, inl, inr, ⊎_elim}
use mathlib.Core.Path.{◌≡◌, ap, ◌∙◌}
use Prim.Native.Nat.{ℕ, ◌<◌}
use lib.Dec.{T}
use lib.Ieee.{Float, binary32, add, div, lt}
use lib.Ieee.Positive.{positive}
use Rattle.binary32.specs.Numbers.{plus_zero, two}
use Rattle.binary32.specs.Steps.{straight, diagonal}
use Rattle.binary32.specs.FromZero.{Distance, NonNegative}
use Rattle.binary32.proofs.Shapes.{plus_zero_is_distance}
use Rattle.binary32.proofs.DistanceOrder.{lt_asymmetric, not_lt_transitive, none_below_plus_zero}
use Rattle.binary32.proofs.Sums.{add_is_distance, add_monotone, add_never_falls}
use Rattle.binary32.proofs.StepCosts.{straight_positive, diagonal_positive, straight_non_negative, diagonal_non_negative, half_straight_positive, half_diagonal_positive}
use Rattle.fifo.specs.Machine.{Net}
use Rattle.fifo.specs.Walk.{In, Starting}
use Rattle.fifo.specs.Laws.{Enterable, Step, Laws}
use Rattle.rules.specs.Sizes.{Size, count}
use Rattle.rules.specs.Cells.{moves}
use Rattle.rules.proofs.Neighbours.{moves_permitted, permitted_inside, permitted_passed, permitted_length}

-- A step's function adds a cost to the distance of a label.
pub record Adds {L : Type 0} (distance : L → Float) (f : L → L) : Type 0 where
  pub cost : Float
  pub non_negative : NonNegative cost
  pub adds : (x : L) → distance (f x) ≡ add binary32 (distance x) cost

-- What a search over labels with a distance has to show. The label may carry more than the distance: nothing is asked of that.
pub record AddsCosts {L : Type 0} (distance : L → Float) (net : Net L) (cap : L) : Type 0 where
  -- the order looks at the distance alone
  pub order : (x y : L) → net.below x y ≡ lt (distance x) (distance y)
  -- a starting cell may be started from, at distance +0
  pub start_enterable : (c : ℕ) → Starting net c → T (net.enterable c)
  pub start_zero : (c : ℕ) → Starting net c → distance (net.first c) ≡ plus_zero
  -- every other cell that may be entered has the cap at first, whose distance is one, or has none below it
  pub cap_first : (c : ℕ) → Enterable net c → net.start c ≡ false → net.first c ≡ cap
  pub cap_held : Distance (distance cap) ⊎ ((d : Float) → Distance d → lt d (distance cap) ≡ false)
  -- a step leads to a cell that may be entered, and adds a cost
  pub step : {u v : ℕ} {f : L → L} → Step net u v f → Enterable net v × Adds distance f

-- Such a search meets the laws: the labels that travel are those whose distance is one. The order is that of distances;
-- nothing is below +0; and the rounded sum of a distance and a cost is a distance, is not below the first, and keeps the order.
unfoldable pub laws_of_costs : {L : Type 0} {distance : L → Float} {net : Net L} {cap : L} → AddsCosts distance net cap → Laws net
laws_of_costs {L} {distance} {net} {cap} costs = record {
  Good = λ x. Distance (distance x);
  asymmetric = λ {x} {y} x_good y_good lower. rw (costs.order y x) (lt_asymmetric x_good y_good (rw (costs.order x y) at lower));
  transitive = λ {x} {y} {z} x_good y_good z_good xy yz.
      rw (costs.order z x) (not_lt_transitive x_good y_good z_good (rw (costs.order y x) at xy) (rw (costs.order z y) at yz));
  start_enterable = costs.start_enterable;
  start_good = λ c starts. rw (costs.start_zero c starts) plus_zero_is_distance;
  start_least = λ c starts {d} d_good. rw (costs.order d (net.first c), costs.start_zero c starts) (none_below_plus_zero d_good);
  cap = cap;
  cap_first = costs.cap_first;
  cap_held = ⊎_elim inl (λ inert. inr (λ d d_good. rw (costs.order d cap) (inert (distance d) d_good))) costs.cap_held;
  step_inside = λ step. (costs.step step).0;
  step_good = λ {u} {v} {f} {d} step d_good. let a = (costs.step step).1 in rw (a.adds d) (add_is_distance d_good a.non_negative);
  step_never_lowers = λ {u} {v} {f} {d} step d_good.
      let a = (costs.step step).1 in
      rw (costs.order (f d) d, a.adds d) (add_never_falls d_good a.non_negative);
  step_keeps_order = λ {u} {v} {f} {d} {e} step d_good e_good above.
      let a = (costs.step step).1 in
      rw (costs.order (f e) (f d), a.adds e, a.adds d) (add_monotone d_good e_good a.non_negative (rw (costs.order e d) at above));
}

-- What the costs use of the length of a step: it is a cost itself, and it and its half are numbers above 0.
pub record StepLength (s : Float) : Type 0 where
  pub non_negative : NonNegative s
  pub whole_positive : T (positive s)
  pub half_positive : T (positive (div binary32 s two))

straight_length : StepLength straight
straight_length = record { non_negative = straight_non_negative; whole_positive = straight_positive; half_positive = half_straight_positive }

diagonal_length : StepLength diagonal
diagonal_length = record { non_negative = diagonal_non_negative; whole_positive = diagonal_positive; half_positive = half_diagonal_positive }

-- A step that `moves` permits leads to a cell of the grid that passed a test. So the cell may be entered and the step adds a cost, if that follows from
-- either test: `cost s` is what a step of length s to that cell adds.
pub moves_add :
    {L : Type 0} (distance : L → Float) (size : Size) (may_straight may_diagonal : ℕ → Bool) (entering : Float → ℕ → L → L) (enterable : ℕ → Bool) (u v : ℕ) (f : L → L)
    → In (v, f) (moves size may_straight may_diagonal entering u)
    → (cost : Float → Float) → ((s : Float) (x : L) → distance (entering s v x) ≡ add binary32 (distance x) (cost s))
    → (T (may_straight v) ⊎ T (may_diagonal v) → T (enterable v) × ((s : Float) → StepLength s → NonNegative (cost s)))
    → ((v < count size) × T (enterable v)) × Adds distance f
moves_add distance size may_straight may_diagonal entering enterable u v f listed cost adds passed =
    let (s, permitted, e) = moves_permitted size may_straight may_diagonal entering u v f listed in
    let allowed = passed (permitted_passed permitted) in (
      (permitted_inside permitted, allowed.0),
      record {
        cost = cost s;
        non_negative = allowed.1 s (permitted_length StepLength straight_length diagonal_length permitted);
        adds = λ x. ap (λ g. distance (g x)) e ∙ adds s x;
      },
    )
