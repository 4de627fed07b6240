-- Demand 3: a search over distances holds the least sums over permitted paths. Assumes nothing.
use mathlib.Core.Bool.{Bool, false, not, cond, ◌&&◌}
use mathlib.Core.Logic.{inl, inr, ⊎_elim}
use mathlib.Core.Path.{◌≡◌, refl, sym, ap, ◌∙◌, subst}
use Prim.Native.Nat.{ℕ, ◌<◌}
use lib.Dec.{T}
use lib.Ieee.{Float, nan, binary32, add, lt, fits, is_nan}
use lib.Ieee.Bits.{is_false}
use lib.Ieee.Fits.{and_l, and_r, and_i}
use mir.Facts.{T_not-not}
use Rattle.binary32.specs.Numbers.{plus_zero}
use Rattle.binary32.specs.Steps.{straight, diagonal}
use Rattle.fifo.specs.Machine.{Net, label, finish}
use Rattle.fifo.specs.Walk.{Walk}
use Rattle.fifo.specs.Laws.{Laws, LeastSums}
use Rattle.fifo.proofs.Lists.{in_or_not}
use Rattle.fifo.proofs.Labels.{walk_starts}
use Rattle.fifo.proofs.Ends.{ends_within_square}
use Rattle.fifo.proofs.LeastSums.{least_sums}
use Rattle.fifo.proofs.Search.{closed_first}
use Rattle.rules.specs.declared.BarrierDiagonals.{BarrierDiagonals}
use Rattle.rules.specs.Numbers.{infinity}
use Rattle.rules.specs.Sizes.{Size, Grid}
use Rattle.rules.specs.Cells.{moves}
use Rattle.rules.specs.Distances.{target, target_data, from_targets, plain, free, blocked, with_obstacles, half_sum, both_data, travel}
use Rattle.rules.specs.Paths.{Path, Allowed2, AllowedBy, LeastOrCap, HoldsLeastSums, LeastSums1, LeastSums2, LeastSums3}
use Rattle.rules.proofs.Neighbours.{Permitted, straight_step, diagonal_step}
use Rattle.rules.proofs.AddedCosts.{AddsCosts, laws_of_costs}
use Rattle.rules.proofs.PathWalks.{StepsAllowed, walk_path, no_path_less, from_any, steps_of_moves, permitted_by, allowed_by}
use Rattle.rules.proofs.Inputs.{AcceptedTimes}
use Rattle.rules.proofs.Nets.{plain_costs, obstacles_costs, travel_costs}

module _ {net : Net Float} {Allowed : ℕ → ℕ → Float → Type 0} {cap : Float} (costs : AddsCosts (λ d. d) net cap) (steps : StepsAllowed (λ d. d) net Allowed) where
  -- A cell that does not start holds the least sum of its paths, or the cap that it had at first.
  -- No path gives less than the label, as no walk does. If the cell was entered, its label is a walk's and is below the cap.
  -- Otherwise the label is the first one, the cap, so that no path's sum is below the cap.
  least_or_cap : (c : ℕ) → net.start c ≡ false → net.first c ≡ cap → LeastOrCap (Path net.cells net.start Allowed c) cap (label net (finish net) c)
  unfolding laws_of_costs
  least_or_cap c rests at_cap = record {
    no_less = no_path_less costs steps c;
    met = ⊎_elim (λ entered. inl (met_by (least.entered_met c entered).1, sym (costs.order held cap) ∙ least.below_cap c entered rests))
        (λ out. let same = least.rest_first c out ∙ at_cap in inr (same, λ d path. subst (λ x. lt d x ≡ false) same (no_path_less costs steps c d path)))
        (in_or_not c (finish net).entered);
  }
    where
      held : Float
      held = label net (finish net) c

      least : LeastSums (laws_of_costs costs) (finish net)
      least = least_sums (laws_of_costs costs)

      met_by : {from : ℕ} {d : Float} → Walk net from c d → Path net.cells net.start Allowed c d
      met_by {from} walk = from_any net.start from (walk_starts walk).1 (walk_path costs steps walk)

  -- Demand 3 of any such search: marked cells may not be entered and hold NaN at first; of the others, those that do not start hold the cap at first.
  holds_least_sums :
      (marked : ℕ → Bool) → ((c : ℕ) → T (marked c) → (net.enterable c ≡ false) × (net.first c ≡ nan))
      → ((c : ℕ) → c < net.cells → net.start c ≡ false → T (not (marked c)) → net.first c ≡ cap)
      → HoldsLeastSums net marked Allowed cap
  unfolding finish
  holds_least_sums marked marked_closed others_capped = record {
    target_holds_0 = λ c inside starts. (least_sums laws).start_first c (inside, starts) ∙ costs.start_zero c (inside, starts);
    marked_holds_nan = λ c inside m. let (closed, holds_nan) = marked_closed c m in closed_first laws c closed ∙ holds_nan;
    other_holds_least = λ c inside rests unmarked. let out = is_false (net.start c) rests in least_or_cap c out (others_capped c inside out unmarked);
    takes_within_square = (ends_within_square laws).takes_within_square;
  }
    where
      laws : Laws net
      laws = laws_of_costs costs

-- ---- searches 1 and 3: one test for all neighbours

-- Such a search marks the cells that fail the test: it gives them NaN at first, and never enters them.
one_test_holds_least_sums :
    (net : Net Float) (size : Size) (test : ℕ → Bool) (cost : ℕ → ℕ → Float → Float) (from : ℕ → Float) (cap : Float) → AddsCosts (λ d. d) net cap
    → ((u : ℕ) → net.nbrs u ≡ moves size test test (λ s v d. add binary32 d (cost u v s)) u)
    → ((c : ℕ) → net.enterable c ≡ test c) → ((c : ℕ) → net.first c ≡ cond (test c) (from c) nan)
    → HoldsLeastSums net (λ c. not (test c)) (AllowedBy size test cost) cap
one_test_holds_least_sums net size test cost from cap costs nbrs_are enterable_is first_is =
    holds_least_sums costs steps (λ c. not (test c))
    (λ c marked. let fails = is_false (test c) marked in (enterable_is c ∙ fails, first_is c ∙ ap (λ b. cond b (from c) nan) fails))
    (λ c inside rests unmarked. costs.cap_first c (inside, rw (enterable_is c) (T_not-not (test c) unmarked)) rests)
  where
    steps : StepsAllowed (λ d. d) net (AllowedBy size test cost)
    steps =
        steps_of_moves (λ d. d) net (AllowedBy size test cost) size (λ u. test) (λ u. test) cost (λ u s v d. add binary32 d (cost u v s))
        (λ u v s d. refl) nbrs_are (permitted_by size test cost) (allowed_by size test cost)

-- A step of search 1 adds its length.
abbrev own_length : ℕ → ℕ → Float → Float
own_length u v s = s

pub least_sums_1 : (targets : Grid ℕ) (cap : Float) → T (fits binary32 cap) → is_nan cap ≡ false → LeastSums1 targets cap
unfolding plain
least_sums_1 targets cap held number =
    one_test_holds_least_sums (plain targets cap) targets.size (target_data targets) own_length (from_targets (target targets) cap) cap
    (plain_costs targets cap held number) (λ u. refl) (λ c. refl) (λ c. refl)

pub least_sums_3 :
    (targets : Grid ℕ) (times : Grid Float) (cap : Float) → AcceptedTimes times → T (fits binary32 cap) → is_nan cap ≡ false → LeastSums3 targets times cap
unfolding travel
least_sums_3 targets times cap times_good held number =
    one_test_holds_least_sums (travel targets times cap) targets.size (both_data targets times) (half_sum times) (from_targets (target targets) cap) cap
    (travel_costs targets times cap times_good held number) (λ u. refl) (λ c. refl) (λ c. refl)

-- ---- search 2: a second test for the diagonal neighbours

pub least_sums_2 : (targets obstacles : Grid ℕ) (diagonals : BarrierDiagonals) → LeastSums2 targets obstacles diagonals
unfolding with_obstacles
least_sums_2 targets obstacles diagonals =
    holds_least_sums (obstacles_costs targets obstacles diagonals) steps (λ c. false) (λ c. absurd)
    (λ c inside rests unmarked. ap (λ b. cond b plus_zero infinity) rests)
  where
    passable : ℕ → ℕ → Bool
    passable u v = free obstacles v && not (blocked diagonals obstacles u v)

    permitted : (u v : ℕ) (w : Float) → Allowed2 targets obstacles diagonals u v w → (s : Float) × Permitted targets.size (free obstacles) (passable u) u v s × (w ≡ s)
    permitted u v w (t, inl (i, e)) = (straight, straight_step t i, e)
    permitted u v w (t, inr (i, beside, e)) = (diagonal, diagonal_step (and_i (free obstacles v) (not (blocked diagonals obstacles u v)) t beside) i, e)

    allowed : (u v : ℕ) (s : Float) → Permitted targets.size (free obstacles) (passable u) u v s → Allowed2 targets obstacles diagonals u v s
    allowed u v s (straight_step t i) = (t, inl (i, refl))
    allowed u v s (diagonal_step t i) =
        let beside = not (blocked diagonals obstacles u v) in
        (and_l (free obstacles v) beside t, inr (i, and_r (free obstacles v) beside t, refl))

    steps : StepsAllowed (λ d. d) (with_obstacles targets obstacles diagonals) (Allowed2 targets obstacles diagonals)
    steps =
        steps_of_moves (λ d. d) (with_obstacles targets obstacles diagonals) (Allowed2 targets obstacles diagonals) targets.size (λ u. free obstacles) passable own_length
        (λ u s v d. add binary32 d s) (λ u v s d. refl) (λ u. refl) permitted allowed
