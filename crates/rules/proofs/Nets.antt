-- The seven nets meet the machine's laws, by what an accepted call knows of its inputs. Assumes nothing.
use mathlib.Core.Bool.{Bool, true, false, not, cond, ◌&&◌, ◌||◌}
use mathlib.Core.Logic.{◌⊎◌, inl, inr, ⊎_elim}
use mathlib.Core.Path.{◌≡◌, refl, sym, ap, ◌∙◌, subst}
use Prim.Native.Nat.{ℕ, suc}
use lib.Dec.{T, eqb, eqb→eq}
use lib.Ieee.{Float, nan, binary32, add, mul, div, fits, is_nan}
use lib.Ieee.Fits.{and_l, and_r}
use Rattle.binary32.specs.Numbers.{plus_zero, one, two}
use Rattle.binary32.specs.FromZero.{NonNegative}
use Rattle.binary32.proofs.Shapes.{infinity_is_distance}
use Rattle.binary32.proofs.DistanceOrder.{cap_is_distance_or_inert}
use Rattle.binary32.proofs.Costs.{sum_non_negative, product_non_negative}
use Rattle.fifo.specs.Laws.{Laws}
use Rattle.fifo.proofs.Lists.{tested, holds}
use Rattle.rules.specs.declared.BarrierDiagonals.{BarrierDiagonals}
use Rattle.rules.specs.Numbers.{infinity, whole}
use Rattle.rules.specs.Sizes.{Grid, count}
use Rattle.rules.specs.Distances.{byte, float, target, target_data, has_data, from_targets, plus_step, plain, free, blocked, with_obstacles, half_sum, plus_half_sum, both_data, travel}
use Rattle.rules.specs.Values.{Carried, carrying, closest, plus_time, starts_by_time, entered_by_time, closest_by_time}
use Rattle.rules.specs.Sums.{from_mask_cell, time_or_quarter, from_amount}
use Rattle.rules.proofs.Tests.{chosen, or_left, or_right, left_fails, right_holds}
use Rattle.rules.proofs.Inputs.{whole_is_distance, AcceptedTimes, time_non_negative, time_or_quarter_non_negative, AcceptedBudget, budget_and_one_non_negative}
use Rattle.rules.proofs.AddedCosts.{AddsCosts, laws_of_costs, StepLength, moves_add}

-- The two tests of `moves` are one.
either : {A : Type 0} → A ⊎ A → A
either = ⊎_elim (λ t. t) (λ t. t)

-- ---- 1

pub plain_costs : (targets : Grid ℕ) (cap : Float) → T (fits binary32 cap) → is_nan cap ≡ false → AddsCosts (λ d. d) (plain targets cap) cap
unfolding plain
plain_costs targets cap held number = record {
  order = λ x y. refl;
  start_enterable = λ c starts. target_has_data c starts.1;
  start_zero = λ c starts. with_data c (target_has_data c starts.1) ∙ chosen (target targets c) plus_zero cap starts.1;
  cap_first = λ c may rests. with_data c may.1 ∙ ap (λ b. cond b plus_zero cap) rests;
  cap_held = cap_is_distance_or_inert cap held number;
  step = λ {u} {v} {f} step.
      moves_add (λ d. d) targets.size (target_data targets) (target_data targets) plus_step (target_data targets) u v f step.listed
      (λ s. s) (λ s d. refl) (λ passed. (either passed, λ s length. length.non_negative));
}
  where
    target_has_data : (c : ℕ) → T (target targets c) → T (target_data targets c)
    target_has_data c = and_r (not (eqb (byte targets c) 0)) (target_data targets c)

    with_data : (c : ℕ) → T (target_data targets c) → cond (target_data targets c) (from_targets (target targets) cap c) nan ≡ from_targets (target targets) cap c
    with_data c = chosen (target_data targets c) (from_targets (target targets) cap c) nan

pub plain_laws : (targets : Grid ℕ) (cap : Float) → T (fits binary32 cap) → is_nan cap ≡ false → Laws (plain targets cap)
plain_laws targets cap held number = laws_of_costs (plain_costs targets cap held number)

-- ---- 2

pub obstacles_costs : (targets obstacles : Grid ℕ) (diagonals : BarrierDiagonals) → AddsCosts (λ d. d) (with_obstacles targets obstacles diagonals) infinity
unfolding with_obstacles
obstacles_costs targets obstacles diagonals = record {
  order = λ x y. refl;
  start_enterable = λ c starts. or_left (target targets c) (free obstacles c) starts.1;
  start_zero = λ c starts. chosen (target targets c) plus_zero infinity starts.1;
  cap_first = λ c may rests. ap (λ b. cond b plus_zero infinity) rests;
  cap_held = inl infinity_is_distance;
  step = λ {u} {v} {f} step.
      let beside : Bool = not (blocked diagonals obstacles u v) in
      moves_add (λ d. d) targets.size (free obstacles) (λ w. free obstacles w && not (blocked diagonals obstacles u w)) plus_step
      (λ c. target targets c || free obstacles c) u v f step.listed
      (λ s. s) (λ s d. refl) (λ passed. (or_right (target targets v) (free obstacles v) (⊎_elim (λ t. t) (and_l (free obstacles v) beside) passed), λ s length. length.non_negative));
}

pub obstacles_laws : (targets obstacles : Grid ℕ) (diagonals : BarrierDiagonals) → Laws (with_obstacles targets obstacles diagonals)
obstacles_laws targets obstacles diagonals = laws_of_costs (obstacles_costs targets obstacles diagonals)

-- ---- 3

-- What a step from u to v adds is a cost.
half_sum_non_negative :
    {times : Grid Float} → AcceptedTimes times → (u v : ℕ) → T (has_data times u) → T (has_data times v) → (s : Float) → StepLength s
    → NonNegative (half_sum times u v s)
half_sum_non_negative times_good u v has_u has_v s length =
    product_non_negative (div binary32 s two) length.half_positive (sum_non_negative (time_non_negative times_good u has_u) (time_non_negative times_good v has_v))

pub travel_costs :
    (targets : Grid ℕ) (times : Grid Float) (cap : Float) → AcceptedTimes times → T (fits binary32 cap) → is_nan cap ≡ false
    → AddsCosts (λ d. d) (travel targets times cap) cap
unfolding travel
travel_costs targets times cap times_good held number = record {
  order = λ x y. refl;
  start_enterable = λ c starts. and_r (target targets c) (both_data targets times c) starts.1;
  start_zero = λ c starts.
      with_data c (and_r (target targets c) (both_data targets times c) starts.1)
      ∙ chosen (target targets c) plus_zero cap (and_l (target targets c) (both_data targets times c) starts.1);
  cap_first = λ c may rests. with_data c may.1 ∙ ap (λ b. cond b plus_zero cap) (left_fails (target targets c) (both_data targets times c) may.1 rests);
  cap_held = cap_is_distance_or_inert cap held number;
  step = λ {u} {v} {f} step.
      moves_add (λ d. d) targets.size (both_data targets times) (both_data targets times) (plus_half_sum times u) (both_data targets times) u v f step.listed
      (half_sum times u v) (λ s d. refl)
      (λ passed. (either passed, half_sum_non_negative times_good u v (has u step.source.1) (has v (either passed))));
}
  where
    has : (c : ℕ) → T (both_data targets times c) → T (has_data times c)
    has c = and_r (target_data targets c) (has_data times c)

    with_data : (c : ℕ) → T (both_data targets times c) → cond (both_data targets times c) (from_targets (target targets) cap c) nan ≡ from_targets (target targets) cap c
    with_data c = chosen (both_data targets times c) (from_targets (target targets) cap c) nan

pub travel_laws :
    (targets : Grid ℕ) (times : Grid Float) (cap : Float) → AcceptedTimes times → T (fits binary32 cap) → is_nan cap ≡ false → Laws (travel targets times cap)
travel_laws targets times cap times_good held number = laws_of_costs (travel_costs targets times cap times_good held number)

-- ---- 4

pub closest_costs : (targets : Grid ℕ) (values : Grid Float) → AddsCosts (λ l. l.0) (closest targets values) (whole (suc (count targets.size)), plus_zero)
unfolding closest
closest_costs targets values = record {
  order = λ x y. refl;
  start_enterable = λ c starts. tt;
  start_zero = λ c starts. ap (λ l. l.0) (chosen (target targets c) (plus_zero, float values c) far starts.1);
  cap_first = λ c may rests. ap (λ b. cond b (plus_zero, float values c) far) rests;
  cap_held = inl (whole_is_distance (suc (count targets.size)));
  step = λ {u} {v} {f} step.
      moves_add (λ l. l.0) targets.size (λ w. true) (λ w. true) (carrying plus_step) (λ w. true) u v f step.listed
      (λ s. s) (λ s l. refl) (λ passed. (tt, λ s length. length.non_negative));
}
  where
    far : Carried
    far = (whole (suc (count targets.size)), plus_zero)

pub closest_laws : (targets : Grid ℕ) (values : Grid Float) → Laws (closest targets values)
closest_laws targets values = laws_of_costs (closest_costs targets values)

-- ---- 5 and 6

pub closest_by_time_costs :
    (targets : Grid ℕ) (times values : Grid Float) (limit : Float) → AcceptedTimes times → T (fits binary32 limit) → is_nan limit ≡ false
    → AddsCosts (λ l. l.0) (closest_by_time targets times values limit) (limit, plus_zero)
unfolding closest_by_time
closest_by_time_costs targets times values limit times_good held number = record {
  order = λ x y. refl;
  start_enterable = λ c starts. or_left (starts_by_time targets values c) (entered_by_time times values c) starts.1;
  start_zero = λ c starts.
      ap (λ l. l.0) (with_data c (and_l (has_data values c) (not (eqb (byte targets c) 0)) starts.1)
      ∙ chosen (starts_by_time targets values c) (plus_zero, float values c) (limit, plus_zero) starts.1);
  cap_first = λ c may rests.
      with_data c (and_l (has_data values c) (has_data times c) (right_holds (starts_by_time targets values c) (entered_by_time times values c) may.1 rests))
      ∙ ap (λ b. cond b (plus_zero, float values c) (limit, plus_zero)) rests;
  cap_held = cap_is_distance_or_inert limit held number;
  step = λ {u} {v} {f} step.
      moves_add (λ l. l.0) targets.size (entered_by_time times values) (entered_by_time times values) (carrying (plus_time times))
      (λ c. starts_by_time targets values c || entered_by_time times values c) u v f step.listed
      (λ s. mul binary32 s (float times v)) (λ s l. refl)
      (λ passed. (or_right (starts_by_time targets values v) (entered_by_time times values v) (either passed), time_cost v (either passed)));
}
  where
    first : ℕ → Carried
    first c = cond (starts_by_time targets values c) (plus_zero, float values c) (limit, plus_zero)

    with_data : (c : ℕ) → T (has_data values c) → cond (has_data values c) (first c) (nan, nan) ≡ first c
    with_data c = chosen (has_data values c) (first c) (nan, nan)

    time_cost : (v : ℕ) → T (entered_by_time times values v) → (s : Float) → StepLength s → NonNegative (mul binary32 s (float times v))
    time_cost v entered s length = product_non_negative s length.whole_positive (time_non_negative times_good v (and_r (has_data values v) (has_data times v) entered))

pub closest_by_time_laws :
    (targets : Grid ℕ) (times values : Grid Float) (limit : Float) → AcceptedTimes times → T (fits binary32 limit) → is_nan limit ≡ false
    → Laws (closest_by_time targets times values limit)
closest_by_time_laws targets times values limit times_good held number = laws_of_costs (closest_by_time_costs targets times values limit times_good held number)

-- ---- 7

mask_cell_costs : (times : Grid Float) (m : ℕ) → AcceptedTimes times → AddsCosts (λ d. d) (from_mask_cell times m) infinity
unfolding from_mask_cell
mask_cell_costs times m times_good = record {
  order = λ x y. refl;
  start_enterable = λ c starts. and_r (eqb c m) (has_data times c) starts.1;
  start_zero = λ c starts. chosen (eqb c m) plus_zero infinity (and_l (eqb c m) (has_data times c) starts.1);
  cap_first = λ c may rests. ap (λ b. cond b plus_zero infinity) (left_fails (eqb c m) (has_data times c) may.1 rests);
  cap_held = inl infinity_is_distance;
  step = λ {u} {v} {f} step.
      moves_add (λ d. d) times.size (has_data times) (has_data times) (plus_half_sum times u) (has_data times) u v f step.listed
      (half_sum times u v) (λ s d. refl)
      (λ passed. (either passed, half_sum_non_negative times_good u v step.source.1 (either passed)));
}

pub mask_cell_laws : (times : Grid Float) (m : ℕ) → AcceptedTimes times → Laws (from_mask_cell times m)
mask_cell_laws times m times_good = laws_of_costs (mask_cell_costs times m times_good)

-- ---- 8

-- Only of a target with a time: one without has +0 at first although it does not start, so that not every cell that does not start has the cap.
amount_costs :
    (times : Grid Float) (budget : Float) (t : ℕ) → AcceptedTimes times → AcceptedBudget budget → T (has_data times t)
    → AddsCosts (λ d. d) (from_amount times budget t) (add binary32 budget one)
unfolding from_amount
amount_costs times budget t times_good budget_good has = record {
  order = λ x y. refl;
  start_enterable = λ c starts. tt;
  start_zero = λ c starts. chosen (eqb c t) plus_zero (add binary32 budget one) (and_l (eqb c t) (has_data times c) starts.1);
  cap_first = λ c may rests. ap (λ b. cond b plus_zero (add binary32 budget one)) (elsewhere c rests (tested (eqb c t)));
  cap_held = let cap_good = budget_and_one_non_negative budget_good in cap_is_distance_or_inert (add binary32 budget one) cap_good.held cap_good.not_nan;
  step = λ {u} {v} {f} step.
      moves_add (λ d. d) times.size (λ w. true) (λ w. true) (λ s w d. add binary32 d (mul binary32 s (time_or_quarter times w))) (λ w. true) u v f step.listed
      (λ s. mul binary32 s (time_or_quarter times v)) (λ s d. refl)
      (λ passed. (tt, λ s length. product_non_negative s length.whole_positive (time_or_quarter_non_negative times_good v)));
}
  where
    elsewhere : (c : ℕ) → (eqb c t && has_data times c) ≡ false → (eqb c t ≡ true) ⊎ (eqb c t ≡ false) → eqb c t ≡ false
    elsewhere c rests (inl e) = left_fails (eqb c t) (has_data times c) (subst (λ a. T (has_data times a)) (sym (eqb→eq c t (holds e))) has) rests
    elsewhere c rests (inr e) = e

pub amount_laws :
    (times : Grid Float) (budget : Float) (t : ℕ) → AcceptedTimes times → AcceptedBudget budget → T (has_data times t) → Laws (from_amount times budget t)
amount_laws times budget t times_good budget_good has = laws_of_costs (amount_costs times budget t times_good budget_good has)
