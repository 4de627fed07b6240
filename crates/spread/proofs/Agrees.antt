-- The search over the net that the loop works is a copy of the search over the rules' net, for each rule: it takes the same cells, and its
-- distances are the same. What it tries in vain is a step that the rules do not permit, and that stores nothing:
-- Plain: to a nodata target. That cell is shut: it holds NaN, and nothing is below NaN.
-- HalfSum: to a cell where target or time is nodata, which is shut in the same way.
-- ByTime: to a nodata value, which is shut; to a nodata time, whose candidate is NaN, and that is below nothing.
-- FromMaskCell: to a nodata time, whose candidate is NaN.
-- Obstacles, Closest, FromAmount: none.
use mathlib.Core.Bool.{Bool, true, false, not, cond, ◌&&◌, true≢false, false≢true}
use mathlib.Core.List.{List, [], ◌∷◌, map, map-id}
use mathlib.Core.Logic.{◌⊎◌, inl, inr, ⊎_elim}
use mathlib.Core.Path.{◌≡◌, refl, sym, ap, ◌∙◌}
use Prim.Native.Nat.{ℕ}
use borrow.Author.Tests.{not-false}
use lib.Ieee.{Float, nan, binary32, add, mul, div, lt}
use Rattle.binary32.specs.Nodata.{nodata}
use Rattle.binary32.specs.Numbers.{two}
use Rattle.binary32.specs.Steps.{straight, diagonal}
use Rattle.binary32.proofs.NotANumber.{none_below_nan, nan_below_none, isNan→nan, add_nan, mul_nan}
use Rattle.fifo.specs.Machine.{Net, finish}
use Rattle.fifo.specs.Simulation.{Idle, never_below, shut, Steps, done, kept, idle, Simulates, Agrees, Within}
use Rattle.fifo.proofs.Lists.{tested}
use Rattle.fifo.proofs.Simulation.{simulated, within_too, steps_append}
use Rattle.rules.specs.declared.Size.{Size}
use Rattle.rules.specs.Sizes.{Grid}
use Rattle.rules.specs.declared.BarrierDiagonals.{BarrierDiagonals}
use Rattle.rules.specs.Cells.{straight_neighbours, diagonal_neighbours, keep, over, moves}
use Rattle.rules.specs.Distances.{float, target_data, has_data, both_data, plus_step, plus_half_sum, plain, free, blocked, with_obstacles, travel}
use Rattle.rules.specs.Values.{Carried, nearer, carrying, closest, plus_time, entered_by_time, closest_by_time}
use Rattle.rules.specs.Sums.{plus_time_or_quarter, from_mask_cell, from_amount}
use Rattle.spread.specs.declared.search.Rule.{Rule}
use Rattle.spread.specs.declared.search.Rule.TheVariants.{Plain, Obstacles, HalfSum, Closest, ByTime, FromMaskCell, FromAmount}
use Rattle.spread.specs.declared.search.Search.{Search}
use Rattle.spread.specs.Nets.{Grids, sized, stepping, anywhere, net_by, net_of}

-- A cell is tried exactly if it is permitted, or it is not permitted and the step to it is idle.
abbrev KeptOrIdle : {L : Type 0} → Net L → Bool → Bool → ℕ → (L → L) → Type 0
KeptOrIdle net tries permits v f = (tries ≡ permits) ⊎ ((permits ≡ false) × Idle net v f)

module _ {L M : Type 0} {seen : L → M} {net : Net L} where
  -- The steps to those cells of a list that are tried, beside the steps to those that are permitted.
  keep_steps :
      (s : Float) (entering : Float → ℕ → L → L) (entering' : Float → ℕ → M → M) (tries permits : ℕ → Bool)
      → ((v : ℕ) (x : L) → seen (entering s v x) ≡ entering' s v (seen x))
      → ((v : ℕ) → KeptOrIdle net (tries v) (permits v) v (entering s v))
      → (vs : List ℕ) → Steps seen net (map (over s entering) (keep tries vs)) (map (over s entering') (keep permits vs))
  unfolding keep
  keep_steps s entering entering' tries permits corresponds each [] = done
  keep_steps s entering entering' tries permits corresponds each (v ∷ vs) =
      go (tries v) (permits v) (each v) (keep_steps s entering entering' tries permits corresponds each vs)
    where
      go :
          (tried permitted : Bool) → KeptOrIdle net tried permitted v (entering s v)
          → Steps seen net (map (over s entering) (keep tries vs)) (map (over s entering') (keep permits vs))
          → Steps seen net (map (over s entering) (cond tried (v ∷ keep tries vs) (keep tries vs))) (map (over s entering') (cond permitted (v ∷ keep permits vs) (keep permits vs)))
      go true true either rest = kept (corresponds v) rest
      go true false (inl same) rest = absurd (true≢false same)
      go true false (inr (refused, still)) rest = idle still rest
      go false true (inl same) rest = absurd (false≢true same)
      go false true (inr (refused, still)) rest = absurd (true≢false refused)
      go false false either rest = rest

  -- The same of a cell's neighbours, the straight ones and then the diagonal ones.
  moves_steps :
      (size : Size) (entering : Float → ℕ → L → L) (entering' : Float → ℕ → M → M) (tries_straight tries_diagonal permits_straight permits_diagonal : ℕ → Bool)
      → ((s : Float) (v : ℕ) (x : L) → seen (entering s v x) ≡ entering' s v (seen x))
      → ((v : ℕ) → KeptOrIdle net (tries_straight v) (permits_straight v) v (entering straight v))
      → ((v : ℕ) → KeptOrIdle net (tries_diagonal v) (permits_diagonal v) v (entering diagonal v))
      → (u : ℕ) → Steps seen net (moves size tries_straight tries_diagonal entering u) (moves size permits_straight permits_diagonal entering' u)
  unfolding moves
  moves_steps size entering entering' tries_straight tries_diagonal permits_straight permits_diagonal corresponds straight_ones diagonal_ones u =
      steps_append
      (keep_steps straight entering entering' tries_straight permits_straight (corresponds straight) straight_ones (straight_neighbours size u))
      (keep_steps diagonal entering entering' tries_diagonal permits_diagonal (corresponds diagonal) diagonal_ones (diagonal_neighbours size u))

-- A net of distances is simulated by one with a value beside each distance, at which nothing looks, if the steps correspond.
stepping_simulates :
    (net : Net Float) (steps : ℕ → List (ℕ × (Carried → Carried))) → ((x y : Float) → lt x y ≡ net.below x y)
    → ((u : ℕ) → Steps (λ l. l.0) (stepping net steps) (steps u) (net.nbrs u)) → Simulates (λ l. l.0) (stepping net steps) net
stepping_simulates net steps below each = record {
  cells = refl;
  start = λ c. refl;
  first = λ c. refl;
  below = λ x y. below x.0 y.0;
  steps = each;
}

-- A nodata time gives NaN for a candidate, by both formulas, and NaN is below nothing.
module _ (times : Grid Float) (v : ℕ) (none : has_data times v ≡ false) where
  time_is_nan : float times v ≡ nan
  time_is_nan = isNan→nan (float times v) (not-false (nodata (float times v)) none)

  time_never_below : (s : Float) (x y : Carried) → nearer (carrying (plus_time times) s v x) y ≡ false
  time_never_below s x y =
      ap (λ b. lt (add binary32 x.0 (mul binary32 s b)) y.0) time_is_nan
      ∙ ap (λ p. lt (add binary32 x.0 p) y.0) (mul_nan binary32 s)
      ∙ ap (λ d. lt d y.0) (add_nan binary32 x.0)
      ∙ nan_below_none y.0

  half_sum_never_below : (u : ℕ) (s : Float) (x y : Carried) → nearer (carrying (plus_half_sum times u) s v x) y ≡ false
  half_sum_never_below u s x y =
      let half = div binary32 s two in
      ap (λ b. lt (add binary32 x.0 (mul binary32 half (add binary32 (float times u) b))) y.0) time_is_nan
      ∙ ap (λ b. lt (add binary32 x.0 (mul binary32 half b)) y.0) (add_nan binary32 (float times u))
      ∙ ap (λ p. lt (add binary32 x.0 p) y.0) (mul_nan binary32 half)
      ∙ ap (λ d. lt d y.0) (add_nan binary32 x.0)
      ∙ nan_below_none y.0

module _ (search : Search) (grids : Grids) where
  -- A cell that is not permitted is one whose target is nodata. Its first label is NaN.
  plain_simulated : Simulates (λ l. l.0) (net_by Plain search grids) (plain (sized search grids.targets) search.limit)
  unfolding plain
  plain_simulated =
      stepping_simulates (plain targets search.limit) (moves search.size anywhere anywhere (carrying plus_step)) (λ x y. refl)
      (moves_steps search.size (carrying plus_step) plus_step anywhere anywhere (target_data targets) (target_data targets)
      (λ s v x. refl) (each straight) (each diagonal))
    where
      targets : Grid ℕ
      targets = sized search grids.targets

      each : (s : Float) (v : ℕ) → KeptOrIdle (net_by Plain search grids) true (target_data targets v) v (carrying plus_step s v)
      each s v =
          ⊎_elim (λ some. inl (sym some)) (λ none. inr (none, shut (λ x. rw none (none_below_nan x.0)))) (tested (target_data targets v))

  -- What is tried is what is permitted.
  obstacles_simulated :
      (diagonals : BarrierDiagonals)
      → Simulates (λ l. l.0) (net_by (Obstacles diagonals) search grids)
      (with_obstacles (sized search grids.targets) (sized search grids.obstacles) diagonals)
  unfolding with_obstacles
  obstacles_simulated diagonals =
      stepping_simulates (with_obstacles (sized search grids.targets) obstacles diagonals)
      (λ u. moves search.size (free obstacles) (side u) (carrying plus_step) u) (λ x y. refl)
      (λ u. moves_steps search.size (carrying plus_step) plus_step (free obstacles) (side u) (free obstacles) (side u)
      (λ s v x. refl) (λ v. inl refl) (λ v. inl refl) u)
    where
      obstacles : Grid ℕ
      obstacles = sized search grids.obstacles

      side : ℕ → ℕ → Bool
      side u v = free obstacles v && not (blocked diagonals obstacles u v)

  -- A cell that is not permitted has no target or no time. Its first label is NaN.
  half_sum_simulated :
      Simulates (λ l. l.0) (net_by HalfSum search grids) (travel (sized search grids.targets) (sized search grids.times) search.limit)
  unfolding travel
  half_sum_simulated =
      stepping_simulates (travel targets times search.limit) (λ u. moves search.size anywhere anywhere (carrying (plus_half_sum times u)) u) (λ x y. refl)
      (λ u. moves_steps search.size (carrying (plus_half_sum times u)) (plus_half_sum times u) anywhere anywhere (both_data targets times) (both_data targets times)
      (λ s v x. refl) (each u straight) (each u diagonal) u)
    where
      targets : Grid ℕ
      targets = sized search grids.targets

      times : Grid Float
      times = sized search grids.times

      each : (u : ℕ) (s : Float) (v : ℕ) → KeptOrIdle (net_by HalfSum search grids) true (both_data targets times v) v (carrying (plus_half_sum times u) s v)
      each u s v =
          ⊎_elim (λ some. inl (sym some)) (λ none. inr (none, shut (λ x. rw none (none_below_nan x.0)))) (tested (both_data targets times v))

  -- A cell that is not permitted has no value, and then its first label is NaN, or no time, and then NaN is its candidate.
  by_time_simulated :
      Simulates (λ l. l) (net_by ByTime search grids)
      (closest_by_time (sized search grids.targets) (sized search grids.times) (sized search grids.values) search.limit)
  unfolding closest_by_time
  by_time_simulated = record {
    cells = refl;
    start = λ c. refl;
    first = λ c. refl;
    below = λ x y. refl;
    steps =
        moves_steps search.size (carrying (plus_time times)) (carrying (plus_time times)) anywhere anywhere (entered_by_time times values) (entered_by_time times values)
        (λ s v x. refl) (each straight) (each diagonal);
  }
    where
      times : Grid Float
      times = sized search grids.times

      values : Grid Float
      values = sized search grids.values

      Each : Float → ℕ → Type 0
      Each s v = KeptOrIdle (net_by ByTime search grids) true (entered_by_time times values v) v (carrying (plus_time times) s v)

      valued : (s : Float) (v : ℕ) → has_data values v ≡ true → Each s v
      valued s v some =
          ⊎_elim
          (λ (timed : has_data times v ≡ true). inl (rw (some, timed)))
          (λ (none : has_data times v ≡ false). inr (rw (some, none), never_below (time_never_below times v none s)))
          (tested (has_data times v))

      each : (s : Float) (v : ℕ) → Each s v
      each s v =
          ⊎_elim (valued s v) (λ (none : has_data values v ≡ false). inr (rw none, shut (λ x. rw none (none_below_nan x.0)))) (tested (has_data values v))

  -- A cell that is not permitted has no time, and NaN is its candidate.
  mask_cell_simulated :
      (origin : ℕ) → Simulates (λ l. l.0) (net_by (FromMaskCell origin) search grids) (from_mask_cell (sized search grids.times) origin)
  unfolding from_mask_cell
  mask_cell_simulated origin =
      stepping_simulates (from_mask_cell times origin) (λ u. moves search.size anywhere anywhere (carrying (plus_half_sum times u)) u) (λ x y. refl)
      (λ u. moves_steps search.size (carrying (plus_half_sum times u)) (plus_half_sum times u) anywhere anywhere (has_data times) (has_data times)
      (λ s v x. refl) (each u straight) (each u diagonal) u)
    where
      times : Grid Float
      times = sized search grids.times

      each : (u : ℕ) (s : Float) (v : ℕ) → KeptOrIdle (net_by (FromMaskCell origin) search grids) true (has_data times v) v (carrying (plus_half_sum times u) s v)
      each u s v =
          ⊎_elim (λ some. inl (sym some)) (λ none. inr (none, never_below (half_sum_never_below times v none u s))) (tested (has_data times v))

  -- What is tried is what is permitted.
  amount_simulated :
      (origin : ℕ) → Simulates (λ l. l.0) (net_by (FromAmount origin) search grids) (from_amount (sized search grids.times) search.limit origin)
  unfolding from_amount
  amount_simulated origin =
      stepping_simulates (from_amount times search.limit origin) (moves search.size anywhere anywhere (carrying (plus_time_or_quarter times))) (λ x y. refl)
      (moves_steps search.size (carrying (plus_time_or_quarter times)) (plus_time_or_quarter times) anywhere anywhere anywhere anywhere
      (λ s v x. refl) (λ v. inl refl) (λ v. inl refl))
    where
      times : Grid Float
      times = sized search grids.times

  -- What each search cites, with the rule that it gives.
  pub plain_agrees : search.rule ≡ Plain → Agrees (λ l. l.0) (net_of search grids) (plain (sized search grids.targets) search.limit)
  unfolding net_of
  plain_agrees rule = rw rule (simulated plain_simulated)

  pub obstacles_agrees :
      (diagonals : BarrierDiagonals) → search.rule ≡ Obstacles diagonals
      → Agrees (λ l. l.0) (net_of search grids) (with_obstacles (sized search grids.targets) (sized search grids.obstacles) diagonals)
  unfolding net_of
  obstacles_agrees diagonals rule = rw rule (simulated (obstacles_simulated diagonals))

  pub half_sum_agrees :
      search.rule ≡ HalfSum
      → Agrees (λ l. l.0) (net_of search grids) (travel (sized search grids.targets) (sized search grids.times) search.limit)
  unfolding net_of
  half_sum_agrees rule = rw rule (simulated half_sum_simulated)

  pub by_time_agrees :
      search.rule ≡ ByTime
      → Agrees (λ l. l) (net_of search grids)
      (closest_by_time (sized search grids.targets) (sized search grids.times) (sized search grids.values) search.limit)
  unfolding net_of
  by_time_agrees rule = rw rule (simulated by_time_simulated)

  pub by_time_labels :
      search.rule ≡ ByTime
      → (finish (net_of search grids)).labels
      ≡ (finish (closest_by_time (sized search grids.targets) (sized search grids.times) (sized search grids.values) search.limit)).labels
  by_time_labels rule = sym (map-id (finish (net_of search grids)).labels) ∙ (by_time_agrees rule).labels_at_end

  pub mask_cell_agrees :
      (origin : ℕ) → search.rule ≡ FromMaskCell origin → Agrees (λ l. l.0) (net_of search grids) (from_mask_cell (sized search grids.times) origin)
  unfolding net_of
  mask_cell_agrees origin rule = rw rule (simulated (mask_cell_simulated origin))

  pub amount_agrees :
      (origin : ℕ) → search.rule ≡ FromAmount origin → Agrees (λ l. l.0) (net_of search grids) (from_amount (sized search grids.times) search.limit origin)
  unfolding net_of
  amount_agrees origin rule = rw rule (simulated (amount_simulated origin))

  -- Here the rules' net is the very net.
  pub closest_same : search.rule ≡ Closest → net_of search grids ≡ closest (sized search grids.targets) (sized search grids.values)
  unfolding net_of
  closest_same rule = rw rule

-- The rules' net for a search takes no more than b cells.
abbrev pub RulesWithin : ℕ → Rule → Search → Grids → Type 0
RulesWithin b Plain search grids = Within b (plain (sized search grids.targets) search.limit)
RulesWithin b (Obstacles diagonals) search grids = Within b (with_obstacles (sized search grids.targets) (sized search grids.obstacles) diagonals)
RulesWithin b HalfSum search grids = Within b (travel (sized search grids.targets) (sized search grids.times) search.limit)
RulesWithin b Closest search grids = Within b (closest (sized search grids.targets) (sized search grids.values))
RulesWithin b ByTime search grids =
    Within b (closest_by_time (sized search grids.targets) (sized search grids.times) (sized search grids.values) search.limit)
RulesWithin b (FromMaskCell origin) search grids = Within b (from_mask_cell (sized search grids.times) origin)
RulesWithin b (FromAmount origin) search grids = Within b (from_amount (sized search grids.times) search.limit origin)

-- Then neither does the net that the loop works.
pub takes_within : (b : ℕ) (search : Search) (grids : Grids) → RulesWithin b search.rule search grids → Within b (net_of search grids)
unfolding net_of
takes_within b search grids = by_rule search.rule
  where
    by_rule : (rule : Rule) → RulesWithin b rule search grids → Within b (net_by rule search grids)
    by_rule Plain = within_too b (simulated (plain_simulated search grids))
    by_rule (Obstacles diagonals) = within_too b (simulated (obstacles_simulated search grids diagonals))
    by_rule HalfSum = within_too b (simulated (half_sum_simulated search grids))
    by_rule Closest = λ within. within
    by_rule ByTime = within_too b (simulated (by_time_simulated search grids))
    by_rule (FromMaskCell origin) = within_too b (simulated (mask_cell_simulated search grids origin))
    by_rule (FromAmount origin) = within_too b (simulated (amount_simulated search grids origin))
