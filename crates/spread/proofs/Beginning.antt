-- How a search begins, by each rule and cell by cell, and that it begins in the net's first state. Assumes nothing.
use mathlib.Core.Bool.{Bool, true, false, cond}
use mathlib.Core.List.{List, [], ◌∷◌, ◌++◌}
use mathlib.Core.Logic.{⊎_elim}
use mathlib.Core.Path.{◌≡◌, refl, sym, ap, ◌∙◌, subst}
use Prim.Native.Nat.{ℕ, suc, ◌+◌, ◌≤◌, ◌<◌}
use native.Mathlib.Nat.{zero-add}
use native.Mathlib.Omega.{arith}
use lib.Ieee.{Float}
use lib.ListN.{length, set, length-set}
use Rattle.cells.specs.Ring.{NewRing}
use Rattle.cells.specs.declared.ring.Ring.{Ring}
use Rattle.fifo.specs.Machine.{table, passing, initial}
use Rattle.fifo.proofs.Lists.{same_or_not}
use Rattle.fifo.proofs.Ranges.{table_same, passing_none, passing_last}
use Rattle.rules.specs.declared.BarrierDiagonals.{BarrierDiagonals}
use Rattle.rules.specs.Numbers.{infinity, whole}
use Rattle.rules.specs.Sizes.{count}
use Rattle.rules.specs.Values.{Carried}
use Rattle.spread.specs.declared.search.Rule.{Rule}
use Rattle.spread.specs.declared.search.Rule.TheVariants.{Plain, Obstacles, HalfSum, Closest, ByTime}
use Rattle.spread.specs.declared.search.Search.{Search}
use Rattle.spread.specs.declared.first.First.{First}
use Rattle.spread.specs.Nets.{carries, reads_targets, reads_times, labels_of}
use Rattle.spread.specs.Buffers.{Buffers, buffers, Good, Holds, carried_on}
use Rattle.spread.specs.First.{net_on, FirstOf, from_travel_targets, from_closest_targets, FirstFrom}
use Rattle.spread.specs.Begin.{Lengths, Begun, BeginsCell, BeganCell, BeganTo, Begins, BeginsEach}
use Rattle.spread.proofs.Labels.{held, held_here, held_elsewhere, length_carried_on, not_carried_on}
use Rattle.spread.proofs.Lengths.{carried_length_kept}
use Rattle.spread.proofs.Rules.{cells_are}
use Rattle.spread.proofs.Firsts.{plain_first, obstacles_first, half_sum_first, closest_first, by_time_first}

-- ---- by each rule

module _ {search : Search} {targets : List ℕ} {times values distances carried : List Float} {marks queue : List ℕ} (begins : Begins search targets times values distances carried marks queue) where
  -- The grids that are looked at are lent, since the rule reads them.
  begins_as :
      {rule : Rule} {from : ℕ} {cap : Float}
      → search.rule ≡ rule → reads_targets rule ≡ true → (from ≡ from_travel_targets → reads_times rule ≡ true) → (from_closest_targets ≤ from → carries rule ≡ true)
      → ((c : ℕ) (first : First) → FirstFrom from cap targets times values c first → FirstOf search targets times values c first)
      → BeginsEach search from (carries rule) cap targets times values distances carried marks queue
  begins_as is_rule targeted timed valued firsts = record {
    bounds = begins.inputs.bounds;
    lengths = begins.lengths;
    carrying_is = ap carries (sym is_rule);
    reads = λ c inside. record {
      target = rw (begins.inputs.targets_length (ap reads_targets is_rule ∙ targeted)) inside;
      time = λ travel. rw (begins.inputs.times_length (ap reads_times is_rule ∙ timed travel)) inside;
      value = λ some. rw (begins.inputs.values_length (ap carries is_rule ∙ valued some)) inside;
    };
    firsts = firsts;
  }

  pub begins_plain : search.rule ≡ Plain → BeginsEach search 0 false search.limit targets times values distances carried marks queue
  begins_plain rule =
      begins_as rule refl (λ p. absurd (omega arith)) (λ p. absurd (omega arith)) (λ c first. plain_first search targets times values c rule)

  pub begins_obstacles :
      {diagonals : BarrierDiagonals} {cap : Float} → search.rule ≡ Obstacles diagonals → cap ≡ infinity
      → BeginsEach search 1 false cap targets times values distances carried marks queue
  begins_obstacles rule capped =
      begins_as rule refl (λ p. absurd (omega arith)) (λ p. absurd (omega arith)) (λ c first. obstacles_first search targets times values c rule capped)

  pub begins_half_sum : search.rule ≡ HalfSum → BeginsEach search 2 false search.limit targets times values distances carried marks queue
  begins_half_sum rule = begins_as rule refl (λ p. refl) (λ p. absurd (omega arith)) (λ c first. half_sum_first search targets times values c rule)

  pub begins_closest :
      {cap : Float} → search.rule ≡ Closest → cap ≡ whole (suc (count search.size))
      → BeginsEach search 3 true cap targets times values distances carried marks queue
  begins_closest rule capped =
      begins_as rule refl (λ p. absurd (omega arith)) (λ p. refl) (λ c first. closest_first search targets times values c rule capped)

  pub begins_by_time : search.rule ≡ ByTime → BeginsEach search 4 true search.limit targets times values distances carried marks queue
  begins_by_time rule = begins_as rule refl (λ p. refl) (λ p. refl) (λ c first. by_time_first search targets times values c rule)

-- ---- one cell

module _
    {search : Search} {from : ℕ} {carrying : Bool} {cap : Float} {targets : List ℕ} {times values distances carried : List Float} {marks queue : List ℕ}
    (each : BeginsEach search from carrying cap targets times values distances carried marks queue)
    {cell : ℕ} {b : Buffers} (begun : Begun search targets times values cell b) (inside : cell < count search.size)
  where
    distance_inside : cell < length b.distances
    distance_inside = rw begun.lengths.distances_length inside

    value_inside : carries search.rule ≡ true → cell < length b.carried
    value_inside carries_one = rw (begun.lengths.carried_length carries_one) inside

    pub begins_cell : BeginsCell from carrying targets times values cell b
    begins_cell = record {
      reads = each.reads cell inside;
      distance_inside = distance_inside;
      value_inside = λ carries_one. value_inside (sym each.carrying_is ∙ carries_one);
      waits = record { waits = begun.waits; inside = rw begun.lengths.marks_length inside };
    }

    -- The cell gets its label, and waits if it starts: the labels and the waiting cells are the net's, one cell further. Proof: the label at the
    -- cell is the one that was stored, at an earlier cell the one that was there; and the starting cells up to the next are those up to this
    -- one, with this one behind them if it starts.
    pub cell_begun : {after : Buffers} → BeganCell from carrying cap targets times values cell b after → BeganTo search targets times values (cell + 1) b.carried after
    cell_begun {after} began = record {
      begun = record {
        lengths = record {
          distances_length = ap length began.distances_are ∙ length-set b.distances cell first.distance ∙ begun.lengths.distances_length;
          carried_length = λ carries_one. ap length carries_on ∙ length_carried_on (carries search.rule) cell first.value b.carried ∙ begun.lengths.carried_length carries_one;
          marks_length = began.began.same_length ∙ begun.lengths.marks_length;
          queue_length = began.began.waits.slots ∙ ap suc (began.began.same_length ∙ begun.lengths.marks_length);
        };
        waits = began.began.waits;
        labels = λ obstacles c below.
            ap (λ l. held search l after.carried c) began.distances_are
            ∙ ap (λ l. held search (set b.distances cell first.distance) l c) carries_on
            ∙ ⊎_elim (at_cell obstacles c) (elsewhere obstacles c below) (same_or_not c cell);
        waiting = λ obstacles.
            began.began.added
            ∙ ap (λ l. l ++ cond first.starts (cell ∷ []) []) (begun.waiting obstacles)
            ∙ ap (λ s. passing (net_on search targets obstacles times values).start 0 cell ++ cond s (cell ∷ []) []) (is_first.starts obstacles)
            ∙ sym (passing_last (net_on search targets obstacles times values).start cell);
      };
      kept = λ no_value. carries_on ∙ not_carried_on (carries search.rule) cell first.value b.carried no_value;
    }
      where
        first : First
        first = began.first

        is_first : FirstOf search targets times values cell first
        is_first = each.firsts cell first began.is_first

        carries_on : after.carried ≡ carried_on search.rule cell first.value b.carried
        carries_on = began.carried_is ∙ ap (λ along. cond along (set b.carried cell first.value) b.carried) each.carrying_is

        now : ℕ → Carried
        now = held search (set b.distances cell first.distance) (carried_on search.rule cell first.value b.carried)

        at_cell : (obstacles : List ℕ) (c : ℕ) → c ≡ cell → now c ≡ (net_on search targets obstacles times values).first c
        at_cell obstacles c p =
            subst (λ at. now at ≡ (net_on search targets obstacles times values).first at) (sym p)
            (held_here search b.distances b.carried cell first.distance first.value distance_inside value_inside ∙ is_first.label obstacles)

        elsewhere : (obstacles : List ℕ) (c : ℕ) → c < cell + 1 → (c ≡ cell → ⊥) → now c ≡ (net_on search targets obstacles times values).first c
        elsewhere obstacles c below other =
            held_elsewhere search b.distances b.carried cell first.distance first.value c other ∙ begun.labels obstacles c (omega (arith, other))

-- ---- all cells

module _ {search : Search} {targets : List ℕ} {times values distances carried : List Float} {marks queue : List ℕ} (lengths : Lengths search distances carried marks queue) where
  -- Before the first cell nothing is asked of the buffers.
  pub none_begun : {ring : Ring} → NewRing ring → BeganTo search targets times values 0 carried (buffers distances carried marks queue ring)
  none_begun {ring} new = record {
    begun = record {
      lengths = lengths;
      waits = record {
        few = omega arith;
        slots = lengths.queue_length ∙ ap suc (sym lengths.marks_length);
        in_slots = new.good queue (rw lengths.queue_length (omega arith));
        single = rw (new.empty queue) tt;
        inside = λ c i. absurd (rw (new.empty queue) at i);
        marked = λ c below. absurd (omega arith);
      };
      labels = λ obstacles c below. absurd (omega arith);
      waiting = λ obstacles. new.empty queue ∙ sym (passing_none (net_on search targets obstacles times values).start 0 0 (λ c low high. absurd (omega arith)));
    };
    kept = λ no_value. refl;
  }

  pub same_carried_length : {i : ℕ} {b : Buffers} → BeganTo search targets times values i carried b → length b.carried ≡ length carried
  same_carried_length began = carried_length_kept search.rule lengths.carried_length began.begun.lengths.carried_length began.kept

-- When every cell has begun, the buffers are in good order and hold the net's first state.
module _ {search : Search} {targets : List ℕ} {times values : List Float} {b : Buffers} (begun : Begun search targets times values (count search.size) b) where
  pub begun_good : Good search b
  begun_good = record {
    distances_length = begun.lengths.distances_length;
    carried_length = begun.lengths.carried_length;
    marks_length = begun.lengths.marks_length;
    waits = begun.waits;
  }

  pub begun_initial : (obstacles : List ℕ) → Holds search (initial (net_on search targets obstacles times values)) b
  unfolding initial labels_of
  begun_initial obstacles =
      let net = net_on search targets obstacles times values in
      record {
        labels =
            ap (table net.first 0) (cells_are targets obstacles times values search)
            ∙ sym (table_same (held search b.distances b.carried) net.first 0 (count search.size) (λ c low high. begun.labels obstacles c (rw zero-add at high)));
        waiting = ap (passing net.start 0) (cells_are targets obstacles times values search) ∙ sym (begun.waiting obstacles);
      }

-- What was kept up to one cell is kept up to the next.
pub began_on :
    {search : Search} {targets : List ℕ} {times values carried : List Float} {i j : ℕ} {b after : Buffers}
    → BeganTo search targets times values i carried b → BeganTo search targets times values j b.carried after → BeganTo search targets times values j carried after
began_on first then = record { begun = then.begun; kept = λ no_value. then.kept no_value ∙ first.kept no_value }
