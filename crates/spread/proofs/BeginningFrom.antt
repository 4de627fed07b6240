-- A search from one cell begins: where no cell is reached, the one cell is set. Assumes nothing.
use mathlib.Core.Bool.{Bool, true, false, not, cond, ◌&&◌}
use mathlib.Core.List.{List, [], ◌∷◌}
use mathlib.Core.Path.{◌≡◌, refl, sym, ap, ◌∙◌, subst}
use Prim.Native.Nat.{ℕ, suc, ◌≤◌, ◌<◌}
use native.Mathlib.Omega.{arith}
use borrow.Author.Tests.{eq-eqb, ne_eqb}
use lib.Dec.{eqb}
use lib.Ieee.{Float, nan, binary32, add}
use lib.ListN.{length, get_or, set, replicate, length-set, length-replicate, get_or-replicate}
use Rattle.binary32.specs.Nodata.{nodata}
use Rattle.binary32.specs.Numbers.{plus_zero, one}
use Rattle.cells.specs.Ring.{NewRing}
use Rattle.cells.specs.declared.ring.Ring.{Ring}
use Rattle.fifo.specs.Machine.{among, passing, joined}
use Rattle.fifo.proofs.Lists.{after_set}
use Rattle.fifo.proofs.Ranges.{passing_same, passing_none, passing_one}
use Rattle.rules.specs.Numbers.{infinity}
use Rattle.rules.specs.Sizes.{count}
use Rattle.rules.specs.Sums.{from_mask_cell, from_amount}
use Rattle.rules.specs.Values.{Carried}
use Rattle.spread.specs.declared.search.Rule.{Rule}
use Rattle.spread.specs.declared.search.Rule.TheVariants.{FromMaskCell, FromAmount}
use Rattle.spread.specs.declared.search.Search.{Search}
use Rattle.spread.specs.Nets.{net_of, carries, reads_times}
use Rattle.spread.specs.Waiting.{Waiting, Unmarked, Joining, Joined}
use Rattle.spread.specs.Buffers.{buffers}
use Rattle.spread.specs.First.{net_on}
use Rattle.spread.specs.Begin.{BeganTo, Begins, BeginsFrom, BeganFrom, Clear, BeginsAt, BeganAt}

-- ---- the one cell

abbrev starts_at : ℕ → List Float → ℕ → Bool
starts_at origin times c = eqb c origin && not (nodata (get_or times c nan))

-- Nothing waits where no cell is marked and the ring is new.
nothing_waits : {n : ℕ} {marks queue : List ℕ} {ring : Ring} → NewRing ring → length marks ≡ n → Unmarked n marks → length queue ≡ suc n → Waiting n marks queue ring
unfolding among
nothing_waits {n} {marks} {queue} {ring} new long unmarked slots = record {
  few = omega arith;
  slots = slots ∙ ap suc (sym long);
  in_slots = new.good queue (rw slots (omega arith));
  single = rw (new.empty queue) tt;
  inside = λ c i. absurd (rw (new.empty queue) at i);
  marked = λ c below. rw (new.empty queue) (unmarked c below);
}

-- Where all are filled, no cell is reached.
pub all_clear :
    {n : ℕ} {cap : Float} {filled : List Float} (marks : List ℕ) {cleared : List ℕ} → length marks ≡ n → filled ≡ replicate n cap → cleared ≡ replicate (length marks) 0
    → Clear n cap filled cleared
all_clear {n} marks long Filled_is cleared_is =
    let cleared_all = cleared_is ∙ ap (λ k. replicate k 0) long in
    record {
      unreached = Filled_is;
      marks_length = ap length cleared_all ∙ length-replicate n 0;
      unmarked = λ c below. ap (λ m. eqb m 1) (ap (λ l. get_or l c 0) cleared_all ∙ get_or-replicate n c 0 0 below);
    }

module _ (origin : ℕ) {times distances : List Float} {marks queue : List ℕ} (begins : BeginsAt times distances marks queue) {ring : Ring} (new : NewRing ring) where
  marks_long : length marks ≡ length distances
  marks_long = begins.clear.1.marks_length

  none_wait : Waiting (length distances) marks queue ring
  none_wait = nothing_waits new marks_long begins.clear.1.unmarked begins.queue_length

  pub origin_joins : origin < length distances → Joining origin marks queue ring
  origin_joins below = record { waits = subst (λ k. Waiting k marks queue ring) (sym marks_long) none_wait; inside = rw marks_long below }

  other_fails : (c : ℕ) → (c ≡ origin → ⊥) → starts_at origin times c ≡ false
  other_fails c other = rw (ne_eqb c origin other)

  held : (cap : Float) → Clear (length distances) cap distances marks → (c : ℕ) → c < length distances → get_or distances c nan ≡ cap
  held cap clear c below = ap (λ l. get_or l c nan) clear.unreached ∙ get_or-replicate (length distances) c cap nan below

  -- Any other cell holds the cap still.
  set_there :
      origin < length distances → (cap : Float) → Clear (length distances) cap distances marks
      → (c : ℕ) → c < length distances → get_or (set distances origin plus_zero) c nan ≡ cond (eqb c origin) plus_zero cap
  set_there below cap clear c c_below =
      after_set (λ d. d ≡ cond (eqb c origin) plus_zero cap) distances origin plus_zero nan c below (λ same. rw (eq-eqb c origin same))
      (λ other. rw (ne_eqb c origin other) (held cap clear c c_below))

  origin_starts : {answer : Bool} → answer ≡ nodata (get_or times origin nan) → starts_at origin times origin ≡ not answer
  origin_starts says = rw (eq-eqb origin origin refl) (ap not (sym says))

  -- The cell alone starts, if its time has data.
  origin_alone :
      origin < length distances → {answer : Bool} → answer ≡ nodata (get_or times origin nan)
      → passing (starts_at origin times) 0 (length distances) ≡ cond (not answer) (origin ∷ []) []
  origin_alone below says =
      passing_one (starts_at origin times) origin 0 (length distances) (omega arith) (omega arith) other_fails ∙ ap (λ b. cond b (origin ∷ []) []) (origin_starts says)

  -- The cell waits: its time has data.
  pub origin_waits :
      origin < length distances → {answer : Bool} → answer ≡ nodata (get_or times origin nan) → answer ≡ false
      → {marks' queue' : List ℕ} {ring' : Ring} → Joined origin marks queue ring marks' queue' ring'
      → BeganAt origin times distances marks queue (set distances origin plus_zero) marks' queue' ring'
  unfolding joined among
  origin_waits below says has_data {marks'} {queue'} {ring'} joins = record {
    from = λ cap clear. record {
      distances_are = set_there below cap clear;
      waits = subst (λ k. Waiting k marks' queue' ring') marks_long joins.waits;
      waiting = joins.added ∙ ap (joined origin) (new.empty queue) ∙ sym (origin_alone below says ∙ ap (λ b. cond (not b) (origin ∷ []) []) has_data);
      same_distances = length-set distances origin plus_zero;
      same_marks = joins.same_length;
      same_queue = joins.waits.slots ∙ ap suc (joins.same_length ∙ marks_long) ∙ sym begins.queue_length;
    };
  }

  -- It does not: its time is nodata.
  pub began_idle :
      origin < length distances → {answer : Bool} → answer ≡ nodata (get_or times origin nan) → answer ≡ true
      → BeganAt origin times distances marks queue (set distances origin plus_zero) marks queue ring
  began_idle below says no_data = record {
    from = λ cap clear. record {
      distances_are = set_there below cap clear;
      waits = none_wait;
      waiting = new.empty queue ∙ sym (origin_alone below says ∙ ap (λ b. cond (not b) (origin ∷ []) []) no_data);
      same_distances = length-set distances origin plus_zero;
      same_marks = refl;
      same_queue = refl;
    };
  }

  -- It is no cell of the grid.
  pub began_nowhere : length distances ≤ origin → BeganAt origin times distances marks queue distances marks queue ring
  began_nowhere past = record {
    from = λ cap clear. record {
      distances_are = λ c below. rw (ne_eqb c origin (λ p. omega arith)) (held cap clear c below);
      waits = none_wait;
      waiting = new.empty queue ∙ sym (passing_none (starts_at origin times) 0 (length distances) (λ c low high. other_fails c (λ p. omega arith)));
      same_distances = refl;
      same_marks = refl;
      same_queue = refl;
    };
  }

-- ---- the one cell, whatever the buffers held

module _
    {origin : ℕ} {cap : Float} {times distances : List Float} {marks queue : List ℕ} (begins : BeginsFrom origin times distances marks queue)
    {filled : List Float} {cleared : List ℕ} (clear : Clear (length distances) cap filled cleared)
  where
    filled_long : length filled ≡ length distances
    filled_long = ap length clear.unreached ∙ length-replicate (length distances) cap

    clear_there : Clear (length filled) cap filled cleared
    clear_there = subst (λ n. Clear n cap filled cleared) (sym filled_long) clear

    pub begins_at : BeginsAt times filled cleared queue
    begins_at = record {
      times_length = begins.times_length ∙ sym filled_long;
      queue_length = begins.queue_length ∙ ap suc (sym filled_long);
      clear = (cap, clear_there);
    }

    pub began_from :
        {distances' : List Float} {marks' queue' : List ℕ} {ring : Ring} → BeganAt origin times filled cleared queue distances' marks' queue' ring
        → BeganFrom origin cap times distances marks queue distances' marks' queue' ring
    began_from {distances'} {marks'} {queue'} {ring} began =
        let at = began.from cap clear_there in
        record {
          distances_are = λ c below. at.distances_are c (rw filled_long below);
          waits = subst (λ n. Waiting n marks' queue' ring) filled_long at.waits;
          waiting = at.waiting ∙ ap (passing (starts_at origin times) 0) filled_long;
          same_distances = at.same_distances ∙ filled_long;
          same_marks = at.same_marks ∙ clear.marks_length ∙ sym begins.marks_length;
          same_queue = at.same_queue;
        }

-- ---- the search

module _
    {search : Search} {targets : List ℕ} {times values distances carried : List Float} {marks queue : List ℕ}
    (begins : Begins search targets times values distances carried marks queue)
  where
    same_grid : count search.size ≡ length distances
    same_grid = sym begins.lengths.distances_length

    pub begins_from : {rule : Rule} → search.rule ≡ rule → reads_times rule ≡ true → (origin : ℕ) → BeginsFrom origin times distances marks queue
    begins_from is_rule timed origin = record {
      times_length = begins.inputs.times_length (ap reads_times is_rule ∙ timed) ∙ same_grid;
      marks_length = begins.lengths.marks_length ∙ same_grid;
      queue_length = begins.lengths.queue_length ∙ ap suc same_grid;
    }

    module _
        {origin : ℕ} {cap : Float} {distances' : List Float} {marks' queue' : List ℕ} {ring : Ring}
        (began : BeganFrom origin cap times distances marks queue distances' marks' queue' ring)
      where
        began_as :
            carries search.rule ≡ false
            → ((obstacles : List ℕ) (c : ℕ) → ◌≡◌ {A = Carried} (cond (eqb c origin) plus_zero cap, nan) ((net_on search targets obstacles times values).first c))
            → ((obstacles : List ℕ) (c : ℕ) → starts_at origin times c ≡ (net_on search targets obstacles times values).start c)
            → BeganTo search targets times values (count search.size) carried (buffers distances' carried marks' queue' ring)
        began_as no_value firsts starts = record {
          begun = record {
            lengths = record {
              distances_length = began.same_distances ∙ begins.lengths.distances_length;
              carried_length = begins.lengths.carried_length;
              marks_length = began.same_marks ∙ begins.lengths.marks_length;
              queue_length = began.same_queue ∙ begins.lengths.queue_length;
            };
            waits = subst (λ k. Waiting k marks' queue' ring) (sym same_grid) began.waits;
            labels = λ obstacles c below. rw no_value (ap (λ d. (d, nan)) (began.distances_are c (rw same_grid at below)) ∙ firsts obstacles c);
            waiting = λ obstacles.
                began.waiting
                ∙ ap (passing (starts_at origin times) 0) (sym same_grid)
                ∙ passing_same (starts_at origin times) (net_on search targets obstacles times values).start (starts obstacles) 0 (count search.size);
          };
          kept = λ none. refl;
        }

        pub began_mask_cell : search.rule ≡ FromMaskCell origin → cap ≡ infinity → BeganTo search targets times values (count search.size) carried (buffers distances' carried marks' queue' ring)
        unfolding net_of from_mask_cell
        began_mask_cell from capped =
            began_as (ap carries from) (λ obstacles c. rw from (ap (λ most. (cond (eqb c origin) plus_zero most, nan)) capped)) (λ obstacles c. rw from refl)

        pub began_amount :
            search.rule ≡ FromAmount origin → cap ≡ add binary32 search.limit one
            → BeganTo search targets times values (count search.size) carried (buffers distances' carried marks' queue' ring)
        unfolding net_of from_amount
        began_amount from capped =
            began_as (ap carries from) (λ obstacles c. rw from (ap (λ most. (cond (eqb c origin) plus_zero most, nan)) capped)) (λ obstacles c. rw from refl)
