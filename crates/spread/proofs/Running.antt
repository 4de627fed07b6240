-- The whole run: the buffers hold what the machine's run holds, take by take, until nothing waits. Assumes nothing.
use mathlib.Core.Bool.{Bool, true, false, not}
use mathlib.Core.List.{List, [], ◌∷◌}
use mathlib.Core.Logic.{⊎_elim}
use mathlib.Core.Path.{◌≡◌, refl, sym, ap, ◌∙◌, subst}
use Prim.Native.Nat.{ℕ, suc, ◌+◌, ◌-◌, ◌*◌, ◌<◌}
use native.Mathlib.Nat.{mul-le-mul, lt_of_le_of_lt}
use native.Mathlib.Omega.{arith}
use borrow.Author.Tests.{not-true, not-false}
use lib.Dec.{T, lit<}
use lib.Ieee.{Float}
use mir.Syntax.{w64}
use mir.Val.{Fits}
use Rattle.cells.specs.Ring.{contents, none, SaysEmpty}
use Rattle.cells.proofs.Bounds.{bounded}
use Rattle.fifo.specs.Machine.{Net, among, initial, run, takes}
use Rattle.fifo.proofs.Induction.{run_zero, takes_zero}
use Rattle.fifo.proofs.Lists.{true_or_false, empty_or_not}
use Rattle.fifo.proofs.Runs.{run_last, takes_last}
use Rattle.rules.specs.declared.Size.{Size}
use Rattle.rules.specs.Sizes.{in_bounds, count}
use Rattle.rules.specs.Values.{Carried}
use Rattle.spread.specs.declared.search.Search.{Search}
use Rattle.spread.specs.declared.take.TakenCell.{TakenCell}
use Rattle.spread.specs.Nets.{Grids, carries}
use Rattle.spread.specs.Buffers.{Buffers, Good, Holds}
use Rattle.spread.specs.Steps.{Terrain, terrain}
use Rattle.spread.specs.First.{net_on}
use Rattle.spread.specs.Begin.{BeganTo}
use Rattle.spread.specs.Loop.{Setting, Taking, TookCell, Ready, Running, Ran}
pub use Rattle.spread.specs.Loop.{Turn}
use Rattle.spread.specs.Promise.{grids, Spreads, Spread}
use Rattle.spread.proofs.Lengths.{carried_length_kept}
use Rattle.spread.proofs.Rules.{cells_are, follows}
use Rattle.spread.proofs.Beginning.{begun_good, begun_initial}
use Rattle.spread.proofs.Finishing.{finishes}

-- The square of the number of cells fits in 64 bits.
pub square_fits : (size : Size) → T (in_bounds size) → {n : ℕ} → n ≡ count size → Fits w64 (n * n)
square_fits size bounds counted = let most = (bounded size bounds).cells_most in rw counted (record { fits = lt_of_le_of_lt (mul-le-mul most most) (lit< tt) })

-- Where nothing waits after so many takes, the loop has run.
pub ended_turn :
    {search : Search} {ground : Terrain} {before b : Buffers} {r : ℕ} → Turn search ground before b r → contents b.queue b.ring ≡ []
    → Ran search ground before b.distances b.carried b.marks b.queue r
unfolding among
ended_turn turn none_waits = record {
  lengths = record {
    distances_length = turn.good.distances_length;
    carried_length = turn.good.carried_length;
    marks_length = turn.good.marks_length;
    queue_length = turn.good.waits.slots ∙ ap suc turn.good.marks_length;
  };
  ended = λ net ready. record {
    all = (turn.taken net ready).all;
    stopped = (turn.taken net ready).holds.waiting ∙ none_waits;
    labels = (turn.taken net ready).holds.labels;
  };
  unmarked = λ c below. turn.good.waits.marked c below ∙ ap (among c) none_waits;
  kept = turn.kept;
}

module _ {search : Search} {ground : Terrain} {before : Buffers} where
  pub no_turn : Good search before → Turn search ground before before 0
  no_turn good = record {
    good = good;
    taken = λ net ready. record { holds = subst (λ s. Holds search s before) (sym (run_zero net (initial net))) ready.holds; all = takes_zero net (initial net) };
    kept = λ no_value. refl;
  }

  module _ {b : Buffers} {r : ℕ} (turn : Turn search ground before b r) {answer : Bool} (empty : SaysEmpty b.ring answer) where
    told : answer ≡ none (contents b.queue b.ring)
    told = empty.says b.queue turn.good.waits.in_slots

    -- The loop's test is that the ring is not empty.
    module _ (something : not answer ≡ true) where
      pub head_waits : (u : ℕ) × (ws : List ℕ) × (contents b.queue b.ring ≡ u ∷ ws)
      head_waits = ⊎_elim (λ nothing. absurd (true_or_false (told ∙ ap none nothing) (not-true answer something))) (λ some. some) (empty_or_not (contents b.queue b.ring))

      pub turn_takes : Setting search ground → Taking search ground b
      turn_takes setting = record { good = turn.good; setting = setting; some = rw head_waits.2 (omega arith) }

      -- The machine has something to take too, so that a take more is made.
      more : (net : Net Carried) → Ready search ground net before → takes net (r + 1) (initial net) ≡ r + 1
      more net ready = takes_last net r (initial net) head_waits.0 head_waits.1 ((turn.taken net ready).holds.waiting ∙ head_waits.2)

      -- So the bound on the takes is not met yet: one more is counted in 64 bits, where the square fits, and the loop's measure falls.
      pub take_counted :
          Running search ground before
          → Fits w64 (r + 1) × (count search.size * count search.size - (r + 1) < count search.size * count search.size - r)
      take_counted runs =
          let (net, ready) = runs.ready in
          let made = more net ready in
          let bound = ready.within (r + 1) in
          let square = (square_fits search.size runs.setting.bounds refl).fits in
          (record { fits = omega arith }, omega arith)

      -- The take is the machine's next one. Proof: the buffers hold the state after r takes, in which the same cells wait, so that the code's
      -- take leads to the state that the machine's take leads to, and that is the state after r + 1 takes.
      pub next_turn : {after : Buffers} {taken : TakenCell} → TookCell search ground b after taken → Turn search ground before after (r + 1)
      next_turn {after} took = record {
        good = took.good;
        taken = λ net ready.
            let (u, ws, is_head) = head_waits in
            let waiting = (turn.taken net ready).holds.waiting ∙ is_head in
            record {
              holds =
                  subst (λ s. Holds search s after) (sym (run_last net r (initial net) u ws waiting))
                  (took.holds net ready.follows (run net r (initial net)) (turn.taken net ready).holds u ws waiting);
              all = more net ready;
            };
        kept = λ no_value. took.kept no_value ∙ turn.kept no_value;
      }

    -- Where the answer is that it is empty, nothing waits.
    pub none_left : answer ≡ true → contents b.queue b.ring ≡ []
    none_left nothing = ⊎_elim (λ empty. empty) (λ (u, ws, some). absurd (true_or_false nothing (told ∙ ap none some))) (empty_or_not (contents b.queue b.ring))

    -- Then the loop has run.
    pub ran : not answer ≡ false → Ran search ground before b.distances b.carried b.marks b.queue r
    ran nothing = ended_turn turn (none_left (not-false answer nothing))

-- ---- from the beginning to the end

module _
    {search : Search} {targets obstacles : List ℕ} {times values distances carried : List Float} {marks queue : List ℕ}
    (spreads : Spreads search (grids targets obstacles times values) distances carried marks queue)
    {begun : Buffers} (began : BeganTo search targets times values (count search.size) carried begun)
  where
    pub begun_ready : Ready search (terrain obstacles times) (net_on search targets obstacles times values) begun
    begun_ready = record { follows = follows targets obstacles times values search; holds = begun_initial began.begun obstacles; within = spreads.within }

    pub begun_runs : Running search (terrain obstacles times) begun
    begun_runs = record { good = begun_good began.begun; setting = spreads.setting; ready = (net_on search targets obstacles times values, begun_ready) }

    pub spread_ends :
        {distances' carried' : List Float} {marks' queue' : List ℕ} {r : ℕ} → Ran search (terrain obstacles times) begun distances' carried' marks' queue' r
        → Spread search (grids targets obstacles times values) carried distances' carried' marks' queue' r
    spread_ends {distances'} {carried'} {marks'} {queue'} {r} runs =
        let net = net_on search targets obstacles times values in
        let kept : carries search.rule ≡ false → carried' ≡ carried = λ no_value. runs.kept no_value ∙ began.kept no_value in
        let finished = finishes (cells_are targets obstacles times values search) spreads.within (runs.ended net begun_ready) in
        record {
          labels = finished.labels;
          counted = finished.counted;
          lengths = runs.lengths;
          same_length = carried_length_kept search.rule spreads.lengths.carried_length runs.lengths.carried_length kept;
          kept = kept;
        }

-- The same of what the buffers hold when the loans have ended.
pub spread_lent :
    {search : Search} {all : Grids} {carried : List Float} {d d' c c' : List Float} {m m' q q' : List ℕ} {r : ℕ}
    → d' ≡ d → c' ≡ c → m' ≡ m → q' ≡ q → Spread search all carried d c m q r → Spread search all carried d' c' m' q' r
spread_lent ds cs ms qs spread = rw (ds, cs, ms, qs) spread
