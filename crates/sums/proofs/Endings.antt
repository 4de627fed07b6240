-- The beginning of a loop that takes one cell at a time, and its end in the words of the rules' net. Assumes nothing.
use mathlib.Core.Bool.{Bool, true, false}
use mathlib.Core.List.{List, [], map}
use mathlib.Core.Path.{◌≡◌, sym, ap, ◌∙◌}
use Prim.Native.Nat.{ℕ, suc, ◌*◌}
use lib.Ieee.{Float}
use lib.ListN.{length}
use Rattle.fifo.specs.Machine.{Net, initial, trace, finish, takes_of}
use Rattle.fifo.specs.Simulation.{Agrees}
use Rattle.fifo.proofs.Lists.{true_or_false}
use Rattle.rules.specs.Sizes.{count}
use Rattle.rules.specs.Values.{Carried}
use Rattle.spread.specs.declared.search.Search.{Search}
use Rattle.spread.specs.Nets.{avoids, carries, reads_targets}
use Rattle.spread.specs.Steps.{terrain}
use Rattle.spread.specs.Buffers.{Buffers}
use Rattle.spread.specs.First.{net_on}
use Rattle.spread.specs.Begin.{Begins, BeganTo}
use Rattle.spread.specs.Loop.{taken_at, Ran}
use Rattle.spread.specs.Promise.{grids, Spreads}
use Rattle.spread.proofs.Rules.{cells_are}
use Rattle.spread.proofs.Finishing.{finishes}
use Rattle.spread.proofs.Running.{begun_ready, spread_ends}
use Rattle.spread.proofs.Results.{WithinSquare, spreads_where, distances_are}
use Rattle.sums.specs.Ways.{Ways}

-- A rule that reads the times alone, and with which nothing goes along, spreads from any start.
pub spreads_by_times :
    (search : Search) {times distances : List Float} {marks queue : List ℕ} {from : ℕ → Net Float} (targets obstacles : List ℕ) (values carried : List Float)
    → reads_targets search.rule ≡ false → carries search.rule ≡ false → avoids search.rule ≡ false
    → Ways search.size times from → length distances ≡ count search.size → length marks ≡ count search.size → length queue ≡ suc (count search.size)
    → WithinSquare search (grids targets obstacles times values) → Spreads search (grids targets obstacles times values) distances carried marks queue
spreads_by_times search targets obstacles values carried no_targets no_value no_obstacles ways distances_long marks_long queue_long =
    spreads_where (record { bounds = ways.bounds; targets_length = never no_targets; times_length = λ reads. ways.times_length; values_length = never no_value })
    (never no_obstacles) (record { distances_length = distances_long; carried_length = never no_value; marks_length = marks_long; queue_length = queue_long })
  where
    never : {A : Type 0} {b : Bool} → b ≡ false → b ≡ true → A
    never is_not is = absurd (true_or_false is is_not)

-- What is ready to spread is ready to begin.
pub spreads_begin :
    {search : Search} {targets obstacles : List ℕ} {times values distances carried : List Float} {marks queue : List ℕ}
    → Spreads search (grids targets obstacles times values) distances carried marks queue → Begins search targets times values distances carried marks queue
spreads_begin spreads = record { inputs = spreads.inputs; lengths = spreads.lengths }

-- The net's search took r cells, these, and ended with these distances.
pub record EndsAs (net : Net Float) (taken : List (ℕ × Float)) (distances : List Float) (r : ℕ) : Type 0 where
  pub counted : r ≡ takes_of net
  pub labels : distances ≡ (finish net).labels
  pub traced : trace net (net.cells * net.cells) (initial net) ≡ taken
  pub stopped : (finish net).waiting ≡ []

-- The loop works a net that agrees with the rules' net, take by take and at the end.
pub ends_as :
    {search : Search} {targets obstacles : List ℕ} {times values distances carried : List Float} {marks queue : List ℕ}
    (spreads : Spreads search (grids targets obstacles times values) distances carried marks queue)
    {begun : Buffers} (began : BeganTo search targets times values (count search.size) carried begun)
    {distances' carried' : List Float} {marks' queue' : List ℕ} {r : ℕ} → Ran search (terrain obstacles times) begun distances' carried' marks' queue' r
    → (net : Net Float) → net.cells ≡ count search.size → Agrees (λ l. l.0) (net_on search targets obstacles times values) net
    → EndsAs net (taken_at (net_on search targets obstacles times values) r) distances' r
ends_as {search} {targets} {obstacles} {times} {values} spreads began {r = r} runs net cells agrees =
    let works = net_on search targets obstacles times values in
    let works_cells = cells_are targets obstacles times values search in
    let seen : ℕ × Carried → ℕ × Float = λ taken. (taken.0, taken.1.0) in
    let finished = finishes works_cells spreads.within (runs.ended works (begun_ready spreads began)) in
    record {
      counted = finished.counted ∙ agrees.takes_at_end;
      labels = distances_are (spread_ends spreads began runs) ∙ agrees.labels_at_end;
      traced =
          sym (agrees.trace_after (net.cells * net.cells))
          ∙ ap (λ n. map seen (trace works (n * n) (initial works))) (cells ∙ sym works_cells)
          ∙ ap (map seen) finished.traced;
      stopped = ap (λ s. s.waiting) (sym agrees.at_end) ∙ finished.stopped;
    }
