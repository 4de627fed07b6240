-- What the searches above cite of the loop: what it asks, and its labels, read off the buffers. Assumes nothing.
use mathlib.Core.Bool.{true, cond}
use mathlib.Core.List.{List, map}
use mathlib.Core.Path.{◌≡◌, refl, sym, ap, ◌∙◌}
use Prim.Native.Nat.{ℕ, ◌*◌}
use lib.Ieee.{Float, nan}
use lib.ListN.{length, get_or}
use Rattle.fifo.specs.Machine.{table, finish}
use Rattle.fifo.proofs.Ranges.{map_table, table_reads}
use Rattle.rules.specs.Sizes.{count}
use Rattle.spread.specs.declared.search.Search.{Search}
use Rattle.spread.specs.Nets.{avoids, Grids, net_of, carries, labels_of}
use Rattle.spread.specs.First.{Inputs}
use Rattle.spread.specs.Begin.{Lengths}
use Rattle.spread.specs.Promise.{Spreads, Spread}
use Rattle.spread.proofs.Agrees.{RulesWithin, takes_within}

-- The rules' net takes no more than the square of the number of cells.
abbrev pub WithinSquare : Search → Grids → Type 0
WithinSquare search grids = RulesWithin (count search.size * count search.size) search.rule search grids

-- A search can spread where what its rule reads has its length, the buffers have theirs, and the rules' net keeps within the square.
pub spreads_where :
    {search : Search} {grids : Grids} {distances carried : List Float} {marks queue : List ℕ}
    → Inputs search grids.targets grids.times grids.values → (avoids search.rule ≡ true → length grids.obstacles ≡ count search.size)
    → Lengths search distances carried marks queue → WithinSquare search grids → Spreads search grids distances carried marks queue
spreads_where {search} {grids} inputs obstacles_long lengths within = record {
  inputs = inputs;
  setting = record { bounds = inputs.bounds; obstacles_length = obstacles_long; times_length = inputs.times_length };
  lengths = lengths;
  within = takes_within (count search.size * count search.size) search grids within;
}

-- Buffers that have their lengths are read off their labels: the distances, and the values where they go along.
module _ (search : Search) (distances carried : List Float) where
  pub distances_read : length distances ≡ count search.size → distances ≡ map (λ l. l.0) (labels_of search distances carried)
  unfolding labels_of
  distances_read long = sym (
      map_table (λ l. l.0) (λ c. (get_or distances c nan, cond (carries search.rule) (get_or carried c nan) nan)) (λ c. get_or distances c nan) (λ c. refl) 0 (count search.size)
      ∙ ap (table (λ c. get_or distances c nan) 0) (sym long)
      ∙ table_reads nan distances)

  pub values_read : carries search.rule ≡ true → length carried ≡ count search.size → carried ≡ map (λ l. l.1) (labels_of search distances carried)
  unfolding labels_of
  values_read carrying long = sym (
      map_table (λ l. l.1) (λ c. (get_or distances c nan, cond (carries search.rule) (get_or carried c nan) nan)) (λ c. get_or carried c nan)
      (λ c. ap (λ b. cond b (get_or carried c nan) nan) carrying) 0 (count search.size)
      ∙ ap (table (λ c. get_or carried c nan) 0) (sym long)
      ∙ table_reads nan carried)

module _
    {search : Search} {grids : Grids} {carried distances' carried' : List Float} {marks' queue' : List ℕ} {r : ℕ}
    (spread : Spread search grids carried distances' carried' marks' queue' r)
  where
    pub distances_are : distances' ≡ map (λ l. l.0) (finish (net_of search grids)).labels
    distances_are = distances_read search distances' carried' spread.lengths.distances_length ∙ ap (map (λ l. l.0)) spread.labels

    pub values_are : carries search.rule ≡ true → carried' ≡ map (λ l. l.1) (finish (net_of search grids)).labels
    values_are carrying = values_read search distances' carried' carrying (spread.lengths.carried_length carrying) ∙ ap (map (λ l. l.1)) spread.labels
