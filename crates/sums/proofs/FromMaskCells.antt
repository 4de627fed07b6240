-- The search from one mask cell: the cells that it reached are those of the rules, and so is their sum. Assumes nothing.
use mathlib.Core.Bool.{Bool, true, false, cond}
use mathlib.Core.List.{List, [], ◌++◌, append-nil}
use mathlib.Core.Path.{◌≡◌, refl, sym, ap, ◌∙◌, subst}
use Prim.Native.Nat.{ℕ, suc, ◌*◌, ◌≤◌, ◌<◌}
use lib.Ieee.{Float, nan}
use lib.ListN.{length, get_or, replicate, take, length-replicate}
use Rattle.std.specs.Prelude.{Ok, Err}
use Rattle.binary32.specs.Numbers.{plus_zero}
use Rattle.fifo.specs.Machine.{joined, finish}
use Rattle.fifo.specs.Walk.{In}
use Rattle.fifo.proofs.Entries.{entered_as_taken}
use Rattle.rules.specs.declared.Size.{Size}
use Rattle.rules.specs.Numbers.{infinity}
use Rattle.rules.specs.Sizes.{Grid, grid, any, count}
use Rattle.rules.specs.Sums.{from_mask_cell, listed, add_values, above_budget, adjacent_cells, sum_listed, sum_of, over_budget}
use Rattle.rules.proofs.Listed.{listed_with_start, unlisted_unreached}
use Rattle.cells.specs.declared.ring.Ring.{Ring}
use Rattle.spread.specs.declared.search.Rule.TheVariants.{FromMaskCell}
use Rattle.spread.specs.declared.search.Search.{Search}
use Rattle.spread.specs.Steps.{terrain}
use Rattle.spread.specs.Buffers.{Buffers, buffers}
use Rattle.spread.specs.First.{net_on}
use Rattle.spread.specs.Begin.{BeganTo, Clear, BeginsAt, BeganAt}
use Rattle.spread.specs.Loop.{taken_at}
use Rattle.spread.specs.Promise.{grids, Spreads}
use Rattle.spread.proofs.BeginningFrom.{began_mask_cell}
use Rattle.spread.proofs.Running.{begun_ready, begun_runs}
use Rattle.spread.proofs.Agrees.{mask_cell_agrees}
use Rattle.reach.specs.Listing.{Met, Listing, Joining, Joined, Cells}
use Rattle.reach.specs.Adjacent.{beside, Beside, AddedAdjacent}
use Rattle.reach.specs.Clearing.{put_back, Clearing}
use Rattle.reach.proofs.Listings.{listing_none, joining, listing_joined, listing_few, listing_cells}
use Rattle.reach.proofs.Around.{listing_beside}
use Rattle.reach.proofs.PutBack.{all_back, none_met}
use Rattle.sums.specs.declared.listing.Reached.{Reached}
use Rattle.sums.specs.Between.{BetweenStarts}
use Rattle.sums.specs.Listed.{each_once, Lists, ListedAll}
use Rattle.sums.specs.declared.mask_cell.MaskSum.{MaskSum}
use Rattle.sums.specs.FromMask.{Lengths, Reaching, run_from, over_at, ReachedFrom, SumReached, Summing, SummedFrom}
use Rattle.sums.proofs.Endings.{EndsAs, spreads_by_times, spreads_begin, ends_as}

-- ---- between two starts

-- The buffers have their lengths.
pub between_lengths : {size : Size} {cap : Float} {distances : List Float} {marks listed met queue : List ℕ} → BetweenStarts size cap distances marks listed met queue → Lengths size distances marks listed met queue
between_lengths {size} {cap} between = record {
  distances_length = ap length between.clear.unreached ∙ length-replicate (count size) cap;
  marks_length = between.clear.marks_length;
  listed_length = between.listed_length;
  met_length = ap length between.none_met ∙ length-replicate (count size) 0;
  queue_length = between.queue_length;
}

-- ---- the list

-- The cells in order of first entry are the taken cells, each once.
entered_is : (times : Grid Float) (start : ℕ) {taken : List (ℕ × Float)} {distances : List Float} {r : ℕ} → EndsAs (from_mask_cell times start) taken distances r
    → each_once taken ≡ (finish (from_mask_cell times start)).entered
unfolding finish
entered_is times start ends =
    let net = from_mask_cell times start in
    ap each_once (sym ends.traced) ∙ sym (entered_as_taken net (net.cells * net.cells) ends.stopped)

-- ---- the search

module _ {size : Size} {times : List Float} {start : ℕ} {distances : List Float} {marks listed met queue : List ℕ} (asked : Reaching size times start distances marks listed met queue) where
  clear_here : Clear (length distances) infinity distances marks
  clear_here = subst (λ n. Clear n infinity distances marks) (sym (between_lengths asked.between).distances_length) asked.between.clear

  pub mask_begins : BeginsAt times distances marks queue
  mask_begins =
      let long = (between_lengths asked.between).distances_length in
      record { times_length = asked.ways.times_length ∙ sym long; queue_length = asked.between.queue_length ∙ ap suc (sym long); clear = (infinity, clear_here) }

module _ (size : Size) (times : List Float) (start : ℕ) (limit : Float) where
  abbrev pub mask_search : Search
  mask_search = record { rule = FromMaskCell start; size = size; limit = limit }

  module _ {distances : List Float} {marks listed met queue : List ℕ} (asked : Reaching size times start distances marks listed met queue) where
    mask_spreads : (targets obstacles : List ℕ) (values carried : List Float) → Spreads mask_search (grids targets obstacles times values) distances carried marks queue
    mask_spreads targets obstacles values carried =
        let long = between_lengths asked.between in
        spreads_by_times mask_search targets obstacles values carried refl refl refl asked.ways long.distances_length long.marks_length long.queue_length (asked.ways.within start)

    pub mask_began :
        (targets : List ℕ) (values carried : List Float) {distances' : List Float} {marks' queue' : List ℕ} {ring : Ring}
        → BeganAt start times distances marks queue distances' marks' queue' ring
        → BeganTo mask_search targets times values (count size) carried (buffers distances' carried marks' queue' ring)
    mask_began targets values carried began = began_mask_cell (spreads_begin (mask_spreads targets targets values carried)) (began.from infinity (clear_here asked)) refl refl

    module _
        {targets obstacles : List ℕ} {values carried : List Float} {begun : Buffers}
        (began : BeganTo mask_search targets times values (count size) carried begun)
      where
        pub mask_lists : Lists mask_search (terrain obstacles times) listed met begun
        mask_lists = record {
          running = begun_runs (mask_spreads targets obstacles values carried) began;
          numbered = refl;
          none_listed = subst (λ m. Listing (count size) m listed 0 []) (sym asked.between.none_met) (listing_none (count size) asked.between.listed_length);
        }

        module _
            {distances₁ carried₁ : List Float} {marks₁ listed₁ met₁ queue₁ : List ℕ} {r : Reached}
            (found : ListedAll mask_search (terrain obstacles times) begun distances₁ carried₁ marks₁ listed₁ met₁ queue₁ r)
          where
            ready_lists : Listing (count size) met₁ listed₁ r.count (each_once (taken_at (net_on mask_search targets obstacles times values) r.takes))
            ready_lists = found.lists _ (begun_ready (mask_spreads targets obstacles values carried) began)

            pub start_joins : Joining start met₁ listed₁ r.count
            start_joins = joining ready_lists start asked.inside

            pub mask_reached :
                {listed₂ met₂ : List ℕ} {entries : ℕ} → Joined start met₁ listed₁ r.count met₂ listed₂ entries
                → ReachedFrom size times start distances₁ marks₁ listed₂ met₂ queue₁ (record { takes = r.takes; count = entries })
            unfolding from_mask_cell
            mask_reached {listed₂} {met₂} {entries} joins =
                let spreads = mask_spreads targets obstacles values carried in
                let ends = ends_as spreads began found.ran (from_mask_cell (grid size times) start) refl (mask_cell_agrees mask_search (grids targets obstacles times values) start refl) in
                record {
                  lengths = record {
                    distances_length = found.ran.lengths.distances_length;
                    marks_length = found.ran.lengths.marks_length;
                    listed_length = joins.lists.long ∙ found.met_length;
                    met_length = joins.lists.marks.long ∙ found.met_length;
                    queue_length = found.ran.lengths.queue_length;
                  };
                  labels = ends.labels;
                  lists =
                      subst (Listing (count size) met₂ listed₂ entries) (ap (joined start) (entered_is (grid size times) start ends) ∙ listed_with_start (grid size times) start asked.inside)
                      (listing_joined ready_lists start joins);
                  counted = ends.counted;
                  unmarked = found.ran.unmarked;
                }

-- ---- the sum

abbrev pub mask_sum_of : ℕ → Float → MaskSum
mask_sum_of takes sum = record { takes = takes; sum = sum }

module _ {size : Size} {values distances : List Float} {cells : List ℕ} {limit : Float} {alone : Float} where
  pub sum_without : alone ≡ add_values values plus_zero cells → {met : List ℕ} {include_adjacent : Bool} → include_adjacent ≡ false → Met (count size) met cells → SumReached size values distances cells limit include_adjacent met alone
  unfolding sum_listed
  sum_without sum is marks = record { marks = rw (is, append-nil cells) marks; sum_is = sum ∙ sym (ap (λ b. sum_listed size values distances limit b cells) is) }

  pub sum_with :
      alone ≡ add_values values plus_zero cells → {met' : List ℕ} {include_adjacent : Bool} → include_adjacent ≡ true → {sum : Float} → AddedAdjacent size values distances limit alone cells met' sum
      → SumReached size values distances cells limit include_adjacent met' sum
  unfolding sum_listed
  sum_with reached is added = record {
    marks = rw is added.marks;
    sum_is =
        added.added
        ∙ ap (λ s. add_values values s (adjacent_cells size distances limit cells)) reached
        ∙ sym (ap (λ b. sum_listed size values distances limit b cells) is);
  }

pub beside_cells : {size : Size} {values distances : List Float} {listed met : List ℕ} → Beside size values distances listed met → Cells (length values) listed
beside_cells {listed = listed} beside = subst (λ n. Cells n listed) (sym beside.fits.values_long) beside.lists

module _
    {size : Size} {times values : List Float} {start : ℕ} {distances : List Float} {marks listed₀ met queue : List ℕ}
    (asked : Summing size times values start distances marks listed₀ met queue)
    {distances₁ : List Float} {marks₁ listed₁ met₁ queue₁ : List ℕ} {r : Reached}
    (reached : ReachedFrom size times start distances₁ marks₁ listed₁ met₁ queue₁ r)
  where
    pub reached_few : r.count ≤ length listed₁
    reached_few = listing_few reached.lists

    pub reached_cells : Cells (length distances₁) (take r.count listed₁)
    reached_cells = subst (λ n. Cells n (take r.count listed₁)) (sym reached.lengths.distances_length) (listing_cells reached.lists)

    pub reached_beside : Beside size values distances₁ (take r.count listed₁) met₁
    reached_beside =
        listing_beside (record {
          bounds = asked.reaching.ways.bounds;
          values_long = asked.values_length;
          distances_long = reached.lengths.distances_length;
          met_long = reached.lengths.met_length;
        }) reached.lists

    pub reached_clearing : {met₂ : List ℕ} → length met₂ ≡ count size → Clearing size (take r.count listed₁) met₂
    reached_clearing long = record { bounds = asked.reaching.ways.bounds; met_long = long; lists = listing_cells reached.lists }

    -- Every distance is infinity again: a cell that is not listed was not reached.
    unreached_again : {distances₂ : List Float} → distances₂ ≡ put_back infinity distances₁ (take r.count listed₁) → distances₂ ≡ replicate (count size) infinity
    unreached_again back = all_back infinity nan distances₁ (take r.count listed₁) reached.lengths.distances_length back unlisted
      where
        unlisted : (c : ℕ) → c < count size → (In c (take r.count listed₁) → ⊥) → get_or distances₁ c nan ≡ infinity
        unlisted c below out =
            let labels = reached.labels in
            ap (λ l. get_or l c nan) labels
            ∙ unlisted_unreached (grid size times) start asked.reaching.inside c nan (rw (← labels) (rw reached.lengths.distances_length below)) (λ i. out (rw reached.lists.first i))

    -- The listed cells are the rules' list, and the distances are the labels at the end.
    pub summed_from :
        {limit : Float} {include_adjacent over : Bool} {sum cap : Float} {distances₂ : List Float} {met₂ met₃ : List ℕ}
        → over ≡ any (above_budget distances₁ limit) (take r.count listed₁)
        → SumReached size values distances₁ (take r.count listed₁) limit include_adjacent met₂ sum
        → cap ≡ infinity → distances₂ ≡ put_back cap distances₁ (take r.count listed₁)
        → met₃ ≡ put_back 0 met₂ (take r.count listed₁ ++ cond include_adjacent (beside size (take r.count listed₁)) [])
        → SummedFrom size times values limit include_adjacent start distances₂ marks₁ listed₁ met₃ queue₁ (cond over (Err (over_at start)) (Ok (record { takes = r.takes; sum = sum })))
    unfolding sum_of
    summed_from {limit} {include_adjacent} {sum = sum} over_is summed capped distances_back met_back =
        let run = run_from size times start in
        let cells : take r.count listed₁ ≡ listed (grid size times) run = reached.lists.first in
        let labels = reached.labels in
        record {
          between = record {
            clear = record { unreached = unreached_again (distances_back ∙ ap (λ cap. put_back cap distances₁ (take r.count listed₁)) capped); marks_length = reached.lengths.marks_length; unmarked = reached.unmarked };
            none_met = none_met size distances₁ limit include_adjacent (take r.count listed₁) summed.marks met_back;
            listed_length = reached.lengths.listed_length;
            queue_length = reached.lengths.queue_length;
          };
          says =
              let over_same = over_is ∙ ap (λ l. any (above_budget distances₁ limit) l) cells ∙ ap (λ d. any (above_budget d limit) (listed (grid size times) run)) labels in
              let sum_same =
              summed.sum_is
              ∙ ap (sum_listed size values distances₁ limit include_adjacent) cells
              ∙ ap (λ d. sum_listed size values d limit include_adjacent (listed (grid size times) run)) labels in
              ap (λ b. cond b (Err (over_at start)) (Ok (record { takes = r.takes; sum = sum }))) over_same
              ∙ ap (λ m. cond (over_budget (grid size times) limit run).0 (Err (over_at start)) (Ok m)) (ap (λ t. mask_sum_of t sum) reached.counted ∙ ap (mask_sum_of run.takes) sum_same);
        }
