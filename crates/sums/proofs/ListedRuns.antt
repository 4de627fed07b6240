-- The cells that a run lists: each at its first take. Assumes nothing.
use mathlib.Core.Bool.{Bool, true, false, not}
use mathlib.Core.List.{List, [], ◌∷◌, ◌++◌, map, map-append}
use mathlib.Core.Path.{◌≡◌, sym, ap, ◌∙◌, subst}
use Prim.Native.Nat.{ℕ, ◌+◌}
use lib.Ieee.{Float}
use lib.ListN.{length}
use Rattle.cells.specs.Ring.{SaysEmpty}
use Rattle.fifo.specs.Machine.{Net, joined, once}
use Rattle.fifo.proofs.Entries.{once_last}
use Rattle.rules.specs.Sizes.{count}
use Rattle.rules.specs.Values.{Carried}
use Rattle.spread.specs.declared.search.Search.{Search}
use Rattle.spread.specs.declared.take.TakenCell.{TakenCell}
use Rattle.spread.specs.Steps.{Terrain}
use Rattle.spread.specs.Buffers.{Buffers}
use Rattle.spread.specs.Loop.{taken_at, TookCell, Ready}
use Rattle.spread.proofs.Running.{Turn, no_turn, next_turn, ran}
use Rattle.spread.proofs.Tracing.{none_taken, next_taken}
use Rattle.reach.specs.Listing.{Listing, Joining, Joined}
use Rattle.reach.proofs.Listings.{joining, listing_joined}
use Rattle.sums.specs.declared.listing.Reached.{Reached}
use Rattle.sums.specs.Listed.{each_once, Lists, ListedAll}

-- What holds before each turn of the loop.
pub record ListTurn (search : Search) (ground : Terrain) (before b : Buffers) (listed met : List ℕ) (entries r : ℕ) : Type 0 where
  pub turn : Turn search ground before b r
  pub listed_length : length listed ≡ count search.size
  pub met_length : length met ≡ count search.size
  pub lists : (net : Net Carried) → Ready search ground net before → Listing (count search.size) met listed entries (each_once (taken_at net r))

module _ {search : Search} {ground : Terrain} {before : Buffers} where
  pub none_listed : {listed met : List ℕ} → Lists search ground listed met before → ListTurn search ground before before listed met 0 0
  none_listed {listed} {met} asked = record {
    turn = no_turn asked.running.good;
    listed_length = asked.none_listed.long;
    met_length = asked.none_listed.marks.long;
    lists = λ net ready. subst (Listing (count search.size) met listed 0) (sym (ap each_once (none_taken net))) asked.none_listed;
  }

  module _
      {b : Buffers} {listed met : List ℕ} {entries r : ℕ} (at : ListTurn search ground before b listed met entries r)
      {says : Bool} (empty : SaysEmpty b.ring says)
    where
      pub list_joins :
          {after : Buffers} {took : TakenCell} → TookCell search ground b after took → (net : Net Carried) × Ready search ground net before
          → Joining took.cell met listed entries
      list_joins {took = took} takes (net, ready) = joining (at.lists net ready) took.cell takes.inside

      -- The taken cell is the last of those taken so far, and joins the list last.
      pub next_listed :
          {after : Buffers} {took : TakenCell} {listed' met' : List ℕ} {entries' : ℕ} → not says ≡ true → TookCell search ground b after took
          → Joined took.cell met listed entries met' listed' entries' → ListTurn search ground before after listed' met' entries' (r + 1)
      next_listed {took = took} {listed'} {met'} {entries'} something takes joins = record {
        turn = next_turn at.turn empty something takes;
        listed_length = joins.lists.long ∙ at.met_length;
        met_length = joins.lists.marks.long ∙ at.met_length;
        lists = λ net ready.
            subst (Listing (count search.size) met' listed' entries') (sym (one_more net (next_taken at.turn empty something takes net ready)))
            (listing_joined (at.lists net ready) took.cell joins);
      }
        where
          one_more : (net : Net Carried) → taken_at net (r + 1) ≡ taken_at net r ++ (took.cell, took.distance) ∷ [] → each_once (taken_at net (r + 1)) ≡ joined took.cell (each_once (taken_at net r))
          one_more net more =
              ap each_once more
              ∙ ap (once []) (map-append (λ one. one.0) (taken_at net r) ((took.cell, took.distance) ∷ []))
              ∙ once_last [] (map (λ one. one.0) (taken_at net r)) took.cell

      pub listed_all :
          not says ≡ false
          → ListedAll search ground before b.distances b.carried b.marks listed met b.queue (record { takes = r; count = entries })
      listed_all nothing = record {
        ran = ran at.turn empty nothing;
        listed_length = at.listed_length;
        met_length = at.met_length;
        lists = at.lists;
      }

-- The same of what the buffers hold when the loans have ended.
pub listed_lent :
    {search : Search} {ground : Terrain} {before : Buffers} {d d' c c' : List Float} {m m' listed met q q' : List ℕ} {r : Reached}
    → d' ≡ d → c' ≡ c → m' ≡ m → q' ≡ q → ListedAll search ground before d c m listed met q r → ListedAll search ground before d' c' m' listed met q' r
listed_lent ds cs ms qs all = rw (ds, cs, ms, qs) all
