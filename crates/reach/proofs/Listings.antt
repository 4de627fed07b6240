-- The list of the cells that were reached: a cell that joins keeps the marks and the list in agreement. Assumes nothing.
use mathlib.Core.Bool.{Bool, false, not}
use mathlib.Core.List.{List, [], ◌∷◌, ◌++◌}
use mathlib.Core.Logic.{⊎_elim}
use mathlib.Core.Path.{◌≡◌, refl, sym, ap, ◌∙◌, subst}
use Prim.Native.Nat.{ℕ, ◌+◌, ◌≤◌, ◌<◌}
use native.Mathlib.Numerals.{add-one}
use borrow.Author.Tests.{ne_eqb}
use lib.Dec.{eqb}
use lib.ListN.{length, get_or, take, set, replicate, length-set, length-append, length-replicate, get_or-replicate}
use lib.Seq.{take-suc-set}
use Rattle.fifo.specs.Machine.{among, joined}
use Rattle.fifo.specs.Walk.{In}
use Rattle.fifo.proofs.Lists.{after_set, in_snoc, among_other, among_last, joined_waiting, joined_new, no_dup_joined}
use Rattle.fifo.proofs.Ranges.{room_for_new}
use Rattle.rules.proofs.Tests.{opposite}
use Rattle.reach.specs.Listing.{Met, Listing, Joining, Joined, Cells}
use Rattle.reach.proofs.Reading.{in_list, take_few}

-- ---- the marks

module _ {n : ℕ} {met cells : List ℕ} (marks : Met n met cells) where
  -- A mark says whether the cell is among them.
  pub met_says : (v : ℕ) → v < n → {b : Bool} → eqb (get_or met v 0) 0 ≡ b → among v cells ≡ not b
  met_says v inside e = opposite (eqb (get_or met v 0) 0) (among v cells) (marks.told v inside) ∙ ap not e

  -- One cell more is met.
  pub met_more : (v : ℕ) → v < n → Met n (set met v 1) (cells ++ v ∷ [])
  met_more v inside = record {
    long = length-set met v 1 ∙ marks.long;
    told = λ c below.
        after_set (λ m. eqb m 0 ≡ not (among c (cells ++ v ∷ []))) met v 1 0 c (rw marks.long inside) (λ p. rw p (ap not (sym (among_last v cells))))
        (λ other. marks.told c below ∙ ap not (sym (among_other c v cells other)));
  }

-- ---- the list

-- The same cells under another name.
listing_as : {n : ℕ} {met listed : List ℕ} {count : ℕ} {cells same : List ℕ} → cells ≡ same → Listing n met listed count cells → Listing n met listed count same
listing_as {n} {met} {listed} {count} equal lists = subst (λ l. Listing n met listed count l) equal lists

module _ {cell : ℕ} {met listed : List ℕ} {count : ℕ} (joins : Joining cell met listed count) where
  module _ (new : get_or met cell 0 ≡ 0) where
    not_yet : among cell (take count listed) ≡ false
    not_yet = met_says joins.lists.marks cell joins.inside (ap (λ m. eqb m 0) new)

    -- There is an entry for it.
    pub entry_free : count < length listed
    entry_free =
        let lists = joins.lists in
        rw lists.long (rw lists.counted at (room_for_new (length met) cell (take count listed) lists.single lists.inside joins.inside not_yet))

    -- A new cell is stored behind the others, and met.
    pub joined_last : Joined cell met listed count (set met cell 1) (set listed count cell) (count + 1)
    joined_last = record {
      lists = listing_as (sym (joined_new cell (take count listed) not_yet)) (record {
        marks = met_more joins.lists.marks cell joins.inside;
        long = length-set listed count cell ∙ joins.lists.long;
        counted = length-append (take count listed) (cell ∷ []) ∙ ap (λ k. k + 1) joins.lists.counted;
        first = ap (λ k. take k (set listed count cell)) (add-one count) ∙ take-suc-set listed count cell entry_free;
        single = rw (joined_new cell (take count listed) not_yet) at (no_dup_joined cell (take count listed) joins.lists.single);
        inside = λ c i. ⊎_elim (joins.lists.inside c) (λ p. rw p joins.inside) (in_snoc c cell (take count listed) i);
      });
    }

  -- A cell that is met stays where it is.
  pub joined_before : (get_or met cell 0 ≡ 0 → ⊥) → Joined cell met listed count met listed count
  joined_before old =
      let among_them = met_says joins.lists.marks cell joins.inside (ne_eqb (get_or met cell 0) 0 old) in
      record { lists = listing_as (sym (joined_waiting cell (take count listed) among_them)) joins.lists }

-- ---- the list, by the cells that it holds

-- Nothing is listed, and nothing met.
pub listing_none : (n : ℕ) {listed : List ℕ} → length listed ≡ n → Listing n (replicate n 0) listed 0 []
unfolding among
listing_none n long = record {
  marks = record { long = length-replicate n 0; told = λ c below. ap (λ m. eqb m 0) (get_or-replicate n c 0 0 below) };
  long = long;
  counted = refl;
  first = refl;
  single = tt;
  inside = λ c i. absurd i;
}

-- What `list_cell` asks and promises, where the listed cells are known.
module _ {n : ℕ} {met listed : List ℕ} {count : ℕ} {cells : List ℕ} (lists : Listing n met listed count cells) (cell : ℕ) where
  pub joining : cell < n → Joining cell met listed count
  joining inside = record { lists = rw (lists.first, lists.marks.long) lists; inside = rw lists.marks.long inside }

  pub listing_joined : {met' listed' : List ℕ} {count' : ℕ} → Joined cell met listed count met' listed' count' → Listing n met' listed' count' (joined cell cells)
  listing_joined joins = rw (lists.first, lists.marks.long) at joins.lists

-- The listed cells are cells of n.
pub listing_cells : {n : ℕ} {met listed : List ℕ} {count : ℕ} {cells : List ℕ} → Listing n met listed count cells → Cells n (take count listed)
listing_cells {listed = listed} {count = count} {cells = cells} lists = λ k d below. lists.inside (get_or (take count listed) k d) (subst (In (get_or (take count listed) k d)) lists.first (in_list (take count listed) k d below))

-- There are entries for them.
pub listing_few : {n : ℕ} {met listed : List ℕ} {count : ℕ} {cells : List ℕ} → Listing n met listed count cells → count ≤ length listed
listing_few {listed = listed} {count = count} lists = take_few count listed (ap length lists.first ∙ lists.counted)
