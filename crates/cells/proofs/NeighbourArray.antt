-- The array that the code fills, and the struct that it becomes: they hold the neighbours in trying order, and nothing else.
-- Assumes nothing.
use mathlib.Core.Path.{◌≡◌, refl, sym, ap, ◌∙◌}
use mathlib.Core.Logic.{inl, inr}
use mathlib.Core.List.{List, [], ◌∷◌, ◌++◌, append_assoc}
use Prim.Native.Nat.{ℕ, zero, suc, ◌+◌, ◌-◌, ◌≤◌, ◌<◌, zero-le}
use native.Mathlib.Nat.{lt_of_le_of_lt}
use native.Mathlib.Omega.{arith}
use lib.ListN.{length, get_or, take, drop, replicate, length-append, length-replicate, length-drop, take-append-drop}
use lib.Seq.{sets, sets-eq, take-append_seam, drop-append_seam, drop-append-add, length-take-le, drop-drop}
use Rattle.fifo.specs.Walk.{In}
use Rattle.rules.proofs.Neighbours.{neighbours_inside}
use Rattle.rules.specs.declared.Size.{Size}
use Rattle.rules.specs.Sizes.{count}
use Rattle.rules.specs.Cells.{offsets, neighbour, neighbours, straight_neighbours, diagonal_neighbours}
use Rattle.cells.specs.Neighbours.{Neighbours, Lists, CellOf}
use Rattle.cells.proofs.NeighbourLists.{neighbours_split, one_more, at_most_one, at_most_each}

-- ---- the array that is filled

abbrev zeros : ℕ → List ℕ
zeros n = replicate n 0

-- A list of cells in an array of eight, with 0 behind it.
abbrev padded : List ℕ → List ℕ
padded found = found ++ zeros (8 - length found)

drop_zeros : (k n : ℕ) → drop k (zeros n) ≡ zeros (n - k)
drop_zeros zero n = let left : n ≡ n - 0 = omega arith in ap zeros left
drop_zeros (suc k) zero = let left : 0 ≡ 0 - suc k = omega arith in ap zeros left
drop_zeros (suc k) (suc n) = let left : n - k ≡ suc n - suc k = omega arith in drop_zeros k n ∙ ap zeros left

padded_long : (found : List ℕ) → length found ≤ 8 → length (padded found) ≡ 8
padded_long found most = simp (length-append, length-replicate) (omega arith)

-- Cells that are stored behind those that were found.
padded_more : (found more : List ℕ) → length found + length more ≤ 8 → sets (padded found) (length found) more ≡ padded (found ++ more)
padded_more found more most =
    let behind = zeros (8 - length found) in
    let left : 8 - length found - length more ≡ 8 - length (found ++ more) = rw (length-append found more) (omega arith) in
    sets-eq more (padded found) (length found) (rw (padded_long found (omega arith)) most)
    ∙ ap (λ (l : List ℕ). l ++ more ++ drop (length found + length more) (padded found)) (take-append_seam found behind)
    ∙ ap (λ (l : List ℕ). found ++ more ++ l) (drop-append-add found behind (length more) ∙ drop_zeros (length more) (8 - length found) ∙ ap zeros left)

-- ---- the loop

-- After i offsets what was found among them is in the array, and counted.
pub record Filled (size : Size) (u : ℕ) (cells : List ℕ) (found i : ℕ) : Type 0 where
  pub tried : i ≤ 8
  pub cells_are : cells ≡ padded (neighbours size u (take i offsets))
  pub found_is : found ≡ length (neighbours size u (take i offsets))
  pub few : found ≤ i

module _ (size : Size) (u : ℕ) where
  pub none_filled : Filled size u (zeros 8) 0 0
  unfolding neighbours
  none_filled = record { tried = omega arith; cells_are = refl; found_is = refl; few = omega arith }

  -- One offset more. Proof: the array behind those that were found is 0, so that storing there appends.
  pub more_filled :
      {cells cells' : List ℕ} {found i found' : ℕ} → Filled size u cells found i → i < 8
      → cells' ≡ sets cells found (neighbour size u (get_or offsets i [])) → found' ≡ found + length (neighbour size u (get_or offsets i []))
      → Filled size u cells' found' (i + 1)
  more_filled {cells} {found = found} {i = i} {found' = found'} before less stored counted =
      let so_far = neighbours size u (take i offsets) in
      let here = neighbour size u (get_or offsets i []) in
      let few = before.few in
      let one = at_most_one size u (get_or offsets i []) in
      let so_far_is = before.found_is in
      record {
        tried = omega arith;
        cells_are =
            stored
            ∙ ap (λ (l : List ℕ). sets l found here) before.cells_are ∙ ap (λ (k : ℕ). sets (padded so_far) k here) so_far_is
            ∙ padded_more so_far here (omega arith) ∙ ap padded (sym (one_more size u offsets i less));
        found_is = counted ∙ rw (one_more size u offsets i less, length-append, so_far_is);
        few = omega arith;
      }

-- ---- the struct

-- An entry of the array, or past it, is a cell that was found, or 0.
padded_below : (bound : ℕ) → 0 < bound → (found : List ℕ) → ((v : ℕ) → In v found → v < bound) → (n k : ℕ) → get_or (found ++ zeros n) k 0 < bound
padded_below bound some [] each zero k = some
padded_below bound some [] each (suc n) zero = some
padded_below bound some [] each (suc n) (suc k) = padded_below bound some [] each n k
padded_below bound some (v ∷ found) each n zero = each v (inl refl)
padded_below bound some (v ∷ found) each n (suc k) = padded_below bound some found (λ w later. each w (inr later)) n k

-- A list in two parts, each read off by the counts up to its ends, with the rest behind them.
module _ (a b rest : List ℕ) where
  first_part : take (length a) (a ++ b ++ rest) ≡ a
  first_part = rw (append_assoc a b rest) (take-append_seam a (b ++ rest))

  second_part : take (length (a ++ b) - length a) (drop (length a) (a ++ b ++ rest)) ≡ b
  second_part =
      let left : length (a ++ b) - length a ≡ length b = rw (length-append a b) (omega arith) in
      rw (left, append_assoc a b rest, drop-append_seam a (b ++ rest)) (take-append_seam b rest)

  behind_parts : drop (length (a ++ b)) (a ++ b ++ rest) ≡ rest
  behind_parts = drop-append_seam (a ++ b) rest

-- Where the neighbours at all eight offsets are in the array, and counted, the struct lists them. Proof: the diagonal ones follow the straight ones,
-- and behind them the array is 0. The counts are the lengths up to those ends.
pub all_filled :
    {size : Size} {u : ℕ} {cells : List ℕ} {straight found : ℕ} → CellOf size u → cells ≡ padded (neighbours size u offsets)
    → straight ≡ length (straight_neighbours size u) → found ≡ length (neighbours size u offsets) → found ≤ 8
    → Lists size u (record { cells = cells; straight = straight; count = found })
all_filled {size} {u} {cells} {straight} {found} cell filled straight_is found_filled few =
    let a = straight_neighbours size u in
    let b = diagonal_neighbours size u in
    let rest = zeros (8 - length (a ++ b)) in
    let cells_are : cells ≡ a ++ b ++ rest = filled ∙ ap padded (neighbours_split size u) in
    let found_is : found ≡ length (a ++ b) = found_filled ∙ ap length (neighbours_split size u) in
    let long : length (a ++ b) ≡ length a + length b = length-append a b in
    record {
      straight_ones = rw (straight_is, cells_are) (first_part a b rest);
      diagonal_ones = rw (straight_is, found_is, cells_are) (second_part a b rest);
      rest = rw (found_is, cells_are) (behind_parts a b rest);
      eight = rw cells_are (padded_long (a ++ b) (omega arith));
      straight_most = omega arith;
      count_most = few;
      inside =
          let all = neighbours size u offsets in
          let below = padded_below (count size) (lt_of_le_of_lt zero-le cell.below) all (neighbours_inside size u offsets) (8 - length all) in
          λ k. rw filled (below k);
    }

-- Where they were stored in two parts, the straight ones and then the diagonal ones, the array holds them all.
pub both_stored :
    {size : Size} {u : ℕ} {cells : List ℕ} {straight : ℕ} {near : Neighbours} → CellOf size u
    → cells ≡ sets (zeros 8) 0 (straight_neighbours size u) → straight ≡ 0 + length (straight_neighbours size u)
    → near.cells ≡ sets cells straight (diagonal_neighbours size u) → near.count ≡ straight + length (diagonal_neighbours size u) → near.straight ≡ straight
    → Lists size u near
both_stored {size} {u} {straight = straight} {near} cell first straight_counted then found_is stays =
    let a = straight_neighbours size u in
    let b = diagonal_neighbours size u in
    let straight_is : straight ≡ length a = omega arith in
    let few_straight = at_most_each size u (take 4 offsets) in
    let few_diagonal = at_most_each size u (drop 4 offsets) in
    let long : length (a ++ b) ≡ length a + length b = length-append a b in
    let all : neighbours size u offsets ≡ a ++ b = neighbours_split size u in
    let cells_are : near.cells ≡ padded (a ++ b) =
    then ∙ rw (first, straight_is) (ap (λ l. sets l (length a) b) (padded_more [] a (omega arith))) ∙ padded_more a b (omega arith) in
    all_filled cell (cells_are ∙ ap padded (sym all)) (stays ∙ straight_is) (rw (all, long) (rw (← straight_is) found_is)) (omega arith)

-- ---- what the struct says

-- Where a list begins with a part, the part's length is where it ends.
begins : (k : ℕ) (l part : List ℕ) → k ≤ length l → take k l ≡ part → k ≡ length part
begins k l part most e = sym (length-take-le k l most) ∙ ap length e

module _ {size : Size} {u : ℕ} {r : Neighbours} (lists : Lists size u r) where
  -- The order of the counts, for `omega` to read.
  ordered : (r.straight ≤ r.count) × (r.count ≤ 8) × (length r.cells ≡ 8)
  ordered = (lists.straight_most, lists.count_most, lists.eight)

  straight_long : r.straight ≡ length (straight_neighbours size u)
  straight_long = let order = ordered in begins r.straight r.cells (straight_neighbours size u) (omega arith) lists.straight_ones

  count_long : r.count ≡ length (straight_neighbours size u) + length (diagonal_neighbours size u)
  count_long =
      let order = ordered in
      let behind : length (drop r.straight r.cells) ≡ length r.cells - r.straight = length-drop r.straight r.cells in
      let left = begins (r.count - r.straight) (drop r.straight r.cells) (diagonal_neighbours size u) (omega arith) lists.diagonal_ones in
      let first = straight_long in
      omega arith

  cells_whole : r.cells ≡ straight_neighbours size u ++ (diagonal_neighbours size u ++ zeros (8 - r.count))
  cells_whole =
      let order = ordered in
      let up_to : r.straight + (r.count - r.straight) ≡ r.count = omega arith in
      let behind = drop r.straight r.cells in
      sym (take-append-drop r.straight r.cells)
      ∙ ap (λ (l : List ℕ). take r.straight r.cells ++ l) (sym (take-append-drop (r.count - r.straight) behind))
      ∙ rw (lists.straight_ones, lists.diagonal_ones, drop-drop (r.count - r.straight) r.straight r.cells, up_to, lists.rest)

-- The size and the cell decide the struct. Proof: its counts are the lengths of the lists, and its array is the straight ones, the diagonal
-- ones and zeros.
pub lists_decided : {size : Size} {u : ℕ} {r s : Neighbours} → Lists size u r → Lists size u s → r ≡ s
lists_decided {size} {u} {r} {s} first second =
    let straight_same = straight_long first ∙ sym (straight_long second) in
    let count_same = count_long first ∙ sym (count_long second) in
    let tail : ℕ → List ℕ = λ n. straight_neighbours size u ++ (diagonal_neighbours size u ++ zeros (8 - n)) in
    let cells_same : r.cells ≡ s.cells = cells_whole first ∙ ap tail count_same ∙ sym (cells_whole second) in
    λ i. record { cells = cells_same i; straight = straight_same i; count = count_same i }
