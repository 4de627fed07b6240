-- The lists of neighbours go by parts of the table of offsets. Assumes nothing.
use mathlib.Core.Path.{◌≡◌, refl, sym, ap, ◌∙◌}
use mathlib.Core.Bool.{Bool, true, false, cond, ◌&&◌}
use mathlib.Core.List.{List, [], ◌∷◌, ◌++◌, append-nil, append_assoc}
use Prim.Native.Nat.{ℕ, ◌+◌, ◌≤◌, ◌<◌}
use native.Mathlib.Omega.{arith}
use lib.IntN.{ℤ, pos, ◌+ℤ◌}
use lib.ListN.{length, get_or, take, drop, length-append}
use lib.Signed.{mag}
use Rattle.fifo.proofs.Lists.{take_more}
use Rattle.rules.specs.declared.Size.{Size}
use Rattle.rules.specs.Cells.{offsets, index, row_of, col_of, within, neighbour, neighbours, straight_neighbours, diagonal_neighbours}
use Rattle.cells.specs.Storing.{row_part, col_part}

module _ (size : Size) (u : ℕ) where
  -- The place at an offset.
  abbrev to_row : List ℤ → ℤ
  to_row offset = pos (row_of size u) +ℤ row_part offset

  abbrev to_col : List ℤ → ℤ
  to_col offset = pos (col_of size u) +ℤ col_part offset

  neighbours_append : (a b : List (List ℤ)) → neighbours size u (a ++ b) ≡ neighbours size u a ++ neighbours size u b
  unfolding neighbours
  neighbours_append [] b = refl
  neighbours_append (offset ∷ a) b =
      ap (λ (l : List ℕ). neighbour size u offset ++ l) (neighbours_append a b) ∙ sym (append_assoc (neighbour size u offset) (neighbours size u a) (neighbours size u b))

  -- The straight ones come first, and the diagonal ones follow them.
  pub neighbours_split : neighbours size u offsets ≡ straight_neighbours size u ++ diagonal_neighbours size u
  neighbours_split = neighbours_append (take 4 offsets) (drop 4 offsets)

  -- One offset more of a table adds the neighbour there.
  pub one_more :
      (table : List (List ℤ)) (i : ℕ) → i < length table
      → neighbours size u (take (i + 1) table) ≡ neighbours size u (take i table) ++ neighbour size u (get_or table i [])
  unfolding neighbours
  one_more table i less =
      ap (λ (list : List (List ℤ)). neighbours size u list) (take_more table i [] less)
      ∙ neighbours_append (take i table) (get_or table i [] ∷ [])
      ∙ ap (λ (l : List ℕ). neighbours size u (take i table) ++ l) (append-nil (neighbour size u (get_or table i [])))

  pub at_most_one : (offset : List ℤ) → length (neighbour size u offset) ≤ 1
  unfolding neighbour
  at_most_one offset = go (within size.rows (to_row offset) && within size.cols (to_col offset))
    where
      go : (test : Bool) → length (cond test (index size (mag (to_row offset)) (mag (to_col offset)) ∷ []) []) ≤ 1
      go true = omega arith
      go false = omega arith

  -- Of some offsets each leads to one cell at most.
  pub at_most_each : (table : List (List ℤ)) → length (neighbours size u table) ≤ length table
  unfolding neighbours
  at_most_each [] = omega arith
  at_most_each (offset ∷ table) =
      let one = at_most_one offset in
      let rest = at_most_each table in
      rw (length-append (neighbour size u offset) (neighbours size u table)) (omega arith)
