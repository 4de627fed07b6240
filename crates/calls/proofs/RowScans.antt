-- A scan over rows and columns in row order, which stops at the first that passes a test. Assumes nothing.
use mathlib.Core.Path.{◌≡◌, ap, ◌∙◌, subst}
use mathlib.Core.Bool.{Bool, true, false}
use mathlib.Core.List.{List}
use Prim.Native.Nat.{ℕ, ◌+◌, ◌*◌, ◌≤◌, ◌<◌}
use native.Mathlib.Nat.{le_antisymm, zero-mul}
use native.Mathlib.Omega.{arith}
use lib.Arith.{digits_lt}
use lib.ListN.{length, get_or}
use Rattle.rules.specs.Sizes.{any, first_index}
use Rattle.cells.proofs.Bounds.{bounded, cast_is}
use Rattle.calls.proofs.Scans.{NoneBelow, none_yet, none_more, none_all, one_passes, first_passes}

module _ {A : Type 0} (test : A → Bool) (xs : List A) (rows cols : ℕ) where
  -- Before a row: none of the rows above has a cell that passes.
  pub record AtRow (row : ℕ) : Type 0 where
    pub area : rows * cols ≡ length xs
    pub in_rows : row ≤ rows
    pub none : NoneBelow test xs (row * cols)

  -- Before a column: nor has what stands to the left in this row.
  pub record AtColumn (row col : ℕ) : Type 0 where
    pub area : rows * cols ≡ length xs
    pub in_rows : row < rows
    pub in_cols : col ≤ cols
    pub none : NoneBelow test xs (row * cols + col)

  pub scan_starts : rows * cols ≡ length xs → AtRow 0
  scan_starts area = record { area = area; in_rows = omega arith; none = rw zero-mul (none_yet test xs) }

  module _ {row col : ℕ} (at : AtColumn row col) where
    pub index_in : col < cols → row * cols + col < length xs
    index_in below = subst (λ (n : ℕ). row * cols + col < n) at.area (digits_lt at.in_rows below)

    pub column_fails : (d : A) → col < cols → test (get_or xs (row * cols + col) d) ≡ false → AtColumn row (col + 1)
    column_fails d below fails = record {
      area = at.area;
      in_rows = at.in_rows;
      in_cols = omega arith;
      none = subst (λ (k : ℕ). NoneBelow test xs k) (omega arith) (none_more test d at.none (index_in below) fails);
    }

    pub column_passes : (d : A) → col < cols → test (get_or xs (row * cols + col) d) ≡ true → (any test xs ≡ true) × (first_index test xs ≡ row * cols + col)
    column_passes d below passes = (one_passes test d at.none (index_in below) passes, first_passes test d at.none (index_in below) passes)

  pub scan_ends : {row : ℕ} → AtRow row → rows ≤ row → any test xs ≡ false
  scan_ends {row} at end =
      let last : row ≡ rows = le_antisymm at.in_rows end in
      let all : row * cols ≡ length xs = ap (λ (k : ℕ). k * cols) last ∙ at.area in
      none_all test at.none (omega arith)

-- What a loop over the rows and columns of a grid within the bounds asks for.
pub ruleset row_scans = (bounded, cast_is, scan_starts, column_fails, column_passes, scan_ends)
