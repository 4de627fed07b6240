-- Sizes: what the tests on them say, and what is known of a size within the bounds. Assumes nothing.
use mathlib.Core.Path.{◌≡◌, refl, sym, ap, ◌∙◌}
use mathlib.Core.Bool.{true, ◌&&◌, false≢true}
use Prim.Native.Nat.{suc, ◌*◌, ◌^◌, ◌≤◌}
use native.Mathlib.Nat.{mul-le-mul, lt_of_le_of_lt, le_antisymm}
use native.Mathlib.Omega.{arith}
use borrow.Author.Rules.{Fits-under}
use lib.Dec.{T, leb, leb→le, lit<}
use lib.IntN.{ℤ, pos, negsuc, nat_abs, ◌*ℤ◌}
use lib.Signed.{mag, non_neg}
use mir.Syntax.{Width, w32, w64}
use mir.Val.{Fits, SFits, bits, to_z, of_z}
use mir.Facts.{to_z-of_z, and_yes}
use Rattle.fifo.proofs.Lists.{holds}
use Rattle.rules.proofs.Inputs.{cells_at_most}
use Rattle.rules.specs.declared.Size.{Size}
use Rattle.rules.specs.Sizes.{side_max, cells_max, side_fits, count, in_bounds, same_number}
use Rattle.cells.specs.Counting.{Countable}

-- ---- a side, and a size, within the bounds

-- A side that fits is a natural number, at most 32,767.
pub record Side (k : ℤ) : Type 0 where
  pub is_mag : k ≡ pos (mag k)
  pub most : mag k ≤ side_max

pub side : (k : ℤ) → T (side_fits k) → Side k
side (pos n) fits = record { is_mag = refl; most = leb→le n side_max (and_yes (leb 0 n) (leb n side_max) fits).1 }
side (negsuc n) fits = absurd fits

-- A size within the bounds: both sides are natural numbers, at most 32,767 each, with at most 1,048,576 cells.
pub record Bounded (size : Size) : Type 0 where
  pub rows_side : Side size.rows
  pub cols_side : Side size.cols
  pub cells_most : count size ≤ cells_max

-- Both sides of such a size fit.
pub sides_fit : (size : Size) → T (in_bounds size) → T (side_fits size.rows) × T (side_fits size.cols)
sides_fit size inside =
    and_yes (side_fits size.rows) (side_fits size.cols) (and_yes (side_fits size.rows && side_fits size.cols) (leb (count size) cells_max) inside).0

pub bounded : (size : Size) → T (in_bounds size) → Bounded size
bounded size inside =
    let (rows_fit, cols_fit) = sides_fit size inside in
    record { rows_side = side size.rows rows_fit; cols_side = side size.cols cols_fit; cells_most = cells_at_most size inside }

pub countable : {size : Size} → T (in_bounds size) → Countable size
countable {size} inside = let within = bounded size inside in record { rows_natural = within.rows_side.is_mag; cols_natural = within.cols_side.is_mag }

-- ---- the tests of the code

-- A signed number as the machine reads it back from its bits.
abbrev pub read : ℤ → ℤ
read k = to_z w32 (of_z w32 k)

-- A natural number is read back as it is, and so is a side that fits.
natural_read : {k : ℤ} → SFits w32 k → k ≡ pos (mag k) → read k ≡ pos (mag k)
natural_read fits natural = to_z-of_z fits ∙ natural

pub side_read : {k : ℤ} → Side k → read k ≡ pos (mag k)
side_read {k} k_side = let most = k_side.most in natural_read (record { sfits = omega arith }) k_side.is_mag

pub side_same : {k : ℤ} → Side k → read k ≡ k
side_same k_side = side_read k_side ∙ sym k_side.is_mag

-- The product of two sides that fit is the number of cells, and fits.
module _ {k l : ℤ} (k_side : Side k) (l_side : Side l) where
  product : read k *ℤ read l ≡ pos (mag k * mag l)
  product = rw (side_read k_side, side_read l_side)

  pub product_fits : SFits w32 (read k *ℤ read l)
  product_fits = rw product (record { sfits = lt_of_le_of_lt (mul-le-mul k_side.most l_side.most) (lit< tt) })

  pub product_read : read (read k *ℤ read l) ≡ pos (mag k * mag l)
  product_read = to_z-of_z product_fits ∙ product

-- A side without its sign.
module _ {k : ℤ} (k_side : Side k) where
  pub cast_fits : (w : Width) → T (leb (suc side_max) (2 ^ bits w)) → T (non_neg (read k)) × Fits w (nat_abs (read k))
  cast_fits w wide = rw (side_read k_side) (tt, Fits-under w (mag k) (suc side_max) (let most = k_side.most in omega arith) wide)

  pub cast_is : nat_abs (read k) ≡ mag k
  cast_is = rw (side_read k_side)

-- A natural number without its sign: less than half of what 32 bits hold, so that two of them have a product that 64 bits hold.
module _ {k : ℤ} (fits : SFits w32 k) (natural : k ≡ pos (mag k)) where
  natural_most : mag k ≤ 2147483647
  natural_most = let small = rw natural at fits.sfits in omega arith

  pub natural_fits : T (non_neg (read k)) × Fits w64 (nat_abs (read k))
  natural_fits = rw (natural_read fits natural) (tt, record { fits = let most = natural_most in omega arith })

module _ (size : Size) (sides : Countable size) (rows_fit : SFits w32 size.rows) (cols_fit : SFits w32 size.cols) where
  pub cells_counted : nat_abs (read size.rows) * nat_abs (read size.cols) ≡ count size
  cells_counted = rw (natural_read rows_fit sides.rows_natural, natural_read cols_fit sides.cols_natural)

  pub cells_fit : Fits w64 (nat_abs (read size.rows) * nat_abs (read size.cols))
  cells_fit = rw cells_counted (record { fits = lt_of_le_of_lt (mul-le-mul (natural_most rows_fit sides.rows_natural) (natural_most cols_fit sides.cols_natural)) (lit< tt) })

-- ---- two sizes

-- Where neither of two signed numbers is above the other they are one.
pub same_number_is : (k l : ℤ) → same_number k l ≡ true → k ≡ l
same_number_is (pos a) (pos b) e = let both = and_yes (leb a b) (leb b a) (holds e) in ap pos (le_antisymm (leb→le a b both.0) (leb→le b a both.1))
same_number_is (pos a) (negsuc b) e = absurd (false≢true e)
same_number_is (negsuc a) (pos b) e = absurd (false≢true e)
same_number_is (negsuc a) (negsuc b) e = let both = and_yes (leb b a) (leb a b) (holds e) in ap negsuc (le_antisymm (leb→le a b both.1) (leb→le b a both.0))
