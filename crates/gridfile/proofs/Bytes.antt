-- The bytes of a number, as std reads and writes them. Assumes nothing.
use mathlib.Core.Path.{◌≡◌, refl, sym, ap}
use mathlib.Core.List.{List, [], ◌∷◌}
use Prim.Native.Nat.{ℕ, ◌<◌}
use native.Mathlib.Nat.{mod-eq_of_lt}
use native.Mathlib.Omega.{arith}
use lib.ListN.{take, drop}
use Rattle.std.specs.Int.{w16, w32, w64, from_le_bytes, to_le_bytes}
use Rattle.gridfile.specs.Fields.{u32_of}
use Rattle.gridfile.specs.Answers.{little_endian}
use Rattle.std.proofs.lemmas.Grind.{common_steps}

-- What std reads from four bytes of a file.
pub u32_read : (file : List ℕ) (at : ℕ) → from_le_bytes w32 (take 4 (drop at file)) ≡ u32_of file at
u32_read file at = grind (arith, common_steps)

-- And what it writes.
pub one_byte : (n : ℕ) → n < 256 → n ∷ [] ≡ little_endian 1 n
unfolding little_endian
one_byte n small = ap (λ (k : ℕ). k ∷ []) (sym (mod-eq_of_lt small))

pub two_bytes : (n : ℕ) → to_le_bytes w16 n ≡ little_endian 2 n
unfolding little_endian
two_bytes n = refl

pub four_bytes : (n : ℕ) → to_le_bytes w32 n ≡ little_endian 4 n
unfolding little_endian
four_bytes n = grind arith

pub eight_bytes : (n : ℕ) → to_le_bytes w64 n ≡ little_endian 8 n
unfolding little_endian
eight_bytes n = grind arith
