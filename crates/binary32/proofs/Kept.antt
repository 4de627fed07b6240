-- What the two floats tell that are asked for: under binary32 everything is kept. Assumes nothing.
use mathlib.Core.Bool.{Bool, true, false, ◌&&◌}
use mathlib.Core.Path.{◌≡◌, refl, sym, ap, ◌∙◌}
use Prim.Native.Nat.{ℕ}
use lib.Dec.{eqb}
use lib.Ieee.{Float, binary32, add, of_bits, to_bits}
use Rattle.binary32.specs.Numbers.{one}
use Rattle.binary32.specs.Environment.{least, half_after_one, rounds_up, rounds_to_nearest, keeps_binary32}

-- Of 1 and the least float the answer is yes: no is an environment's doing.
pub binary32_keeps : keeps_binary32 one least ≡ true
unfolding add of_bits to_bits
binary32_keeps = refl

-- Where the first sum is another, that decides; else the second does.
pub first_fails : (x : Float) {bits : ℕ} → bits ≡ to_bits binary32 (add binary32 x half_after_one) → eqb bits 0x3f80_0000 ≡ false → false ≡ rounds_to_nearest x
first_fails x told other = sym (ap (λ (b : Bool). b && rounds_up x) (ap (λ (k : ℕ). eqb k 0x3f80_0000) (sym told) ∙ other))

pub second_decides : (x : Float) {bits : ℕ} → bits ≡ to_bits binary32 (add binary32 x half_after_one) → eqb bits 0x3f80_0000 ≡ true → rounds_up x ≡ rounds_to_nearest x
second_decides x told same = sym (ap (λ (b : Bool). b && rounds_up x) (ap (λ (k : ℕ). eqb k 0x3f80_0000) (sym told) ∙ same))
