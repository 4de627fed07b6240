-- What stands in a list, and how long a part of one is. Assumes nothing.
use mathlib.Core.List.{List, [], ◌∷◌}
use mathlib.Core.Logic.{inl, inr}
use mathlib.Core.Path.{◌≡◌, refl}
use Prim.Native.Nat.{ℕ, zero, suc, ◌≤◌, ◌<◌, suc-le-suc}
use native.Mathlib.Nat.{not-suc-le-zero, le_of_suc-le-suc}
use native.Mathlib.Omega.{arith}
use lib.ListN.{length, get_or, take}
use Rattle.fifo.specs.Walk.{In}

-- An entry before the end.
pub in_list : (l : List ℕ) (k d : ℕ) → k < length l → In (get_or l k d) l
in_list [] k d less = absurd (not-suc-le-zero less)
in_list (a ∷ l) zero d less = inl refl
in_list (a ∷ l) (suc k) d less = inr (in_list l k d (le_of_suc-le-suc less))

-- A part that has as many entries as it was to have is no longer than the whole.
pub take_few : {A : Type 0} (n : ℕ) (l : List A) → length (take n l) ≡ n → n ≤ length l
take_few zero l full = omega arith
take_few (suc n) [] full = omega arith
take_few (suc n) (a ∷ l) full = suc-le-suc (take_few n l (let less : length (take n l) ≡ n = omega arith in less))
