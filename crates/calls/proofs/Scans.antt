-- A loop, or a chain, that goes through a slice from the front and stops at the first that passes a test. Assumes nothing.
use mathlib.Core.Path.{◌≡◌, refl, ap}
use mathlib.Core.Bool.{Bool, true, false, ◌||◌}
use Rattle.std.specs.List.{list_any}
use mathlib.Core.List.{List, [], ◌∷◌}
use Prim.Native.Nat.{ℕ, ◌+◌, ◌≤◌, ◌<◌}
use native.Mathlib.Omega.{arith}
use lib.ListN.{length, get_or, take}
use lib.Seq.{take_all}
use Rattle.rules.specs.Sizes.{any, first_index}
use Rattle.rules.proofs.Any.{any_none, any_more, any_passes, first_is}

-- What the library's `any` says of a list.
pub listed : {A : Type 0} (test : A → Bool) (xs : List A) → any test xs ≡ list_any test xs
unfolding any
listed test [] = refl
listed test (a ∷ xs) = ap (λ rest. test a || rest) (listed test xs)

-- None of the first i passes the test.
pub record NoneBelow {A : Type 0} (test : A → Bool) (xs : List A) (i : ℕ) : Type 0 where
  pub reached : i ≤ length xs
  pub none : any test (take i xs) ≡ false

module _ {A : Type 0} (test : A → Bool) where
  -- A loop's invariant: it holds at 0, an element that fails carries it on, and it says at the end that none passes, or which is the first.
  pub none_yet : (xs : List A) → NoneBelow test xs 0
  none_yet xs = record { reached = omega arith; none = any_none test }

  pub none_more : (d : A) {xs : List A} {i : ℕ} → NoneBelow test xs i → i < length xs → test (get_or xs i d) ≡ false → NoneBelow test xs (i + 1)
  none_more d {xs} {i} scan below here = record {
    reached = omega arith;
    none = any_more test d i xs below scan.none here;
  }

  pub none_all : {xs : List A} {i : ℕ} → NoneBelow test xs i → length xs ≤ i → any test xs ≡ false
  none_all {xs} {i} scan end = rw (take_all i xs end) at scan.none

  pub one_passes : (d : A) {xs : List A} {i : ℕ} → NoneBelow test xs i → i < length xs → test (get_or xs i d) ≡ true → any test xs ≡ true
  one_passes d {xs} {i} scan below here = rw (take_all (length xs) xs (omega arith)) at (any_passes test d (length xs) i xs below (omega arith) here)

  pub first_passes : (d : A) {xs : List A} {i : ℕ} → NoneBelow test xs i → i < length xs → test (get_or xs i d) ≡ true → first_index test xs ≡ i
  first_passes d {xs} {i} scan below here = first_is test d i xs below scan.none here
