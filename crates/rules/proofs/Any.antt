-- Whether one of a list passes a test, and which is the first that does. Assumes nothing.
use mathlib.Core.Bool.{Bool, true, false, ◌||◌, or-true, or_assoc}
use mathlib.Core.List.{List, [], ◌∷◌, ◌++◌}
use mathlib.Core.Path.{◌≡◌, refl, sym, ap, ◌∙◌}
use Prim.Native.Nat.{ℕ, zero, suc, ◌+◌, ◌≤◌, ◌<◌}
use native.Mathlib.Nat.{not-suc-le-zero, le_of_suc-le-suc}
use native.Mathlib.Numerals.{add-one}
use lib.ListN.{length, get_or, take}
use Rattle.rules.specs.Sizes.{any, first_index}
use Rattle.rules.proofs.Tests.{neither}

module _ {A : Type 0} (test : A → Bool) where
  pub any_none : any test [] ≡ false
  unfolding any
  any_none = refl

  -- None passes: not the first, and none of the rest.
  none_first : (a : A) (rest : List A) → any test (a ∷ rest) ≡ false → (test a ≡ false) × (any test rest ≡ false)
  unfolding any
  none_first a rest none = neither (test a) (any test rest) none

  first_none : (a : A) (rest : List A) → test a ≡ false → any test rest ≡ false → any test (a ∷ rest) ≡ false
  unfolding any
  first_none a rest here none = rw here none

  -- Where none passes, what stands at any index fails, and past the end so does the default.
  pub none_passes : (d : A) → test d ≡ false → (l : List A) → any test l ≡ false → (k : ℕ) → test (get_or l k d) ≡ false
  none_passes d fails [] none k = fails
  none_passes d fails (a ∷ l) none zero = (none_first a l none).0
  none_passes d fails (a ∷ l) none (suc k) = none_passes d fails l (none_first a l none).1 k

  any_suc : (d : A) (k : ℕ) (l : List A) → k < length l → any test (take k l) ≡ false → test (get_or l k d) ≡ false → any test (take (suc k) l) ≡ false
  any_suc d k [] below none fails = absurd (not-suc-le-zero below)
  any_suc d zero (a ∷ l) below none fails = first_none a [] fails none
  any_suc d (suc k) (a ∷ l) below none fails =
      let rest = none_first a (take k l) none in
      first_none a (take (suc k) l) rest.0 (any_suc d k l (le_of_suc-le-suc below) rest.1 fails)

  -- None of the first k passes, nor does the next.
  pub any_more : (d : A) (k : ℕ) (l : List A) → k < length l → any test (take k l) ≡ false → test (get_or l k d) ≡ false → any test (take (k + 1) l) ≡ false
  any_more d k l below none fails = rw add-one (any_suc d k l below none fails)

  -- One before the end of a part passes.
  pub any_passes : (d : A) (n k : ℕ) (l : List A) → k < n → n ≤ length l → test (get_or l k d) ≡ true → any test (take n l) ≡ true
  unfolding any
  any_passes d zero k l less few passes = absurd (not-suc-le-zero less)
  any_passes d (suc n) k [] less few passes = absurd (not-suc-le-zero few)
  any_passes d (suc n) zero (a ∷ l) less few passes = rw passes
  any_passes d (suc n) (suc k) (a ∷ l) less few passes =
      ap (λ b. test a || b) (any_passes d n k l (le_of_suc-le-suc less) (le_of_suc-le-suc few) passes) ∙ or-true (test a)

  -- Where none before k passes and k does, k is the first. Proof: by the list, each element before k being passed over.
  pub first_is : (d : A) (k : ℕ) (l : List A) → k < length l → any test (take k l) ≡ false → test (get_or l k d) ≡ true → first_index test l ≡ k
  unfolding first_index
  first_is d k [] below none passes = absurd (not-suc-le-zero below)
  first_is d zero (a ∷ l) below none passes = rw passes
  first_is d (suc k) (a ∷ l) below none passes =
      let rest = none_first a (take k l) none in
      rw rest.0 (ap suc (first_is d k l (le_of_suc-le-suc below) rest.1 passes))

  -- One of two lists together passes where one of either does.
  pub any_append : (l m : List A) → any test (l ++ m) ≡ (any test l || any test m)
  unfolding any
  any_append [] m = refl
  any_append (a ∷ l) m = ap (λ rest. test a || rest) (any_append l m) ∙ sym (or_assoc (test a) (any test l) (any test m))
