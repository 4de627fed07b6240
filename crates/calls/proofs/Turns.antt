-- A loop that goes through a slice from the front and stores at each index a function of what stands there. Assumes nothing.
use mathlib.Core.Path.{◌≡◌, refl, sym, ap, ◌∙◌}
use mathlib.Core.List.{List, [], ◌∷◌, ◌++◌, map, append-nil}
use Prim.Native.Nat.{ℕ, zero, suc, ◌+◌, ◌≤◌, ◌<◌}
use native.Mathlib.Nat.{not-suc-le-zero, le_of_suc-le-suc}
use native.Mathlib.Numerals.{add-one}
use native.Mathlib.Omega.{arith}
use lib.ListN.{length, get_or, take, drop, set, replicate, drop_of_length-le}
use lib.Seq.{take_all}

-- Below i the list holds what f makes of what it held, and from i on what it held.
abbrev mapped_below : {A : Type 0} → (A → A) → ℕ → List A → List A
mapped_below f i before = map f (take i before) ++ drop i before

pub record MappedBelow {A : Type 0} (f : A → A) (before now : List A) (i : ℕ) : Type 0 where
  pub reached : i ≤ length before
  pub held : now ≡ mapped_below f i before

module _ {A : Type 0} (f : A → A) where
  -- A store at i of what f makes of what stands there. Proof: by the list, down to index i, where the two lists begin to differ.
  stored : (i : ℕ) (d : A) (before : List A) → i < length before → set (mapped_below f i before) i (f (get_or (mapped_below f i before) i d)) ≡ mapped_below f (suc i) before
  stored i d [] below = absurd (not-suc-le-zero below)
  stored zero d (a ∷ before) below = refl
  stored (suc i) d (a ∷ before) below = ap (λ (rest : List A). f a ∷ rest) (stored i d before (le_of_suc-le-suc below))

  whole : (i : ℕ) (before : List A) → length before ≤ i → mapped_below f i before ≡ map f before
  whole i before end = rw (take_all i before end, drop_of_length-le before end, append-nil)

  -- A loop's invariant: a store carries it on by one, and at the end the list is mapped.
  pub mapped_more : {before now : List A} {i : ℕ} {v : A} (d : A) → MappedBelow f before now i → i < length before → v ≡ f (get_or now i d) → MappedBelow f before (set now i v) (i + 1)
  mapped_more {before} {now} {i} {v} d turns below is = record {
    reached = omega arith;
    held =
        ap (λ (a : A). set now i a) is
        ∙ ap (λ (xs : List A). set xs i (f (get_or xs i d))) turns.held
        ∙ stored i d before below
        ∙ ap (λ (k : ℕ). mapped_below f k before) (sym (add-one i));
  }

  pub mapped_all : {before now : List A} {i : ℕ} → MappedBelow f before now i → length before ≤ i → now ≡ map f before
  mapped_all {before} {now} {i} turns end = turns.held ∙ whole i before end

pub map_constant : {A : Type 0} (v : A) (before : List A) → map (λ (a : A). v) before ≡ replicate (length before) v
map_constant v [] = refl
map_constant v (a ∷ before) = ap (λ (rest : List _). v ∷ rest) (map_constant v before)

-- The same value everywhere.
pub filled_all : {A : Type 0} (v : A) {before now : List A} {i : ℕ} → MappedBelow (λ (a : A). v) before now i → length before ≤ i → now ≡ replicate (length before) v
filled_all v {before} turns end = mapped_all (λ (a : _). v) turns end ∙ map_constant v before
