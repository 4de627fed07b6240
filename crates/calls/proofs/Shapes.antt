-- What is known of sizes and lengths where a call is not refused for them. Assumes nothing.
use mathlib.Core.Path.{◌≡◌, sym, ap, ◌∙◌}
use mathlib.Core.Bool.{Bool, false}
use mathlib.Core.List.{List, [], ◌∷◌, ◌++◌}
use Prim.Native.Nat.{ℕ, suc}
use borrow.Author.Tests.{not-false, eqb-true}
use lib.Dec.{T, eqb}
use lib.IntN.{ℤ}
use Rattle.rules.specs.declared.Size.{Size}
use Rattle.rules.specs.Sizes.{passes, Lent, first_that_holds, any, shape, in_bounds, same_number, same_size, count, differs, other_than}
use Rattle.fifo.proofs.Lists.{holds}
use Rattle.rules.proofs.Refusals.{Tests, shape_not_held}
use Rattle.rules.proofs.Tests.{and_both, neither}
use Rattle.cells.proofs.Bounds.{same_number_is}

-- Each of a list is a.
abbrev pub AllEqual : {A : Type 0} → A → List A → Type 0
AllEqual a [] = Unit {0}
AllEqual a (b ∷ rest) = (b ≡ a) × AllEqual a rest

-- The size is within the bounds, the other grids have it too, and every slice has its length.
pub record Shaped (size : Size) (others : List Size) (inputs : List ℕ) (lent : Lent) : Type 0 where
  pub within : T (in_bounds size)
  pub alike : AllEqual size others
  pub long : AllEqual (count size) (inputs ++ lent.lengths)
  pub queue_long : lent.queue_length ≡ suc (count size)

-- Where no test finds another than a, all are a.
all_equal : {A : Type 0} {a : A} (test : A → Bool) → ((b : A) → test b ≡ false → b ≡ a) → (xs : List A) → any test xs ≡ false → AllEqual a xs
unfolding any
all_equal test is [] none = tt
all_equal test is (b ∷ xs) none = let parts = neither (test b) (any test xs) none in (is b parts.0, all_equal test is xs parts.1)

same_size_is : (a b : Size) → differs a b ≡ false → b ≡ a
same_size_is a b e =
    let both = and_both (same_number a.rows b.rows) (same_number a.cols b.cols) (not-false (same_size a b) e) in
    sym (ap (λ (k : ℤ). record { rows = k; cols = a.cols }) (same_number_is a.rows b.rows both.0) ∙ ap (λ (k : ℤ). record { rows = b.rows; cols = k }) (same_number_is a.cols b.cols both.1))

module _ {size : Size} {others : List Size} {inputs : List ℕ} {lent : Lent} where
  -- A call that passes the tests has its shape.
  pub shaped : (more : Tests) → first_that_holds (shape size others inputs lent more) ≡ passes → Shaped size others inputs lent
  unfolding any
  shaped more pass =
      let (bounds, sizes, lengths, later) = shape_not_held size others inputs lent more pass in
      let (long, queue_long) = neither _ _ lengths in
      record {
        within = holds (not-false (in_bounds size) (neither _ _ bounds).0);
        alike = all_equal (differs size) (same_size_is size) others sizes;
        long = all_equal (other_than (count size)) (λ l e. eqb-true l (count size) (not-false (eqb l (count size)) e)) (inputs ++ lent.lengths) long;
        queue_long = eqb-true lent.queue_length (suc (count size)) (not-false (eqb lent.queue_length (suc (count size))) queue_long);
      }
