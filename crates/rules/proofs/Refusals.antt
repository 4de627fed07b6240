-- Ordered tests, of which the first that holds is given. Assumes nothing.
use mathlib.Core.Bool.{Bool, true, false, cond}
use mathlib.Core.List.{List, [], ◌∷◌, ◌++◌}
use mathlib.Core.Path.{◌≡◌, refl, ap, ◌∙◌}
use Prim.Native.Nat.{ℕ}
use Rattle.rules.specs.Sizes.{Size, Lent, Refusal, Judged, passes, stops, or_else, first_that_holds, any, out_of_bounds, differs, wrong_length, shape}
use Rattle.rules.proofs.Tests.{never}

-- Tests in their order, each with the refusal that it gives.
abbrev pub Tests : Type 0
Tests = List (Bool × Refusal)

-- If no test of a list holds, the first does not, and none of the others.
pub not_held : (test : Bool × Refusal) (tests : Tests) → first_that_holds (test ∷ tests) ≡ passes → (test.0 ≡ false) × (first_that_holds tests ≡ passes)
unfolding first_that_holds
not_held (holds, refusal) tests = go holds
  where
    go : (b : Bool) → cond b (stops refusal) (first_that_holds tests) ≡ passes → (b ≡ false) × (first_that_holds tests ≡ passes)
    go true e = never cc
    go false e = (refl, e)

-- If none of the shape and of what follows holds, those on sizes and lengths do not, and none of the search's own.
pub shape_not_held :
    (size : Size) (others : List Size) (inputs : List ℕ) (lent : Lent) (more : Tests) → first_that_holds (shape size others inputs lent more) ≡ passes
    → (any out_of_bounds (size ∷ others) ≡ false) × (any (differs size) others ≡ false) × (wrong_length size inputs lent ≡ false) × (first_that_holds more ≡ passes)
unfolding shape
shape_not_held size others inputs lent more e =
    let (bounds, e) = not_held _ _ e in
    let (sizes, e) = not_held _ _ e in
    let (lengths, e) = not_held _ _ e in
    (bounds, sizes, lengths, e)

or_else_first : (holds : Bool) (refusal : Refusal) (both first later : Judged) → both ≡ or_else first later → cond holds (stops refusal) both ≡ or_else (cond holds (stops refusal) first) later
or_else_first true refusal both first later e = refl
or_else_first false refusal both first later e = e

-- Two lists, one behind the other, come to the first that refuses.
-- Proof: by the first list. A test that holds decides on both sides, and one that fails is passed over on both.
pub or_else_append : (tests more : Tests) → first_that_holds (tests ++ more) ≡ or_else (first_that_holds tests) (first_that_holds more)
unfolding first_that_holds
or_else_append [] more = refl
or_else_append ((holds, refusal) ∷ tests) more = or_else_first holds refusal (first_that_holds (tests ++ more)) (first_that_holds tests) (first_that_holds more) (or_else_append tests more)

-- Where none of the first tests holds, the later ones decide.
pub later_decide : (tests more : Tests) → first_that_holds tests ≡ passes → first_that_holds (tests ++ more) ≡ first_that_holds more
later_decide tests more none = or_else_append tests more ∙ ap (λ (first : Judged). or_else first (first_that_holds more)) none
