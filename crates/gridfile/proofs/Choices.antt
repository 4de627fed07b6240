-- Tests and what they choose. Assumes nothing.
use mathlib.Core.Path.{◌≡◌, refl}
use mathlib.Core.Bool.{Bool, true, false, cond, ◌&&◌, ◌||◌}
use mathlib.Core.List.{List, [], ◌∷◌}
use Prim.Native.Nat.{ℕ}
use borrow.Author.Tests.{eqb-true}
use lib.Dec.{eqb}
use Rattle.rules.proofs.Tests.{and_both}
use Rattle.gridfile.specs.Request.{same, grids_of}

-- What holds of both choices holds of the choice.
pub either : {A : Type 0} (P : A → Type 0) (test : Bool) {x y : A} → P x → P y → P (cond test x y)
either P true px py = px
either P false px py = py

-- Of a Bool, by its two values.
pub by_cases : (P : Type 0) (test : Bool) → (test ≡ true → P) → (test ≡ false → P) → P
by_cases P true holds fails = holds refl
by_cases P false holds fails = fails refl

-- A choice that comes out as its second cannot is its first, and its test holds.
pub chosen_first : {A : Type 0} (test : Bool) {x y outcome : A} → cond test x y ≡ outcome → (y ≡ outcome → ⊥) → (test ≡ true) × (x ≡ outcome)
chosen_first true is other = (refl, is)
chosen_first false is other = absurd (other is)

-- Three choices in a row with the same way out are one.
pub three_choices : {A : Type 0} (a b c : Bool) (x y : A) → cond a (cond b (cond c x y) y) y ≡ cond (a && b && c) x y
three_choices true true c x y = refl
three_choices true false c x y = refl
three_choices false b c x y = refl

pub all_four : (a b c d : Bool) → a && b && c && d ≡ true → (a ≡ true) × (b ≡ true) × (c ≡ true) × (d ≡ true)
all_four a b c d e =
    let last = and_both (a && b && c) d e in
    let third = and_both (a && b) c last.0 in
    let two = and_both a b third.0 in
    (two.0, two.1, third.1, last.1)

pub same_is : (a b : List ℕ) → same a b ≡ true → a ≡ b
unfolding same
same_is [] [] e = refl
same_is [] (b ∷ more) e = cc
same_is (a ∷ rest) [] e = cc
same_is (a ∷ rest) (b ∷ more) e = let both = and_both (eqb a b) (same rest more) e in let h = eqb-true a b both.0 in let t = same_is rest more both.1 in cc

-- What holds of every row of the table of grids, and of no grids at all, holds of what a search has.
pub for_grids : (P : List ℕ → Type 0)
    → P (0x04 ∷ []) → P (0x04 ∷ 0x05 ∷ []) → P (0x04 ∷ 0x06 ∷ []) → P (0x04 ∷ 0x07 ∷ []) → P (0x04 ∷ 0x06 ∷ 0x07 ∷ []) → P (0x06 ∷ 0x07 ∷ []) → P []
    → (search : ℕ) → P (grids_of search)
unfolding grids_of
for_grids P of_1 of_2 of_3 of_4 of_567 of_8 of_none search =
    either P (eqb search 1) of_1
    (either P (eqb search 2) of_2
    (either P (eqb search 3) of_3
    (either P (eqb search 4) of_4
    (either P (eqb search 5 || eqb search 6 || eqb search 7) of_567
    (either P (eqb search 8) of_8 of_none)))))
