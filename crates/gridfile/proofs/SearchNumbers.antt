-- The searches and their numbers: each search has one of 1 to 8, and each of these is one search's. Assumes nothing.
use mathlib.Core.Path.{◌≡◌, refl, sym, ap, ◌∙◌}
use mathlib.Core.Bool.{Bool, true, false, cond, ◌&&◌}
use Prim.Native.Nat.{ℕ, ◌≤◌}
use native.Mathlib.Omega.{arith}
use borrow.Author.Tests.{leb-true}
use lib.Dec.{leb}
use Rattle.std.proofs.Common.{Result, Ok, Err}
use Rattle.std.proofs.lemmas.Bool.Decides.{nat_tests}
use Rattle.gridfile.specs.Request.{Search, DistancesUpTo, DistanceWithObstacles, TravelDistancesUpTo, ValueAtClosestTarget, ValueAtClosestTravelTarget, ValueAtClosestLessThanTravelTarget, SumWithinTravelDistance, SumTargetsWithinTravelDistance, BadFile, search_number, search_of, search_asked}
use Rattle.rules.proofs.Tests.{and_both, never}
use Rattle.gridfile.proofs.Choices.{chosen_first}

-- Every search's number is in the range.
pub number_fits : (s : Search) → leb 1 (search_number s) && leb (search_number s) 8 ≡ true
number_fits DistancesUpTo = refl
number_fits DistanceWithObstacles = refl
number_fits TravelDistancesUpTo = refl
number_fits ValueAtClosestTarget = refl
number_fits ValueAtClosestTravelTarget = refl
number_fits ValueAtClosestLessThanTravelTarget = refl
number_fits SumWithinTravelDistance = refl
number_fits SumTargetsWithinTravelDistance = refl

pub number_from : (s : Search) → 1 ≤ search_number s
number_from s = leb-true 1 (search_number s) (and_both (leb 1 (search_number s)) (leb (search_number s) 8) (number_fits s)).0

pub number_to : (s : Search) → search_number s ≤ 8
number_to s = leb-true (search_number s) 8 (and_both (leb 1 (search_number s)) (leb (search_number s) 8) (number_fits s)).1

-- A search is the one with its number.
pub search_back : (s : Search) → search_of (search_number s) ≡ s
search_back DistancesUpTo = refl
search_back DistanceWithObstacles = refl
search_back TravelDistancesUpTo = refl
search_back ValueAtClosestTarget = refl
search_back ValueAtClosestTravelTarget = refl
search_back ValueAtClosestLessThanTravelTarget = refl
search_back SumWithinTravelDistance = refl
search_back SumTargetsWithinTravelDistance = refl

-- A number in the range is that of its search.
pub number_back : (n : ℕ) → 1 ≤ n → n ≤ 8 → search_number (search_of n) ≡ n
number_back n low high = grind (arith, nat_tests)

-- What is asked for is the search with the number, which is in the range.
pub asked_search : (n : ℕ) (s : Search) → search_asked n ≡ Ok s → s ≡ search_of n
asked_search n s e =
    let is : ◌≡◌ {A = Result Search BadFile} (Ok (search_of n)) (Ok s) = (chosen_first (leb 1 n && leb n 8) e (λ is. never cc)).1 in
    cc

pub asked_number : (n : ℕ) (s : Search) → search_asked n ≡ Ok s → n ≡ search_number s
asked_number n s e =
    let both = and_both (leb 1 n) (leb n 8) (chosen_first (leb 1 n && leb n 8) e (λ is. never cc)).0 in
    sym (number_back n (leb-true 1 n both.0) (leb-true n 8 both.1)) ∙ ap search_number (sym (asked_search n s e))

-- And where none is, the number is out of the range.
pub none_asked : (n : ℕ) (x : BadFile) → search_asked n ≡ Err x → leb 1 n && leb n 8 ≡ false
none_asked n x = go (leb 1 n && leb n 8)
  where
    go : (b : Bool) → cond b (Ok (search_of n)) (Err (record {})) ≡ Err x → b ≡ false
    go true e = never cc
    go false e = refl
