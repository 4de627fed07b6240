-- The cells beside the listed ones: a cell that is tried is added where the rules say so, and cells are tried one after the other. Assumes nothing.
use mathlib.Core.Bool.{Bool, true, false, not, cond, ◌&&◌}
use mathlib.Core.List.{List, [], ◌∷◌, ◌++◌, append_assoc, foldl, foldl-append}
use mathlib.Core.Logic.{◌⊎◌, inl, inr, ⊎_elim}
use mathlib.Core.Path.{◌≡◌, refl, sym, ap, ◌∙◌}
use Prim.Native.Nat.{ℕ, ◌<◌}
use lib.Dec.{eqb}
use lib.Ieee.{Float}
use lib.ListN.{length, get_or, set, length-set}
use Rattle.fifo.specs.Machine.{among, joined}
use Rattle.fifo.specs.Walk.{In}
use Rattle.fifo.proofs.Lists.{by_test, true_or_false, among_in, in_among, not_among, in_front, in_back, in_either, joined_waiting, joined_new, joined_cases}
use Rattle.rules.specs.Sums.{add_value, above_budget, adjoin}
use Rattle.reach.specs.Listing.{Met}
use Rattle.reach.specs.Adjacent.{Adjoins}
use Rattle.reach.proofs.Listings.{met_says, met_more}
use Rattle.reach.proofs.Sums.{added_more}

-- ---- one cell

module _ (distances : List Float) (budget : Float) (cells found : List ℕ) (v : ℕ) where
  -- A cell that is listed, or was found, is not added again.
  adjoin_met : among v (cells ++ found) ≡ true → adjoin distances budget cells found v ≡ found
  unfolding adjoin
  adjoin_met met = ⊎_elim was_listed was_found (in_either v cells found (among_in v (cells ++ found) met))
    where
      kept : (b : Bool) → joined v found ≡ found → cond b (joined v found) found ≡ found
      kept true same = same
      kept false same = refl

      was_listed : In v cells → cond (not (among v cells) && above_budget distances budget v) (joined v found) found ≡ found
      was_listed i = rw (in_among v cells i)

      was_found : In v found → cond (not (among v cells) && above_budget distances budget v) (joined v found) found ≡ found
      was_found i = kept (not (among v cells) && above_budget distances budget v) (joined_waiting v found (in_among v found i))

  -- A cell within the budget is not added.
  adjoin_within : above_budget distances budget v ≡ false → adjoin distances budget cells found v ≡ found
  unfolding adjoin
  adjoin_within e = rw e (never (not (among v cells)))
    where
      never : (b : Bool) → cond (b && false) (joined v found) found ≡ found
      never true = refl
      never false = refl

  -- Any other cell is added.
  adjoin_new : among v (cells ++ found) ≡ false → above_budget distances budget v ≡ true → adjoin distances budget cells found v ≡ found ++ v ∷ []
  unfolding adjoin
  adjoin_new new beyond =
      let not_listed = not_among v cells (λ i. true_or_false (in_among v (cells ++ found) (in_front v cells found i)) new) in
      let not_found = not_among v found (λ i. true_or_false (in_among v (cells ++ found) (in_back v cells found i)) new) in
      rw (not_listed, beyond) (joined_new v found not_found)

module _ (values distances : List Float) (budget : Float) {v : ℕ} {met : List ℕ} (sum : Float) (inside : v < length met) where
  -- Nothing changes where no more is found.
  kept : ((cells found : List ℕ) → Met (length met) met (cells ++ found) → adjoin distances budget cells found v ≡ found) → Adjoins values distances budget (v ∷ []) met sum met sum
  kept same = record { adds = λ base cells found adding. rw (same cells found adding.marks) adding; same_length = refl }

  pub met_before : eqb (get_or met v 0) 0 ≡ false → Adjoins values distances budget (v ∷ []) met sum met sum
  met_before old = kept (λ cells found marks. adjoin_met distances budget cells found v (met_says marks v inside old))

  pub within_budget : above_budget distances budget v ≡ false → Adjoins values distances budget (v ∷ []) met sum met sum
  within_budget e = kept (λ cells found marks. adjoin_within distances budget cells found v e)

  -- A cell that was not met and is above the budget is met, and its value added.
  pub added_new :
      eqb (get_or met v 0) 0 ≡ true → above_budget distances budget v ≡ true → {sum' : Float} → sum' ≡ add_value values sum v
      → Adjoins values distances budget (v ∷ []) met sum (set met v 1) sum'
  added_new new beyond {sum'} means = record {
    adds = λ base cells found adding. rw (adjoin_new distances budget cells found v (met_says adding.marks v inside new) beyond) (record {
      marks = rw (← append_assoc cells found (v ∷ [])) (met_more adding.marks v inside);
      added = means ∙ ap (λ s. add_value values s v) adding.added ∙ sym (added_more values base found v);
    });
    same_length = length-set met v 1;
  }

-- ---- cells one after the other

module _ {values distances : List Float} {budget : Float} where
  pub adjoins_none : {met : List ℕ} {sum : Float} → Adjoins values distances budget [] met sum met sum
  adjoins_none = record { adds = λ base cells found adding. adding; same_length = refl }

  pub adjoins_on :
      {us vs : List ℕ} {met met' met'' : List ℕ} {sum sum' sum'' : Float}
      → Adjoins values distances budget us met sum met' sum' → Adjoins values distances budget vs met' sum' met'' sum''
      → Adjoins values distances budget (us ++ vs) met sum met'' sum''
  adjoins_on {us} {vs} {met} {met'} {met''} {sum'' = sum''} first then = record {
    adds = λ base cells found adding.
        rw (foldl-append (adjoin distances budget cells) found us vs)
        (rw first.same_length at (then.adds base cells (foldl (adjoin distances budget cells) found us) (rw first.same_length (first.adds base cells found adding))));
    same_length = then.same_length ∙ first.same_length;
  }

-- A cell that was found was found before, or is one of those that were tried.
adjoined_cases : (distances : List Float) (budget : Float) (cells found : List ℕ) (v c : ℕ) → In c (adjoin distances budget cells found v) → In c found ⊎ (c ≡ v)
unfolding adjoin
adjoined_cases distances budget cells found v c =
    by_test (λ l. In c l → In c found ⊎ (c ≡ v)) (not (among v cells) && above_budget distances budget v) (λ added. joined_cases c v found) (λ kept. inl)

pub found_tried :
    (distances : List Float) (budget : Float) (cells found vs : List ℕ) (c : ℕ) → In c (foldl (adjoin distances budget cells) found vs) → In c found ⊎ In c vs
found_tried distances budget cells found [] c i = inl i
found_tried distances budget cells found (v ∷ vs) c i =
    ⊎_elim (λ j. ⊎_elim inl (λ same. inr (inl same)) (adjoined_cases distances budget cells found v c j)) (λ j. inr (inr j))
    (found_tried distances budget cells (adjoin distances budget cells found v) vs c i)
