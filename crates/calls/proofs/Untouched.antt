-- What follows for a call that a test refuses: the outcome, and the lent slices as they were. Assumes nothing.
use mathlib.Core.Path.{◌≡◌, refl, sym, ap, ◌∙◌}
use mathlib.Core.Bool.{Bool, true, false, cond}
use mathlib.Core.List.{List, [], ◌∷◌}
use Prim.Native.Nat.{ℕ}
use lib.ListN.{length, replicate}
use lib.Ieee.{Float, nan}
use Rattle.rules.specs.declared.Spacing.{Spacing}
use Rattle.rules.specs.Sizes.{Refusal, Judged, passes, stops, Outcome, refused, unless, Grid, Lent, first_that_holds, shape}
use Rattle.rules.specs.Distances.{refusals_1, refusals_2, refusals_3}
use Rattle.rules.specs.Values.{refusals_4, refusals_5, refusals_6}
use Rattle.rules.specs.Sums.{refusals_7, refusals_8}
use Rattle.calls.specs.Answer as code
use Rattle.calls.specs.Answer.{refusal_number, writes, answer_after, buffer_after}

-- ---- no refusal that comes before the search writes

-- Whether what tests come to writes to a lent slice.
abbrev pub judged_writes : Judged → Bool
judged_writes passes = false
judged_writes (stops refusal) = writes refusal

-- No test has a refusal that writes.
abbrev Quiet : List (Bool × Refusal) → Type 0
Quiet [] = Unit {0}
Quiet ((holds, refusal) ∷ more) = (writes refusal ≡ false) × Quiet more

quiet_first : (holds : Bool) (refusal : Refusal) (later : Judged) → writes refusal ≡ false → judged_writes later ≡ false → judged_writes (cond holds (stops refusal) later) ≡ false
quiet_first true refusal later first others = first
quiet_first false refusal later first others = others

quietly : (tests : List (Bool × Refusal)) → Quiet tests → judged_writes (first_that_holds tests) ≡ false
unfolding first_that_holds
quietly [] quiet = refl
quietly ((holds, refusal) ∷ more) quiet = quiet_first holds refusal (first_that_holds more) quiet.0 (quietly more quiet.1)

-- Of the refusals 1 to 6 none writes, in any search. Each number is looked at.
module _ (targets : Grid ℕ) (lent : Lent) where
  pub quiet_1 : (spacing : Spacing) → judged_writes (refusals_1 targets spacing lent) ≡ false
  unfolding refusals_1 shape
  quiet_1 spacing = quietly _ (refl, (refl, (refl, (refl, (refl, tt)))))

  pub quiet_2 : (obstacles : Grid ℕ) (spacing : Spacing) → judged_writes (refusals_2 targets obstacles spacing lent) ≡ false
  unfolding refusals_2 shape
  quiet_2 obstacles spacing = quietly _ (refl, (refl, (refl, (refl, tt))))

  pub quiet_3 : (times : Grid Float) (cap : Float) → judged_writes (refusals_3 targets times cap lent) ≡ false
  unfolding refusals_3 shape
  quiet_3 times cap = quietly _ (refl, (refl, (refl, (refl, (refl, tt)))))

  pub quiet_4 : (values : Grid Float) → judged_writes (refusals_4 targets values lent) ≡ false
  unfolding refusals_4 shape
  quiet_4 values = quietly _ (refl, (refl, (refl, tt)))

  pub quiet_5 : (times values : Grid Float) → judged_writes (refusals_5 targets times values lent) ≡ false
  unfolding refusals_5 shape
  quiet_5 times values = quietly _ (refl, (refl, (refl, (refl, tt))))

  pub quiet_6 : (times values : Grid Float) (limit : Float) → judged_writes (refusals_6 targets times values limit lent) ≡ false
  unfolding refusals_6 shape
  quiet_6 times values limit = quietly _ (refl, (refl, (refl, (refl, (refl, tt)))))

  pub quiet_7 : (times values : Grid Float) (budget : Float) → judged_writes (refusals_7 targets times values budget lent) ≡ false
  unfolding refusals_7 shape
  quiet_7 times values budget = quietly _ (refl, (refl, (refl, (refl, (refl, tt)))))

pub quiet_8 : (times amounts : Grid Float) (budget : Float) (lent : Lent) → judged_writes (refusals_8 times amounts budget lent) ≡ false
unfolding refusals_8 shape
quiet_8 times amounts budget lent = quietly _ (refl, (refl, (refl, (refl, (refl, tt)))))

-- ---- the outcome, and the slices of a call that is refused

module _ {refusals : Judged} (search : Unit {0} → Outcome) (refusal : code.Refusal) (stopped : stops (refusal_number refusal) ≡ refusals) where
  pub refused_is : unless refusals search ≡ refused (refusal_number refusal)
  refused_is = ap (λ (j : Judged). unless j search) (sym stopped)

  writes_not : judged_writes refusals ≡ false → writes (refusal_number refusal) ≡ false
  writes_not quiet = ap judged_writes stopped ∙ quiet

  pub answer_untouched : judged_writes refusals ≡ false → (before : List Float) → before ≡ answer_after (unless refusals search) before
  answer_untouched quiet before = sym (
      ap (λ (outcome : Outcome). answer_after outcome before) refused_is ∙ ap (λ (b : Bool). cond b (replicate (length before) nan) before) (writes_not quiet))

  pub buffer_untouched : judged_writes refusals ≡ false → {A : Type 0} (zero : A) (before : List A) → before ≡ buffer_after zero (unless refusals search) before
  buffer_untouched quiet zero before = sym (
      ap (λ (outcome : Outcome). buffer_after zero outcome before) refused_is ∙ ap (λ (b : Bool). cond b (replicate (length before) zero) before) (writes_not quiet))
