-- What every search shows of its promise: a refused call keeps it, an accepted one as its search does, it decides the call, and what an accepted call
-- found. Assumes nothing.
use mathlib.Core.Path.{◌≡◌, refl, sym, ap, ◌∙◌, subst}
use mathlib.Core.Bool.{false}
use mathlib.Core.List.{List}
use Prim.Native.Nat.{ℕ}
use lib.Ieee.{Float}
use lib.ListN.{replicate}
use Rattle.rules.specs.Sizes as rules
use Rattle.rules.specs.Sizes.{Judged, passes, stops, Outcome, accepted, unless}
use Rattle.rules.proofs.Tests.{never}
use Rattle.rules.proofs.Decided.{equation_decides}
use Rattle.calls.specs.Answer as code
use Rattle.calls.specs.Answer.{Answer, Ok, Err, judged_as, refusal_number, refusal, takes, told, tell}
use Rattle.calls.specs.Promise.{Slice, slice, Promised, Same}
use Rattle.calls.proofs.Decided.{outcome_decides}
use Rattle.calls.proofs.Untouched.{judged_writes, refused_is, answer_untouched, buffer_untouched}

-- A call that a test refuses says so and leaves every slice as it was.
module _ {refusals : Judged} (search : Unit {0} → Outcome) (refusal : code.Refusal) (stopped : stops (refusal_number refusal) ≡ refusals) where
  pub promised_refused :
      {r : Answer} → r ≡ Err refusal → judged_writes refusals ≡ false → (answer : List Float) (marks queue : List ℕ)
      → Promised r (slice answer answer) (slice marks marks) (slice queue queue) (unless refusals search)
  promised_refused gives quiet answer marks queue = record {
    says = ap told gives ∙ sym (ap tell (refused_is search refusal stopped));
    answer_left = answer_untouched search refusal stopped quiet answer;
    marks_left = buffer_untouched search refusal stopped quiet 0 marks;
    queue_left = buffer_untouched search refusal stopped quiet 0 queue;
  }

-- A call that no test refuses keeps the promise of its search, whatever buffers the promise speaks of.
module _ {refusals : Judged} (search : Unit {0} → Outcome) (judged : code.Judged) (means : judged_as judged ≡ refusals) where
  pub promised_searched : (Keeps : Outcome → Type 0) {found : Outcome} → judged ≡ Ok tt → found ≡ search tt → Keeps found → Keeps (unless refusals search)
  promised_searched Keeps is same kept = subst Keeps (same ∙ ap (λ (r : Judged). unless r search) (sym (ap judged_as is) ∙ means)) kept

-- A buffer that is zeroed has the length that it had.
pub still_zero : {A : Type 0} (zero : A) {after : List A} {long before n : ℕ} → after ≡ replicate long zero → long ≡ n → before ≡ n → after ≡ replicate before zero
still_zero zero zeroed after_long before_long = zeroed ∙ ap (λ n. replicate n zero) (equation_decides after_long before_long)

-- The promise decides the call: two calls that are lent the same slices and keep it answer the same and leave the same.
pub promise_decides :
    (outcome : Outcome) {r s : Answer} {answer answer₁ answer₂ : List Float} {marks marks₁ marks₂ queue queue₁ queue₂ : List ℕ}
    → Promised r (slice answer answer₁) (slice marks marks₁) (slice queue queue₁) outcome
    → Promised s (slice answer answer₂) (slice marks marks₂) (slice queue queue₂) outcome
    → Same r s answer₁ answer₂ marks₁ marks₂ queue₁ queue₂
promise_decides outcome {r} {s} p q = record {
  said = outcome_decides outcome r s p.says q.says;
  answers = equation_decides p.answer_left q.answer_left;
  marks = equation_decides p.marks_left q.marks_left;
  queues = equation_decides p.queue_left q.queue_left;
}

-- A call that tells its takes passed the tests: the takes and the answer are those of its search.
pub record Found (refusals : Judged) (found t : ℕ) (grid answer : List Float) : Type 0 where
  pub passed : refusals ≡ passes
  pub takes_are : t ≡ found
  pub answer_is : answer ≡ grid

pub takes_one : (t u : ℕ) → takes t ≡ takes u → t ≡ u
takes_one t u e = cc

pub refusal_no_takes : (r : rules.Refusal) (t : ℕ) → refusal r ≡ takes t → ⊥
refusal_no_takes r t e = never cc

pub accepted_found :
    (refusals : Judged) (found : ℕ) (grid : List Float) {r : Answer} {answer : Slice Float} {marks queue : Slice ℕ} (t : ℕ)
    → Promised r answer marks queue (unless refusals (λ _. accepted found grid)) → told r ≡ takes t → Found refusals found t grid answer.after
accepted_found passes found grid t promised said = record {
  passed = refl;
  takes_are = takes_one t found (sym said ∙ promised.says);
  answer_is = promised.answer_left;
}
accepted_found (stops r) found grid t promised said = absurd (refusal_no_takes r t (sym promised.says ∙ said))
