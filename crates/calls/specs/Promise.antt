-- What every search promises, once its rules give the outcome. Definitions only.
use Rattle.std.specs.Prelude.{List, ◌≡◌, ℕ, Float}
use Rattle.rules.specs.Sizes.{Outcome}
use Rattle.calls.specs.Answer.{Answer, told, tell, answer_after, buffer_after}

-- A lent slice: as it was given, and as the call leaves it.
pub record Slice (A : Type 0) : Type 0 where
  pub before : List A
  pub after : List A

abbrev pub slice : {A : Type 0} → List A → List A → Slice A
slice before after = record { before = before; after = after }

-- The call says what the outcome tells, and leaves in the answer, the marks and the queue what the outcome leaves there.
pub record Promised (r : Answer) (answer : Slice Float) (marks queue : Slice ℕ) (outcome : Outcome) : Type 0 where
  pub says : told r ≡ tell outcome
  pub answer_left : answer.after ≡ answer_after outcome answer.before
  pub marks_left : marks.after ≡ buffer_after 0 outcome marks.before
  pub queue_left : queue.after ≡ buffer_after 0 outcome queue.before

-- Two calls answer the same and leave the same.
pub record Same (r s : Answer) (answer₁ answer₂ : List Float) (marks₁ marks₂ queue₁ queue₂ : List ℕ) : Type 0 where
  pub said : r ≡ s
  pub answers : answer₁ ≡ answer₂
  pub marks : marks₁ ≡ marks₂
  pub queues : queue₁ ≡ queue₂
