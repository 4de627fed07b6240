-- What a stored answer says of a call. Definitions only.
use Rattle.std.specs.Prelude.{ℕ, ◌≡◌, Bool, true, Result, Ok, Err, nat_eq}
use Rattle.calls.specs.declared.answer.Counts.{Counts}
use Rattle.calls.specs.declared.answer.Refusal.{Refusal}
use Rattle.calls.specs.declared.numbers.Numbered.{Numbered}
use Rattle.calls.specs.Answer.{refusal_number}
use Rattle.calls.specs.Numbered.{numbered_as}

-- The takes are those of the call, or the number and the index are those of its refusal.
abbrev pub Tells : Result Counts Refusal → Result ℕ Numbered → Type 0
Tells (Ok counts) (Ok takes) = counts.takes ≡ takes
Tells (Ok counts) (Err numbered) = ⊥
Tells (Err refusal) (Ok takes) = ⊥
Tells (Err refusal) (Err numbered) = numbered_as numbered ≡ refusal_number refusal

-- Whether a call with this answer has cleared its work buffers: it was accepted, or refused by 7.
abbrev pub clears : Result ℕ Numbered → Bool
clears (Ok takes) = true
clears (Err refusal) = nat_eq refusal.number 7
