-- A promise `told answer ≡ tell outcome` decides the answer: two answers that tell the same are one. So does `judged_as judged ≡ refusals` what was
-- judged. Assumes nothing.
use mathlib.Core.Path.{◌≡◌, refl, sym, ap, ◌∙◌}
use mathlib.Core.Bool.{cond}
use Prim.Native.Nat.{ℕ}
use lib.Dec.{eqb}
use Rattle.rules.specs.Sizes as rules
use Rattle.rules.specs.Sizes.{number, number_at, passes, stops, Outcome}
use Rattle.rules.proofs.Decided.{reading_decides}
use Rattle.std.specs.Prelude.{Some, None}
use Rattle.std.specs.declared.option.Option.{Option}
use Rattle.calls.specs.Answer.{Refusal, SizeOutOfBounds, SizesDiffer, WrongLength, BadCellSize, BadLimit, NegativeTime, OverBudget, Ok, Err, Judged, Answer, refusal_number, judged_as, Told, refusal, takes, told, tell}
use Rattle.calls.specs.Numbered.{Numbered, numbered_as}

-- From document 01's numbers back to the code's cases. What no case has is sent anywhere.
refusal_of : rules.Refusal → Refusal
refusal_of (number k) = cond (eqb k 1) SizeOutOfBounds (cond (eqb k 2) SizesDiffer (cond (eqb k 3) WrongLength (cond (eqb k 4) BadCellSize BadLimit)))
refusal_of (number_at k i) = cond (eqb k 6) (NegativeTime i) (OverBudget i)

answer_of : Told → Answer
answer_of (refusal r) = Err (refusal_of r)
answer_of (takes t) = Ok (record { takes = t })

refusal_back : (r : Refusal) → refusal_of (refusal_number r) ≡ r
unfolding refusal_of
refusal_back SizeOutOfBounds = refl
refusal_back SizesDiffer = refl
refusal_back WrongLength = refl
refusal_back BadCellSize = refl
refusal_back BadLimit = refl
refusal_back (NegativeTime i) = refl
refusal_back (OverBudget i) = refl

answer_back : (a : Answer) → answer_of (told a) ≡ a
unfolding answer_of
answer_back (Ok counts) = refl
answer_back (Err r) = ap Err (refusal_back r)

judged_of : rules.Judged → Judged
judged_of passes = Ok tt
judged_of (stops r) = Err (refusal_of r)

judged_back : (j : Judged) → judged_of (judged_as j) ≡ j
unfolding judged_of
judged_back (Ok passed) = refl
judged_back (Err r) = ap Err (refusal_back r)

-- Different refusals have different numbers or indices.
pub number_decides : (r s : Refusal) → refusal_number r ≡ refusal_number s → r ≡ s
number_decides r s same = sym (refusal_back r) ∙ ap refusal_of same ∙ refusal_back s

pub told_decides : (a b : Answer) → told a ≡ told b → a ≡ b
told_decides a b same = sym (answer_back a) ∙ ap answer_of same ∙ answer_back b

-- `judge_1` to `judge_8`: what two judgements say in document 01's numbers decides them.
pub judged_decides : (a b : Judged) → judged_as a ≡ judged_as b → a ≡ b
judged_decides a b same = sym (judged_back a) ∙ ap judged_of same ∙ judged_back b

pub refusals_decide : {refusals : rules.Judged} (a b : Judged) → judged_as a ≡ refusals → judged_as b ≡ refusals → a ≡ b
refusals_decide a b = reading_decides judged_as judged_decides a b

-- `Numbered`: so do two numbers, with an index or without one.
numbered_of : rules.Refusal → Numbered
numbered_of (number k) = record { number = k; index = None }
numbered_of (number_at k i) = record { number = k; index = Some i }

numbered_given : (k : ℕ) (index : Option ℕ) → numbered_of (numbered_as (record { number = k; index = index })) ≡ record { number = k; index = index }
unfolding numbered_of
numbered_given k None = refl
numbered_given k (Some i) = refl

numbered_back : (n : Numbered) → numbered_of (numbered_as n) ≡ n
numbered_back n = numbered_given n.number n.index

pub numbered_decides : {refusal : rules.Refusal} (a b : Numbered) → numbered_as a ≡ refusal → numbered_as b ≡ refusal → a ≡ b
numbered_decides a b = reading_decides numbered_as (λ m n same. sym (numbered_back m) ∙ ap numbered_of same ∙ numbered_back n) a b

pub outcome_decides : (outcome : Outcome) (a b : Answer) → told a ≡ tell outcome → told b ≡ tell outcome → a ≡ b
outcome_decides outcome a b = reading_decides told told_decides a b
