-- What a call leaves in the lent slices, computed for each kind of outcome. Assumes nothing.
use mathlib.Core.List.{List, [], ◌∷◌, map}
use mathlib.Core.Path.{◌≡◌, refl}
use Prim.Native.Nat.{ℕ}
use lib.Ieee.{nan}
use Rattle.binary32.specs.Numbers.{plus_zero, one}
use Rattle.rules.specs.Sizes.{number, number_at, Outcome, refused, accepted}
use Rattle.calls.specs.Answer.{answer_after, buffer_after}

-- A refusal with its number alone, one with an index, refusal 7, and acceptance.
abbrev outcomes : List Outcome
outcomes = refused (number 3) ∷ refused (number_at 6 0) ∷ refused (number_at 7 1) ∷ accepted 2 (one ∷ plus_zero ∷ []) ∷ []

-- Each number but 7 writes to no lent slice; after 7 the answer is NaN in each cell.
pub answers_left :
    map (λ outcome. answer_after outcome (one ∷ one ∷ [])) outcomes
    ≡ (one ∷ one ∷ []) ∷ (one ∷ one ∷ []) ∷ (nan ∷ nan ∷ []) ∷ (one ∷ plus_zero ∷ []) ∷ []
answers_left = refl

-- After 7 and after acceptance a work buffer is all zero.
pub buffers_left :
    map (λ outcome. buffer_after {A = ℕ} 0 outcome (5 ∷ 6 ∷ 7 ∷ [])) outcomes
    ≡ (5 ∷ 6 ∷ 7 ∷ []) ∷ (5 ∷ 6 ∷ 7 ∷ []) ∷ (0 ∷ 0 ∷ 0 ∷ []) ∷ (0 ∷ 0 ∷ 0 ∷ []) ∷ []
buffers_left = refl
