-- What is lent has the lengths that the program promises, by the number of slices beside the queue. Assumes nothing.
use mathlib.Core.Path.{◌≡◌}
use mathlib.Core.List.{List, [], ◌∷◌}
use Prim.Native.Nat.{ℕ}
use lib.Ieee.{Float}
use lib.ListN.{length}
use Rattle.rules.specs.declared.Size.{Size}
use Rattle.calls.specs.Given.{lent}
use Rattle.answer.specs.Answering.{lent_for}
use Rattle.answer.specs.Lending.{Lends}

module _ {size : Size} {cells distances : List Float} {marks listed adjacent added queue : List ℕ} (lends : Lends size cells distances marks listed adjacent added queue) where
  pub lent_for_2 : lent (length cells ∷ length marks ∷ []) (length queue) ≡ lent_for 2 size
  lent_for_2 = rw (lends.cells_long, lends.marks_long, lends.queue_long)

  pub lent_for_3 : lent (length cells ∷ length distances ∷ length marks ∷ []) (length queue) ≡ lent_for 3 size
  lent_for_3 = rw (lends.cells_long, lends.distances_long, lends.marks_long, lends.queue_long)

  pub lent_for_4 : lent (length cells ∷ length distances ∷ length marks ∷ length added ∷ []) (length queue) ≡ lent_for 4 size
  lent_for_4 = rw (lends.cells_long, lends.distances_long, lends.marks_long, lends.added_long, lends.queue_long)

  pub lent_for_5 : lent (length cells ∷ length distances ∷ length marks ∷ length listed ∷ length adjacent ∷ []) (length queue) ≡ lent_for 5 size
  lent_for_5 = rw (lends.cells_long, lends.distances_long, lends.marks_long, lends.listed_long, lends.adjacent_long, lends.queue_long)
